pub mod Inputs
pub mod Keeping
pub mod Lines
pub mod Parts
pub mod Watched
