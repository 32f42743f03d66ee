pub mod Bad
pub mod Degrees
pub mod Json
pub mod Object
pub mod Told
