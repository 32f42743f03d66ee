pub mod Clock
pub mod Groups
pub mod Waiting
