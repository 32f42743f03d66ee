pub mod Object
pub mod Told
