pub mod Grown
pub mod Heard
pub mod Tokens
