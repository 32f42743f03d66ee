pub mod Kinds
pub mod Types
pub mod Spelling
pub mod Stops
pub mod Writing
pub mod Reading
pub mod inner
