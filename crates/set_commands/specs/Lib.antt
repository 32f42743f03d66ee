pub mod Conform
pub mod Decode
pub mod Encode
pub mod Frames
pub mod inner
