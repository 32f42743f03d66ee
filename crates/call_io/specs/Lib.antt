pub mod Blocks
pub mod Bytes
pub mod Counts
pub mod Memories
pub mod Real
pub mod Ways
pub mod inner
