pub mod Commands
pub mod Completeness
pub mod Replies
pub mod inner
