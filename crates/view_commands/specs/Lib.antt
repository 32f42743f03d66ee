pub mod Endings
pub mod inner
pub mod Subjects
