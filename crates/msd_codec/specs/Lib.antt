pub mod Module
pub mod Trees
pub mod Formats
pub mod Sets
pub mod Places
pub mod Canonical
pub mod Reading
pub mod inner
