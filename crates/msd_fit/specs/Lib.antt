pub mod Candidates
pub mod Fitting
pub mod Stored
pub mod inner
