pub mod Fault
pub mod Outcome
pub mod Refused
pub mod Told
pub mod inner
