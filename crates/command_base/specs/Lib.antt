pub mod Ends
pub mod LineCommands
pub mod Outcome
pub mod Refusals
pub mod Status
pub mod inner
