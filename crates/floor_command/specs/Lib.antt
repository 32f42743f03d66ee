pub mod FloorParts
pub mod FloorRun
pub mod FloorScript
pub mod FloorText
pub mod inner
