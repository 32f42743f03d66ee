pub mod Messages
pub mod MessageReading
pub mod PartReading
pub mod Rounds
