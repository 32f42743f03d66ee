pub mod ListenerLaws
pub mod Mutings
pub mod Tallying
