pub mod Carried
pub mod OfRun
pub mod Relay
pub mod Scenes
pub mod inner
