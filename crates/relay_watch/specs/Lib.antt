pub mod Clocks
pub mod Hears
pub mod Watching
pub mod inner
