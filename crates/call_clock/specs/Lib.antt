pub mod Clock
pub mod Timers
