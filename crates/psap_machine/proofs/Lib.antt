pub mod Asked
pub mod Content
pub mod Hears
mod Played
pub mod PointOwed
pub mod Settled
pub mod Ticks
