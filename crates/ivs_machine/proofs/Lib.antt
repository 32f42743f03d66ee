pub mod CallPasses
pub mod Hears
pub mod Made
pub mod SeriesPasses
pub mod Ticks
pub mod VehicleOwed
