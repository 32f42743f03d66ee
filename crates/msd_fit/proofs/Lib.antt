pub mod Stored
pub mod Lengths
pub mod Choice
pub mod Arcs
