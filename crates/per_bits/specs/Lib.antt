pub mod Alphabet
pub mod Bits
pub mod Parts
pub mod Reasons
