pub mod ItemLine
pub mod RelayLines
