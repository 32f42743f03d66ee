pub mod Clock
pub mod Due
