-- A definition that only contracts of private functions cite. No public contract rests on it.
pub mod Words
