pub mod TellingLemmas
