pub mod KeptLemmas
pub mod PieceLemmas
pub mod PiecesLemmas
pub mod PutLemmas
pub mod StandsLemmas
pub mod TellerLemmas
pub mod TellingLemmas
pub mod ToldLemmas
