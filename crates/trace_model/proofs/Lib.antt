pub mod Folds
pub mod Fronts
mod HandTraces
pub mod LegsHeard
pub mod LegsLemmas
pub mod TallyLemmas
