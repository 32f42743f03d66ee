pub mod KeepingLemmas
pub mod LinesLemmas
pub mod PartsLemmas
