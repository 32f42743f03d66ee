pub mod ComingLemmas
pub mod FeedLemmas
pub mod FrameLemmas
pub mod NextLemmas
pub mod RanksLemmas
pub mod RequestsLemmas
pub mod StreamLemmas
