pub mod CarriedLemmas
pub mod Phases
pub mod QueueLemmas
pub mod RequestLemmas
pub mod UnitLemmas
