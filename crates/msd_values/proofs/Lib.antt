pub mod AdditionFacts
pub mod Chains
pub mod CivilFacts
pub mod GroupFacts
pub mod PassedFacts
pub mod SameFacts
pub mod VinFacts
