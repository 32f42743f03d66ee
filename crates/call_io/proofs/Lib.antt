pub mod BlockLemmas
pub mod BytesLemmas
pub mod CountsLemmas
