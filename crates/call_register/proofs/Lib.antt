pub mod PlainLemmas
pub mod TableLemmas
pub mod RowLemmas
pub mod TextLemmas
pub mod VinLemmas
