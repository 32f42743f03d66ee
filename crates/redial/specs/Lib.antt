pub mod Series
pub mod SeriesRows
pub mod inner
