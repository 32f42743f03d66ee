pub mod Point
pub mod PointKept
pub mod PointOwes
pub mod PointRows
pub mod SessionStands
pub mod inner
