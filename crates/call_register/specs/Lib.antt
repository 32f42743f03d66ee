pub mod Growth
pub mod Rows
pub mod Table
pub mod Text
pub mod Vins
pub mod inner
