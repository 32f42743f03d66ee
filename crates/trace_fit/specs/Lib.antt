pub mod inner
pub mod Links
pub mod Order
pub mod Seats
