pub mod Carried
pub mod Desk
pub mod RelayStands
pub mod Requests
pub mod Waits
pub mod inner
