pub mod IvsStands
pub mod Vehicle
pub mod VehicleKept
pub mod VehicleOwes
pub mod VehicleRows
pub mod inner
