pub mod VehicleFacts
pub mod VehicleLines
pub mod VehicleNumbers
pub mod VehicleText
pub mod inner
