-- What is cited by private functions and by laws alone.
pub mod Changes
pub mod FloorAt
pub mod Order
pub mod Placed
pub mod Subjects
pub mod TaggedLaws
