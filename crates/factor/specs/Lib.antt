pub mod Limits
pub mod Classes
pub mod Questions
pub mod Faults
pub mod Printed
pub mod PlantRows
pub mod Laws
pub mod Limited
