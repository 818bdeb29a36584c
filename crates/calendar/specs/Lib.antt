pub mod Calendar
pub mod Months
pub mod Faults
pub mod Laws
