pub mod Faults
pub mod Rules
pub mod Views
pub mod Records
