pub mod Faults
pub mod Format
pub mod Reading
pub mod Runs
pub mod Tags
pub mod Views
pub mod Written
