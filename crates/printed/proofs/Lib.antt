pub mod Lines
pub mod Alone
pub mod Booked
pub mod Short
