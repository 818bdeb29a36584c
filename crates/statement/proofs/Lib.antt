pub mod Reading
pub mod Fitting
pub mod Writing
