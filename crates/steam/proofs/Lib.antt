mod Rows
mod Weights
mod Search
pub mod Values
