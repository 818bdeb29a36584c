pub mod Along
pub mod Counting
pub mod Once
