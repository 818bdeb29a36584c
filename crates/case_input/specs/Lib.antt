pub mod Reads
pub mod Text
