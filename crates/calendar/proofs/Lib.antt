mod Sums
pub mod Places
