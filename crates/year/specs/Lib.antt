pub mod Law
pub mod Opened
pub mod Replayed
