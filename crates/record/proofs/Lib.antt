pub mod Chain
pub mod Reading
pub mod Lawful
pub mod Writing
