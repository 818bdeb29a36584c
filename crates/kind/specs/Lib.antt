pub mod Faults
pub mod Subject
pub mod Kinds
pub mod Tiers
