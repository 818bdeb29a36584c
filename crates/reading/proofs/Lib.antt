pub mod Exactly
pub mod Round
pub mod Pattern
pub mod Kept
pub mod Places
pub mod Joined
