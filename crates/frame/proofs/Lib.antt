pub mod Front
pub mod Run
pub mod Puts
pub mod Sizes
