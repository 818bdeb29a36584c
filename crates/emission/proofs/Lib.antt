pub mod Exact
pub mod Within
pub mod Bounds
pub mod Entered
