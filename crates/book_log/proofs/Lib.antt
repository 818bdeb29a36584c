pub mod Offerings
