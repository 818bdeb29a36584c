pub mod Split
pub mod Canon
pub mod Main
