pub mod Faults
pub mod Statement
pub mod Laws
