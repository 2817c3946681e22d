pub mod Operators
pub mod Parameters
