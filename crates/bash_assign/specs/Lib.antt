pub mod Arrays
pub mod Assignments
pub mod Values
