pub mod Evaluated
pub mod Matched
mod Rows
pub mod Ruled
