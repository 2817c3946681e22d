mod Compiled
mod Executed
mod Powers
mod Rows
pub mod Traces
