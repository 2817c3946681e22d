pub mod Calls
pub mod Changes
pub mod Nesting
pub mod Redirections
