pub mod Calls
pub mod Changes
pub mod Elements
pub mod Histories
pub mod Refused
pub mod Store
pub mod Stores
pub mod Value
