pub mod Capped
pub mod Taken
