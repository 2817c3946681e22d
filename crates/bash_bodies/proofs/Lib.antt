pub mod Owns
pub mod Skipped
pub mod Stops
