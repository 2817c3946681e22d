pub mod Closed
pub mod Kept
pub mod Sequencing
pub mod Spent
