pub mod Apart
pub mod Ends
pub mod Kept
pub mod Passing
pub mod Runs
pub mod Tables
