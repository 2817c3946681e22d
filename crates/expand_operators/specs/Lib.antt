pub mod Changes
pub mod Cuts
