pub mod Keeping
pub mod Machine
pub mod Numbers
pub mod Outcome
pub mod Value
pub mod Variables
