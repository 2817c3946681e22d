pub mod Code
pub mod Constants
pub mod Expression
pub mod Names
pub mod Putting
pub mod Reading
pub mod Symbols
pub mod Tails
