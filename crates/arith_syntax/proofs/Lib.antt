mod Rows
pub mod Digits
pub mod Grown
pub mod Hashes
pub mod Rules
