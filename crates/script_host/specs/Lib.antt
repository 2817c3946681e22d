pub mod Host
pub mod Lasting
pub mod Scripts
