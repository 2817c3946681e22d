pub mod Conversions
pub mod Digits
pub mod Escapes
pub mod Fields
pub mod Formats
pub mod Texts
pub mod Words
