pub mod At
pub mod Delimiters
pub mod Parts
