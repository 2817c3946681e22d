pub mod At
pub mod Marks
