pub mod Refined
pub mod Marks
pub mod Nestings
