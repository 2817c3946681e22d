pub mod Answer
pub mod Case
pub mod Cost
pub mod Cut
pub mod Replacement
pub mod Stripping
