pub mod Entry
pub mod Parts
pub mod Record
