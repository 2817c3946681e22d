pub mod Refine
pub mod RefineWords
pub mod RefineCommands
pub mod Ignore
pub mod IgnoreWords
pub mod IgnoreClosed
pub mod NoReadings
