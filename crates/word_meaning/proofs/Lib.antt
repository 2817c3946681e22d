pub mod Built
mod Closed
mod Evaluated
pub mod Frames
pub mod Lasting
pub mod OperatorsKept
pub mod PartsKept
pub mod ReferencesKept
pub mod Respected
mod Rows
pub mod WordsKept
