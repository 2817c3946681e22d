pub mod AnsiParts
pub mod Opened
mod Rows
mod RowsNesting
mod RowsRead
mod RowsRefused
pub mod Keeps
pub mod Repetition
pub mod Bodies
pub mod Shorter
pub mod ShorterWords
pub mod ShorterCommands
