mod Followed
pub mod Forms
mod LinesAfterBlanks
mod LoopWords
mod Tests
