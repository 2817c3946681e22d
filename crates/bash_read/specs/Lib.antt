pub mod Lines
pub mod Options
pub mod Parts
pub mod Read
pub mod Seen
