pub mod Options
pub mod Refused
pub mod Seen
pub mod Set
pub mod Shopt
pub mod Use
