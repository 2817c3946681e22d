pub mod Echo
pub mod Printf
pub mod Printing
pub mod Seen
pub mod Use
