pub mod Seen
pub mod Reads
pub mod Ends
pub mod Reserved
pub mod Known
