pub mod Given
pub mod Paid
pub mod Told
