pub mod BodyOf
pub mod Reversed
pub mod Rising
