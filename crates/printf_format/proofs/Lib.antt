pub mod Appended
pub mod Fillings
pub mod Spelt
pub mod Used
pub mod Values
