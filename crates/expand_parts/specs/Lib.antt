pub mod Acts
pub mod Deeds
pub mod Nexts
pub mod Params
pub mod Rest
