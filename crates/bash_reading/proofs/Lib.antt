pub mod Below
pub mod Binds
pub mod SkipsAfter
