pub mod Declarations
pub mod Effects
pub mod Faults
pub mod Options
pub mod Shown
