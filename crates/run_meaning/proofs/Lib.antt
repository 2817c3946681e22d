mod Assumed
pub mod BroughtBack
mod Built
mod Closed
mod Commands
pub mod CommandsKept
mod Examples
mod Given
mod JumpsPaid
pub mod LoopsKept
pub mod Paid
pub mod PartsKept
mod RedirectionsMade
mod RunsClosed
pub mod RunsKept
mod Scripts
mod SideBySide
mod Surrounded
