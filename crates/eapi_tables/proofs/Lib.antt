pub mod EapiParts
pub mod Keys
pub mod Phases
pub mod Runs
pub mod TextEapi
