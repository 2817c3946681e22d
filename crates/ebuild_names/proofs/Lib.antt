pub mod BadKind
pub mod Cuts
pub mod Ends
pub mod Examples
pub mod Named
pub mod Paths
pub mod Texts
