pub mod BadKind
pub mod Form
pub mod Laws
pub mod Path
pub mod Walk
