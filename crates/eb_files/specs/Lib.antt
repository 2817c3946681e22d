pub mod Causes
pub mod Files
pub mod Paths
pub mod Plans
pub mod Trees
pub mod Written
