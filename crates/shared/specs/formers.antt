-- One module for each module of the crate that has an owner.
pub mod shared
