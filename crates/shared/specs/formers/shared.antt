-- One module for each owner of the crate's module `shared`.
pub mod Shared
