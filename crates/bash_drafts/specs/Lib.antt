pub mod Drafts
pub mod Inners
