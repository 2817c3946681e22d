pub mod EmptyLists
