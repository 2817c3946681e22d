pub mod FunctionHeads
mod PrefixTakes
pub mod SharedPrefixes
pub mod Repetition
