pub mod Subshells
