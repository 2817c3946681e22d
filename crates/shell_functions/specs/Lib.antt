pub mod Funcs
