pub mod Hosts
pub mod NoHost
