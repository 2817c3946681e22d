pub mod Joined
pub mod Results
