pub mod Spending
pub mod Text
