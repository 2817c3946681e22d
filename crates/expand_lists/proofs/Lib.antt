mod Fitted
mod Paid
