mod Compiled
mod Counted
mod Cut
mod InRow
mod Lasting
mod Paid
