pub mod Clearing
pub mod Lies
pub mod Ordered
pub mod Picking
pub mod Rows
pub mod Steps
pub mod Texts
pub mod Transactions
