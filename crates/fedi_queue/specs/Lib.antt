pub mod Claims
pub mod Due
pub mod Holding
pub mod Queues
pub mod Rows
