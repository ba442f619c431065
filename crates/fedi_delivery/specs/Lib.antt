pub mod Deliveries
pub mod Examples
pub mod Exchanges
pub mod Replies
pub mod Sending
