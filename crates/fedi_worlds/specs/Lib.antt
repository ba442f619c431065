pub mod Events
pub mod Promises
pub mod Steps
pub mod Worlds
