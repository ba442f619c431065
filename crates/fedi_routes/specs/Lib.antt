pub mod Memory
pub mod Patterns
pub mod Posts
pub mod Table
