pub mod Demonstrating
pub mod Draws
pub mod Requests
pub mod Summary
