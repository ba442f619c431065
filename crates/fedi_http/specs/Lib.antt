pub mod Moves
pub mod Heads
pub mod Chunks
pub mod Readings
pub mod Arrivals
pub mod Sending
pub mod Fields
pub mod Spans
