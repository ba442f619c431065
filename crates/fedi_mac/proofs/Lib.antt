pub mod Differences
pub mod Examples
pub mod Pads
