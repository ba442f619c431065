pub mod Benches
pub mod Doors
pub mod System
pub mod Untold
