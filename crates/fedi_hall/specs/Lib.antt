pub mod Lobbies
pub mod Locks
pub mod Serving
pub mod Stations
pub mod Works
