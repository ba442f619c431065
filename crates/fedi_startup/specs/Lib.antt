pub mod Faults
pub mod Making
pub mod Stores
pub mod Surviving
pub mod Vaults
