pub mod Filling
pub mod Kept
pub mod Tables
pub mod Vaults
