pub mod Vaults
