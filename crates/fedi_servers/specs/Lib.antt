pub mod Founding
pub mod Machines
