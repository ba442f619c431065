pub mod Adding
pub mod NewMachines
pub mod Positions
pub mod Refusing
pub mod Setting
