pub mod Blocks
pub mod Hosts
pub mod Iris
pub mod Names
pub mod Pieces
pub mod Recipients
