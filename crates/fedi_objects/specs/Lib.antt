pub mod Forms
pub mod Keys
pub mod Kinds
pub mod Limits
pub mod Objects
pub mod Views
pub mod Writing
