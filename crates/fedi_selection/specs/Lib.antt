pub mod ActRows
pub mod Acts
pub mod Databases
pub mod Laying
pub mod MemorySelections
pub mod Selections
pub mod Tables
