pub mod Exports
pub mod Reports
pub mod Selections
pub mod Tables
