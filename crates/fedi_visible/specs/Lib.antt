pub mod Drafts
pub mod Excerpts
pub mod Pins
pub mod Places
pub mod Shelves
