pub mod Codes
pub mod Fields
pub mod Limits
pub mod Reading
