pub mod Clean
pub mod Once
pub mod Shown
pub mod Written
