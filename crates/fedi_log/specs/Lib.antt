pub mod Claims
pub mod Keeping
pub mod Leaving
pub mod Lives
pub mod Log
