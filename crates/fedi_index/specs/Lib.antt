pub mod Candidates
pub mod Growing
pub mod Lists
pub mod Readers
pub mod Shelves
