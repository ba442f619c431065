pub mod Seating
pub mod Serving
