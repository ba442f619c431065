pub mod Attempting
pub mod Ending
pub mod Knowing
pub mod Seating
pub mod Sent
pub mod Turning
pub mod Working
