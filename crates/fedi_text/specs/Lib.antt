pub mod Clocks
pub mod Dates
pub mod Decimals
