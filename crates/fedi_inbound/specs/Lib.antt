pub mod Receptions
pub mod Verdicts
