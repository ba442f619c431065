pub mod AdmissibleLimits
pub mod Answers
pub mod Keys
pub mod Records
pub mod Times
