pub mod FillingSteps
pub mod Rows
pub mod Steps
pub mod TableSteps
pub mod Texts
