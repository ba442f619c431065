pub mod ClosingSteps
pub mod MakingSteps
pub mod OneAnswer
pub mod OpeningSteps
pub mod Stored
pub mod Surviving
pub mod Told
mod VaultSteps
