pub mod Adding
pub mod DocumentParts
pub mod Found
pub mod ItemTokens
