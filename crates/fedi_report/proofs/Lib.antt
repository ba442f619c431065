mod Blocks
mod Exported
mod Pieces
pub mod RowLemmas
pub mod Selecting
