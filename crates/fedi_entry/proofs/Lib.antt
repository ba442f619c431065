pub mod CodeLemmas
pub mod EntryLemmas
pub mod Formed
pub mod Loop
pub mod ReadEntries
pub mod ReadObjects
pub mod ReadingLemmas
pub mod Texts
