mod Appended
pub mod OneDemo
pub mod VisitLemmas
