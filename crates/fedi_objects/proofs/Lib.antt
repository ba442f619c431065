pub mod Additions
pub mod FormLemmas
pub mod KeyLemmas
pub mod Ordered
pub mod Slots
