pub mod ClockLemmas
pub mod DateLemmas
pub mod DecimalLemmas
