pub mod Costs
pub mod Held
pub mod Maps
pub mod Pages
