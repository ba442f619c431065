mod Again
mod Costs
pub mod Excerpted
pub mod Firsts
pub mod Items
pub mod Listed
pub mod Pages
pub mod Scanned
pub mod ShownForms
