pub mod Judging
pub mod Keeping
pub mod Commands
pub mod Machines
pub mod Crashing
pub mod Delivering
pub mod Drafts
pub mod Opening
