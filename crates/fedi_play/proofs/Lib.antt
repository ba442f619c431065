pub mod Asking
pub mod Ending
pub mod Hosts
pub mod Leading
pub mod Starting
pub mod Texts
