pub mod Delivered
pub mod Posted
pub mod PostedActivity
pub mod SameCallers
