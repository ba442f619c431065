pub mod Drafts
pub mod Items
pub mod Members
pub mod Pages
