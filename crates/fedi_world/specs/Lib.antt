pub mod Ending
pub mod Happenings
pub mod Posting
pub mod Reading
pub mod Scenes
pub mod Standing
pub mod Starting
pub mod Taking
