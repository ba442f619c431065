mod Added
mod Again
mod Coming
mod Found
mod Inboxes
mod Listed
mod NextEntry
mod Owners
mod Positions
mod Pushed
mod Readers
mod Rooms
mod SameKind
pub mod Sent
mod Shelved
mod TypeLists
