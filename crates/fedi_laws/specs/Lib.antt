pub mod ClubBoards
pub mod ClubFollows
pub mod ClubObjects
pub mod ClubPeers
pub mod Fixture
pub mod SignedRequests
pub mod Statements
