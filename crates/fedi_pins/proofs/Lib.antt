mod Boards
mod Candidates
mod Changes
mod Holding
mod Listed
mod Positions
mod Slugs
mod Written
