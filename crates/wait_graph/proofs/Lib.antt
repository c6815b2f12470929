pub mod Ranks
pub mod Trails
pub mod Backward
pub mod Steps
pub mod Listed
pub mod Follows
pub mod Searches
