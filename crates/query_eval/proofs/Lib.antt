pub mod Places
pub mod Each
pub mod Equals
pub mod Fewer
pub mod Images
pub mod Inner
pub mod JoinCalls
pub mod JoinSteps
pub mod KeyTests
pub mod Reading
pub mod TablesRead
pub mod Steps
mod StandardFacts
