pub mod LoginParts
pub mod Lined
pub mod OneTurn
pub mod Ways
pub mod Completed
pub mod StandardFacts
