pub mod Alone
pub mod Kept
pub mod Raised
pub mod Sound
mod StandardFacts
