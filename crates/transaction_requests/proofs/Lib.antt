pub mod Sizes
pub mod StandardFacts
