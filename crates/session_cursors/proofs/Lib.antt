mod Named
mod Keeping
mod StandardFacts
