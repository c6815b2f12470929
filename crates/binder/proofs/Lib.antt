mod Known
mod StandardFacts
