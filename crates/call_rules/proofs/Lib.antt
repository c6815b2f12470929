mod Lists
mod Named
mod Slots
mod Outcomes
mod StandardFacts
