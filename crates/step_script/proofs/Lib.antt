mod Counts
mod Cuts
mod Joins
mod Sizes
