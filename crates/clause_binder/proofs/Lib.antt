mod AggregateWords
mod ByName
mod RowColumns
pub mod Failing
mod Sameness
mod SelectFacts
mod StandardFacts
mod Variables
