pub mod Clauses
pub mod FixedOptions
