pub mod Lists
pub mod Nesting
pub mod Statements
pub mod Batches
