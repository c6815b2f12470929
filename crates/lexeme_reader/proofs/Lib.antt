pub mod Steps
pub mod Ways
pub mod Front
pub mod NameRules
