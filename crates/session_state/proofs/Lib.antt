pub mod Assigning
pub mod Casting
pub mod Ending
pub mod Fitting
pub mod Readiness
pub mod Stepping
