pub mod Equations
pub mod TestEquations
pub mod Nesting
