pub mod SelectEquations
