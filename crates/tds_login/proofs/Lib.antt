pub mod Options
pub mod Refusals
pub mod Granted
pub mod Behind
