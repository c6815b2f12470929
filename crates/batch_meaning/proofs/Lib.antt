pub mod Composed
pub mod OneReading
pub mod Unseen
mod StandardFacts
mod RpcFacts
mod Kept
mod DriverFacts
