pub mod Joined  -- IsJoined and Leads: what loops keep that join tests by twos
mod StandardFacts  -- worked rows of the rules of types
