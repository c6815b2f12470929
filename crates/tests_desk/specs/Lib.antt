pub mod Adding  -- the machine that adds, and its steps
pub mod AddingLaws  -- its laws
