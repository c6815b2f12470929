pub mod Parsed  -- what parsing gives
