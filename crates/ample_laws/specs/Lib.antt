-- Read in this order; the comment behind a name says what the file is for.
pub mod Ample  -- Ample: what was done where memory was never wanting
pub mod Small  -- Small: what was done where no result was more than its limit
pub mod Telling  -- TellsOnly, EndsWith: which errors tokens tell, and that they end with a last one
pub mod Laws  -- AmpleBatches, BatchesEnd, BatchesWithin, SmallBatches and their like: the laws
