-- Read in this order; the comment behind a name says what the file is for.
pub mod Amply  -- what was done where memory was never wanting was done; and what a tree then tells that tells no error which is looked for
pub mod Refusals  -- 701, 1205 and 1222 are looked for
pub mod Ends  -- so are DONEs that are the end, but for the last
pub mod Within  -- so is 49001
pub mod Small  -- and 49002
mod StandardFacts  -- worked exchanges
