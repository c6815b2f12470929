pub mod Table  -- the locks of each session
-- Cited by private contracts only
pub mod BySession  -- what is kept by numbers of sessions
pub mod Places  -- where the pairs on a resource are found
