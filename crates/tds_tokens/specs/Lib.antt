-- Read in this order; the comment behind a name says what the file is for.
pub mod Numbers  -- the numbers of [MS-TDS]: tags, status and command of DONE, kinds of ENVCHANGE
pub mod Spelling  -- TokenBytes: the bytes of tokens
pub mod Fit  -- FitTokens: which tokens have a spelling
pub mod Ranges  -- AreTokens: which tokens there are
pub mod Answer  -- what reading bytes as tokens answers
-- Cited by private contracts alone.
pub mod Reading  -- token_at: reading from left to right
