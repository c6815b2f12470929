-- Read in this order; the comment behind a name says what the file is for.
pub mod Login  -- login_of: what a payload says as a LOGIN7, or why it is refused
pub mod Prelogin  -- prelogin_of: what a payload says as a PRELOGIN; prelogin_reply
pub mod Verdict  -- judge_login: who may log in; login_reply
-- Cited by private contracts alone.
pub mod Walk  -- what is kept while options are walked over
pub mod Inside  -- where the code may read a field
