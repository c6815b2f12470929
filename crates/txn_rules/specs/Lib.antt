-- Read in this order; the comment behind a name says what the file is for.
pub mod Savepoints  -- mark_of: the mark of the latest savepoint of a name
pub mod State  -- what each statement on transactions makes of the state, and which errors refuse it
