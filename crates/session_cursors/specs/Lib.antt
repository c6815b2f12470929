-- Read in this order; the comment behind a name says what the file is for.
pub mod Answers  -- AnswerLeft: what is left of an answer; HasKinds: a row of these types
pub mod Faults  -- number_of: the number of the error that a fault is
pub mod Cursors  -- declared, filled, fetched, closed, removed: what each statement makes of the cursors, and its refusals
