-- Read in this order; the comment behind a name says what the file is for.
pub mod Asked  -- AskOnly: exchanges that ask operations of one kind alone
pub mod Paths  -- IsDone: what the work of a statement that succeeded has asked, part by part
pub mod Laws  -- WorkDone, WorkFailed: the laws
pub mod Cursors  -- IsOpened: what OPEN of a cursor has asked, and its law
