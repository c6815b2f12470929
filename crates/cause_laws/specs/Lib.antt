-- Read in this order; the comment behind a name says what the file is for.
pub mod Causes  -- StatementCauses, BatchCauses, CallCauses: an error of a lock is told only where the engine has replied so
pub mod Statements  -- StatementTells, BatchTells, CallTells: each has its cause in the exchanges of one statement
