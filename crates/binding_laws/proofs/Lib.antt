-- Read in this order; the comment behind a name says what the file is for.
pub mod Lists  -- what is true of each of a list
pub mod Parts  -- what expressions and tests by themselves are bound to
pub mod Alike  -- what is found of nodes over one row
pub mod RowAlone  -- over a row alone the same is found, whatever else may be read
pub mod Created  -- CREATE TABLE
pub mod Checks  -- CHECKs
pub mod Made  -- selects, and statements of expressions
pub mod Writes  -- INSERT, UPDATE and DELETE
pub mod Statements  -- statements
