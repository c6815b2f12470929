-- Read in this order; the comment behind a name says what the file is for.
pub mod Spots  -- the keys at which changes insert, one change after another
pub mod Lists  -- what is true of each element of a list, and of some
pub mod Behind  -- the rows of a database behind changes of one table
pub mod StandardFacts  -- worked rows of the rules
pub mod Judging  -- what the rows that were read say of the database
pub mod Keeping  -- changes that pass all checks keep the constraints of all tables
