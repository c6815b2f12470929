-- Read in this order; the comment behind a name says what the file is for.
pub mod Names  -- looked_up: the objects that a statement looks up; all_tables: which of them must be tables
pub mod Limits  -- what is refused in the end, where nothing else is
pub mod Values  -- values_query: the expressions of a statement as the items of a query
pub mod Writes  -- what INSERT, UPDATE and DELETE are bound to
pub mod Tables  -- what is refused of a CREATE TABLE, and what its CHECKs are bound to
pub mod Statements  -- bind, bind_checks: what a statement and a table's CHECKs are bound to
