-- Read in this order; the comment behind a name says what the file is for.
pub mod Phases  -- rows_given: what comes of the joined rows of a query, phase by phase
pub mod KeyTests  -- rows_read: the key tests of a reference, by which its rows are read
pub mod Joining  -- joined_refs: the references of a query, read and joined under the budget
pub mod Ans  -- Ans: the answer of a query on images, which stand for its references_of
pub mod Given  -- tables_read, GivesRows: the tables that images are of, and rows without names and types
pub mod Targets  -- inner_answers, rows_meant: what a write asks of queries
-- What private contracts alone cite.
pub mod Found  -- Finds: an answer within the crate is the outcome that is meant
pub mod Sides  -- test_side: what a side of a comparison is, as the code has it
pub mod Places  -- rows_at_places: rows by their places in a list
