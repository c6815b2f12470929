-- Read in this order; the comment behind a name says what the file is for.
pub mod Keys  -- the values of a key, one after another
pub mod PartColumns  -- the columns of index parts by their places
pub mod IndexRows  -- the values of an index row
pub mod Columns  -- the places of columns, and index rows of rows that fit
pub mod StandardFacts  -- worked rows of the rules
