-- Read in this order; the comment behind a name says what the file is for.
pub mod Each  -- steps one behind another: a fault stands
pub mod Pairs  -- two lists at once
pub mod IndexSteps  -- the changes of index parts
pub mod Filled  -- the next value of a row
pub mod Updated  -- the steps of an UPDATE
pub mod Held  -- what a dialog comes to, from its parts
pub mod Fetched  -- the tables of a query, its inner queries' first
pub mod ReadTables  -- the tables of what is read for a statement
pub mod Widths  -- how many values the keys of a part have
pub mod RangeSteps  -- ranges and parts, by a loop
pub mod KeySteps  -- index rows that are asked for, and changes as they were found, by a loop
pub mod Writes  -- what comes of a change and of a check
pub mod Halts  -- how it is told why changes are taken back
mod StandardFacts  -- worked rows
