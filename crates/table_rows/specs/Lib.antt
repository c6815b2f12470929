-- Read in this order; the comment behind a name says what the file is for.
pub mod Rows  -- row_fits: which rows are rows of a table; index_columns: which index parts it has; shape_of: the table of that name
pub mod Definitions  -- IsDefinitionOf: what a row of `objects` defines
-- private words
pub mod IndexColumns  -- values_behind: the values of an index row
