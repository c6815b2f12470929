-- Read in this order; the comment behind a name says what the file is for.
pub mod Equals  -- firsts and classes: rows that are equal
pub mod Ordered  -- ordered: rows in the order of their keys
pub mod Totals  -- total: what an aggregate makes of a class's values
-- What private contracts alone cite.
pub mod Steps  -- what one value more makes of the first of those before it
