-- Read in this order; the comment behind a name says what the file is for.
pub mod Numbers  -- session_in, mark_in, long_in, priority_in: the numbers that words spell
pub mod Pieces  -- pieces and pieces_behind: a text cut at a byte
pub mod Lines  -- line_in: the line that a text spells, and Reads: what a reader of it gives
pub mod Printed  -- printed_of: the line that a reply is printed as
-- What private contracts alone cite.
pub mod Partial  -- numbers of words as far as they fit 64 bits
