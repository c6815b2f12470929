-- Read in this order; the comment behind a name says what the file is for.
pub mod Asked  -- what one asking adds to a seat
pub mod SharedPort  -- what the port tells of its past, and what has been done since an entry
