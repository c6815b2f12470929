-- Read in this order; the comment behind a name says what the file is for.
pub mod Asked  -- AreSure: each write is of a row that is sure
pub mod Laws  -- the laws
