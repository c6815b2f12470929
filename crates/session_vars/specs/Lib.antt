-- Read in this order; the comment behind a name says what the file is for.
pub mod Variables  -- place_of: the place of a name among the variables
