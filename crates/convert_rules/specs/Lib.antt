-- Read in this order; the comment behind a name says what the file is for.
pub mod Reading  -- number_in: the whole number that a text spells
pub mod Conversion  -- converted and cast_of: the table of conversions
pub mod Errors  -- error_of: the number of the error that a fault is
-- What private contracts alone cite.
pub mod Partial  -- numbers of texts as far as they fit 64 bits
