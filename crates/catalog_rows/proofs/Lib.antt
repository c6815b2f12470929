-- Read in this order; the comment behind a name says what the file is for.
pub mod Fitting  -- rows that fit are of the types of their columns
pub mod Defining  -- what a row defines
