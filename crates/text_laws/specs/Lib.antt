-- Read in this order; the comment behind a name says what the file is for.
pub mod Slices  -- moved_by, end_behind: the lexemes of a slice of a text
pub mod Rows  -- table_leaves: which trees leave the row that they stand over
pub mod Placeless  -- AreLike: definitions that differ in places alone
pub mod Laws  -- SliceLexes, CreatedReads, CreatedStays, DefinedText, ServedText, ServedCall: the laws
