-- Read in this order; the comment behind a name says what the file is for.
pub mod Formed  -- is_formed_bound: which statements that are bound are well formed
pub mod Laws  -- BoundFormed, TableCreated, ChecksFormed: the laws
