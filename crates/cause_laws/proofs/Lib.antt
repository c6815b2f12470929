-- Read in this order; the comment behind a name says what the file is for.
pub mod Usual  -- which numbers are none of those that are looked for: those of conversions, expressions and queries
pub mod UsualBinding  -- those by which what is bound one after another is refused
pub mod UsualTrees  -- those by which expressions, tests and selects are
pub mod UsualBound  -- those by which a statement is
pub mod UsualChanges  -- those by which a write is
pub mod UsualValues  -- those of what a statement makes of values
pub mod Watch  -- what is looked for
pub mod Clean  -- trees that tell it in no token
pub mod CleanDialogs  -- the dialogs of reading and writing are such
pub mod CleanParts  -- so are the parts of statements
pub mod CleanForms  -- so are CREATE, and the statements on transactions and cursors
pub mod Locks  -- the errors of locks are looked for
pub mod Causes  -- an error of a lock is told only where the engine has replied so
pub mod Passing  -- points of what was done
pub mod Silent  -- parts of statements that send nothing
pub mod Unlocked  -- what ends statements asks for no lock
pub mod Shown  -- what was done shows the cause of each error of a lock
pub mod Alone  -- so does a statement that runs no other
pub mod Telling  -- each statement shows the cause of what it tells
pub mod Batches  -- so do batches and calls by RPC
mod StandardFacts  -- worked exchanges
