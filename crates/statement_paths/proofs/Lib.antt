-- Read in this order; the comment behind a name says what the file is for.
pub mod Only  -- trees that make only such steps, and ask only such operations
pub mod Asking  -- which operations the dialogs of a statement ask
pub mod Still  -- what reads alone changes nothing of the session, and what is written but for its locks
pub mod Apart  -- a tree is taken apart
pub mod Dialogs  -- a dialog is taken apart
pub mod Looking  -- what was looked up, and what is defined
pub mod Working  -- what each statement has asked within its transaction
pub mod Failing  -- what it has asked where it failed
pub mod Changing  -- what a write has asked up to where its triggers run
pub mod Dropping  -- what DROP has asked
pub mod Works  -- what the work of a statement leaves of its session
pub mod Owned  -- in the open transaction, or in one of its own
pub mod Statements  -- what a statement that is done with what it came to has asked
pub mod Creating  -- what CREATE TABLE has asked
pub mod Naming  -- what DROP and EXEC have asked, by what stands under their name
pub mod Defining  -- what CREATE PROCEDURE and CREATE TRIGGER have asked
pub mod Unasked  -- where a statement asks nothing
pub mod Writes  -- what INSERT, UPDATE and DELETE have asked, without triggers and up to where they run
pub mod Cursors  -- what the statements on cursors ask
pub mod Opening  -- what OPEN of a cursor has asked
pub mod Laws  -- the laws
mod StandardFacts  -- worked parts
