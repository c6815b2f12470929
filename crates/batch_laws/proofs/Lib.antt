-- Read in this order; the comment behind a name says what the file is for.
pub mod Dialogs  -- all ways that a dialog may go
pub mod Writes  -- what is read changes nothing, and changes stay whole or not at all
pub mod Leaving  -- what exchanges leave of a transaction, part by part
pub mod Named  -- the work of DROP, EXEC and CREATE TRIGGER
pub mod Opened  -- in an open transaction the work of a statement keeps the state of it
pub mod Idle  -- plain statements open no transaction
pub mod Variables  -- a statement that succeeds assigns nothing before it tells its effect
pub mod Statements  -- what a statement leaves of its transaction
pub mod Ending  -- how a statement ends, and what it has sent
pub mod Telling  -- what a statement tells, and what only reads
pub mod Writing  -- a write, with its triggers or without
pub mod Transactions  -- BEGIN TRANSACTION, COMMIT, ROLLBACK and SAVE TRANSACTION
pub mod Unseen  -- what begins a transaction unseen, and what begins none
pub mod Turns  -- statements one after another
pub mod Batches  -- a batch of plain statements
pub mod Defining  -- a batch that defines a procedure or trigger
pub mod Lefts  -- plain statements that were left
pub mod Control  -- what a statement does by its form
pub mod Implicit  -- under IMPLICIT_TRANSACTIONS ON plain statements commit nothing
pub mod Cursors  -- the statements on cursors
pub mod Settled  -- whether a transaction is open between two statements
pub mod Paths  -- each commit ends the transaction of a statement
mod StandardFacts  -- worked exchanges
