-- Read in this order; the comment behind a name says what the file is for.
pub mod Shut  -- where no transaction is open nothing is left of one
pub mod Coming  -- in every run each operation is asked where it may come
pub mod Steps  -- what one exchange leaves of what stands
pub mod Bringing  -- how a tree brings a session from one fact to another
pub mod Here  -- what goes on within one transaction
pub mod Trees  -- what a tree asks, by its operations alone
pub mod Looked  -- what was looked up is defined
pub mod Defined  -- all definitions are those of the database
pub mod Preparing  -- what a statement is bound to
pub mod Targets  -- the table that a write is bound to
pub mod Writing  -- where changes are asked, what stands goes on
pub mod Creating  -- where a definition is put, what stands goes on
pub mod Changing  -- what a write and DROP ask keeps what stands
pub mod Statements  -- the work of each statement keeps what stands
pub mod Defining  -- where a procedure or trigger is created, what stands goes on
pub mod Yields  -- what comes of a tree, whatever is replied
pub mod Cursors  -- what the statements on cursors ask writes nothing
pub mod Meanings  -- and so does each batch
pub mod Serving  -- each commit of connections keeps its database intact
pub mod Logs  -- the databases of a log
pub mod Runs  -- the databases of a run
pub mod StandardFacts  -- worked sessions
