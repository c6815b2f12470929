-- Read in this order; the comment behind a name says what the file is for.
pub mod Sures  -- trees that write only rows that are sure
pub mod Trees  -- what a session does so
pub mod Writing  -- changes that are asked
pub mod Attempting  -- index rows are asked for, and then the changes
pub mod Spared  -- what is done at each key takes each row once
pub mod Taking  -- the rows that a write takes are sure
pub mod Changing  -- what INSERT, UPDATE and DELETE ask
pub mod Preparing  -- what a write is bound to
pub mod Defining  -- how statements stand around their work; what CREATE asks
pub mod Finding  -- definitions that were looked up, or read
pub mod Dropping  -- what DROP asks
pub mod Meanings  -- statements, batches and calls
pub mod Alike  -- what is told twice with its range held
pub mod Laws  -- the laws
