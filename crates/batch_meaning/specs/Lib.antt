-- Read in this order; the comment behind a name says what the file is for.
pub mod Statements  -- ReadsAs: what a text is read as, and the variables that it declares
pub mod Failures  -- plain, naming: why a statement failed
pub mod Raised  -- raised_at, is_caught_in: an error that is raised, what is told of it, and which TRY catches it
pub mod Settings  -- set_option: what SET makes of the settings of a session
pub mod Tokens  -- result_tokens, batch_done: the tokens of a statement and of a batch's end
pub mod Progress  -- Ready: how far a session has come, and the steps by which that changes
pub mod Doing  -- Did: what a session does, as a tree of steps and operations
pub mod Values  -- raiserror_of, rows_assigned: what a statement makes of the values of its expressions
pub mod Selecting  -- result_of: what a query comes to, apart from what is asked for it
pub mod Changing  -- planned_over: what a write comes to, apart from what is asked for it
pub mod Asking  -- looks_up, reads_images, applies: what the parts of a statement ask
pub mod Working  -- within, works: what a statement that reads tables asks, and what comes of it
pub mod Writes  -- changes, drops, creates_definition: what a statement that changes something asks, up to where its triggers run
pub mod Transactions  -- begins_transaction: what the statements on transactions ask
pub mod Unseen  -- is_unseen: which statements begin a transaction that no BEGIN begins
pub mod Cursors  -- opens_cursor: what the statements on cursors ask, and what comes of them
pub mod Databases  -- uses_database: what USE sends
pub mod Calls  -- finds_call, given_back: what a call runs, and what it gives back
pub mod Firing  -- leaves_fired: what becomes of a write by how its triggers end
pub mod Meaning  -- batch: what statements ask, what they end, and what comes of the replies
pub mod Rpc  -- rpc: what a call by RPC means, which is an EXEC by itself
pub mod Drivers  -- taken: what a call of a driver is run as, and which statements are prepared behind it
