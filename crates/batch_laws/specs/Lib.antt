-- Read in this order; the comment behind a name says what the file is for.
pub mod Committing  -- Leaves, Ends, Runs: what statements leave, commit and send
pub mod Laws  -- WorkLeaves, StatementEnds, BatchRuns: the laws
pub mod Transactions  -- Begins, Closes, CommitLeaves: BEGIN TRANSACTION, COMMIT, ROLLBACK and SAVE TRANSACTION, and their laws
pub mod Cursors  -- Moves, OpenLeaves: the statements on cursors, and their laws
pub mod Control  -- NamedDoes, FormControls: what a statement that may begin does, by its form
pub mod Unseen  -- UnseenBegins: what begins a transaction unseen
pub mod Settled  -- IsSteady: whether a transaction is open between two statements, and its laws
