-- Read in this order; the comment behind a name says what the file is for.
pub mod Sending  -- ClientBytes: what a client sends for one batch
pub mod Printing  -- Print: what the tokens of a reply are printed as
pub mod Replies  -- which replies let a client go on, and by which it ends
pub mod Ends  -- end_of: why a client ends, and which end that is
pub mod Query  -- QueryRun: what one query took, sent and printed, and how it ended; Completes: when all of it was printed
-- Cited by private contracts alone.
pub mod Parts  -- what one message and the reply to it have brought
