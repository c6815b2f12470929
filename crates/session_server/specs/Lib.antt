-- Read in this order, behind those of `batch_meaning`; the comment behind a name says what the file is for.
pub mod Response  -- Response: what a message is answered by
pub mod Talk  -- walk_of, talk_of, Bytes: how messages are handled one after another, what is done for them, and the bytes of the responses
pub mod Ends  -- end_of: why a connection ends, and which End that is
pub mod Conversation  -- Conversation: what one connection did
-- Cited by private contracts alone.
pub mod Parts  -- what a loop or a message keeps for the whole
