-- Read in this order; the comment behind a name says what the file is for.
pub mod Batches  -- the texts of the batches, and the bytes that a client sends for them
pub mod Replies  -- AreReplies: the replies that bytes are; what is counted of them, and what is printed
pub mod Connections  -- AreDone: the connections of workers, and the replies to them
pub mod Load  -- Loaded: what a load does and prints
pub mod Responses  -- Tells: the tokens of a response, as the laws speak of them
-- Cited by private contracts alone.
pub mod Hall  -- the hall of the workers, and their doors
pub mod Reading  -- what the private parts of the reader of replies give
