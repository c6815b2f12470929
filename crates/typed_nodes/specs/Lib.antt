-- Read in this order; the comment behind a name says what the file is for.
pub mod Refusals  -- Outcome: what is made, or the refusal; Gives: an answer is the outcome that is meant
pub mod Facts  -- beside and above: what is known of an expression beside its tree
pub mod Nodes  -- the nodes of expressions, with their types and the conversions of their parts
pub mod Tests  -- the nodes of tests
