pub mod Verdict  -- what is said of a list of lexemes
pub mod PlainVerdict  -- the same, where a semicolon is a semicolon
-- cited by private contracts alone
pub mod Stack  -- what is expected in a rule's place
pub mod Notes  -- the notes of the code, as the grammar's
pub mod Steps  -- what a step means for every text
pub mod Starts  -- what the commonest rules begin with
