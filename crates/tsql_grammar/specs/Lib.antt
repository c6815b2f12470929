pub mod Productions  -- the grammar, with the tree of each production
pub mod Trees  -- trees made of trees
pub mod Terminals  -- the lexemes of a text as the grammar takes them
pub mod Words  -- the words that the grammar knows, and the kind of a lexeme
pub mod Kinds  -- all kinds, in one order
pub mod Noted  -- what is judged of a text that reads
pub mod Lookahead  -- what one lexeme ahead tells of each rule
pub mod Language  -- all of it, put together
pub mod BasicTest  -- a test without connectives, as it is written
pub mod PlainText  -- the grammar where a semicolon is a semicolon
pub mod Parsed  -- what parsing a whole text gives
-- cited by private contracts alone
pub mod WordLetters  -- the words by their first letter
pub mod Variants  -- kinds by their variants
