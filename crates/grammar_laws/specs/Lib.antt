pub mod Grammar  -- rules and their productions, and the texts of them
pub mod BySymbols  -- the same texts, cut into pieces
pub mod Prefix  -- where a text stops
pub mod Lookahead  -- what the next lexeme tells
pub mod Predictive  -- what the laws ask of a grammar
pub mod Alternatives  -- a grammar written down as lists, tried out kind by kind
pub mod Descent  -- reading by descent
-- cited by private contracts alone
pub mod Expects  -- what a stack of symbols means while a text is read
