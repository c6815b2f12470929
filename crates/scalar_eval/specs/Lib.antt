-- Read in this order; the comment behind a name says what the file is for.
pub mod Scopes  -- setting_of: what is read, as the meaning of trees has it
pub mod Answers  -- Gives: an answer is the outcome that is meant
-- What private contracts alone cite.
pub mod Operands  -- values lent and made; computes: what gives a number
