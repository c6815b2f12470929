pub mod Classes  -- which units are blanks, digits and units of words
pub mod Signs  -- how signs are spelled
pub mod Quotes  -- what stands between quotes
pub mod Numbers  -- the values of digits
pub mod Comments  -- how far a comment goes
pub mod Lexemes  -- which units spell a lexeme, and where it ends
pub mod Parts  -- which lexemes a text has, and where the rules fail
pub mod Reading  -- how a text is read from left to right
pub mod Answer  -- which flaw a fault is of
