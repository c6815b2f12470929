pub mod Forms  -- statements behind their first word
pub mod Signatures  -- what precedes the body of a definition
