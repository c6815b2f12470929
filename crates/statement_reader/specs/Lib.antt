pub mod Parts  -- parts of productions
-- cited by private contracts alone
pub mod Nests  -- functions that read what nests
