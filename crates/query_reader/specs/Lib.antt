-- cited by private contracts alone
pub mod Parts  -- parts of productions
