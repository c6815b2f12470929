-- cited by private contracts alone
pub mod Judging  -- what is known of lexemes that were recognized
