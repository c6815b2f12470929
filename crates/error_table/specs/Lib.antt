pub mod Table  -- the table, and the row of a number
pub mod Act  -- what an error ends
pub mod Text  -- the text with the name for its placeholder
