pub mod Forms  -- statements behind their first word
