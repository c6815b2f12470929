pub mod Places  -- the places of columns in a table
