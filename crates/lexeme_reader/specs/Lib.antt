pub mod Reading  -- what readers give
-- cited by private contracts alone
pub mod Cursor  -- what the cursor shows
