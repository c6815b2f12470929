pub mod Drafts  -- tables while they are read
