-- Read in this order; the comment behind a name says what the file is for.

-- What a write changes
pub mod Filling  -- filled: a row in which given values are stored
pub mod Planning  -- Chg: the changes of a write, of its table's rows and of index rows, or its first error
pub mod Plans  -- Plans: an answer is the plan that is meant
-- What is asked for it
pub mod Asking  -- parts of a dialog that may fail
pub mod Reading  -- images_of: how the images of a statement are read
pub mod Writing  -- writes: how changes are asked, and checked
-- What private contracts alone cite
pub mod Found  -- Finds: an answer within the crate is the outcome that is meant
pub mod Indexes  -- deeds_of: the changes of one index part
