-- Read in this order; the comment behind a name says what the file is for.
pub mod Local  -- first_local: NOT NULL and CHECK, of a row alone
pub mod Reads  -- reads_for: what is read behind a statement's changes for UNIQUE and FOREIGN KEY
pub mod Meant  -- reads_meant: what these say of all rows of tables
pub mod Judged  -- judge: what the rows that were read say
pub mod Integrity  -- AreKept: what a database keeps of its tables
pub mod Laws  -- JudgedPasses: rows that give no error break nothing; CheckedKept: changes that pass all checks keep it
pub mod Answers  -- Finds: an answer is what is meant
-- What private contracts alone cite.
pub mod Inserted  -- the keys at which changes insert, as a set
