-- Read in this order; the comment behind a name says what the file is for.
pub mod Planning  -- PlannedRight: what a write plans is right by itself; PlannedKept: so a database keeps its constraints
pub mod Reads  -- at_place, IsRead: what is read of a range, in the database at the transaction's place
pub mod Once  -- WroteOnce: a transaction that wrote once
pub mod Checking  -- CanCheck: when rows can be read for checks; PartsPass: checks that are read of exact index parts
pub mod Reading  -- RangeRead, CommitLeaves: the laws of what a transaction reads, and of what its commit leaves
pub mod Told  -- RowsTold, TargetsRead: the fetch of each row that was read, and of each that a write is planned on
pub mod Targets  -- TargetStands, ToldStands: a row that was fetched to be written is the one at its transaction's place
pub mod Sound  -- SoundRows: what of a database's own rows is to be kept; Firm: what statements keep
pub mod Keeping  -- FirmSound, FirmEmpty, FirmWritten, FirmDropped, FirmCreated: each change that statements make keeps it
pub mod Found  -- FoundTables: the tables that are read are those that are defined
pub mod Indexed  -- Indexed: what is to be kept of index parts; Sound: what of a database is to be kept
pub mod IndexKept  -- IndexedCreated, IndexedDropped: definitions keep it
pub mod Rewrites  -- PlannedOf, TakenTold: a write as rows that change, and how those that it takes were told
pub mod Made  -- MadeLeave, TakenStand: changes that were made, one exchange each, and what they leave
pub mod Indexing  -- IndexedWritten, IndexFree, IndexStands: index parts where rows of a table change
pub mod IndexKeys  -- KeysTold, FoundAll: index rows that are asked for before anything is changed
pub mod Attempted  -- WriteFollows: what a write leaves that keeps index parts
pub mod Plans  -- FirmPlanned, FirmDropPlanned, BoundStands: what a write and DROP TABLE plan keeps it; what CREATE TABLE asks
