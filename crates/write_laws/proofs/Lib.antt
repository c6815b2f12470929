-- Read in this order; the comment behind a name says what the file is for.
pub mod Stored  -- a row that is filled has its columns
pub mod Targets  -- the rows of a target, of which some are meant
pub mod Changes  -- the changes of rows that have their columns are right by themselves
pub mod TargetImages  -- what is read of a target has its columns
pub mod Behind  -- the rows of a database behind changes
pub mod Plans  -- a plan as the changes of rows
pub mod Defined  -- a row of `objects` defines one name, as one thing
pub mod Elsewhere  -- changes of one table leave the others; what a table keeps there
pub mod Keys  -- keys behind a key, and keys of one length
pub mod KeySizes  -- how long the keys of a firm database are
pub mod Created  -- a definition more
pub mod Puts  -- where a procedure or trigger is put
pub mod Erased  -- where one is erased
pub mod Indexed  -- index parts where definitions come and go
pub mod Dialogs  -- a dialog that came to something, taken apart
pub mod Parts  -- all exchanges of a range read one database
pub mod TargetStands  -- a row that was fetched to be written is the one at its transaction's place
pub mod Made  -- changes that were made, one exchange each
pub mod Indexing  -- index parts where rows change
pub mod OwnPlans  -- what a write plans for its table's own rows
pub mod Planned  -- the laws of plans
mod PlanFacts  -- worked writes
pub mod Entries  -- the rows of a range, from its first fetch and those behind it
pub mod Ranges  -- the rows of a range
pub mod Ranged  -- the rows of a range among those of the table
pub mod Walks  -- rows that were found one fetch behind another, and one whole key
pub mod Images  -- images
pub mod Told  -- the fetch of each row that was read
pub mod Currents  -- the rows of a range that was not held
pub mod Checks  -- reads that gave no error
pub mod Tables  -- what is read for changes is of tables that are there
pub mod IndexKeys  -- index rows that are asked for before anything is changed
pub mod Writes  -- changes that were made and checked
pub mod Nets  -- what writes come to
pub mod Firsts  -- keys at which writes first insert
pub mod Commits  -- what a commit leaves
pub mod Logged  -- each commit in the log is one among the exchanges of its session
pub mod Transactions  -- a transaction that wrote once
pub mod PlannedKeys  -- the keys of what a write plans
pub mod States  -- every_state: what each commit of a run keeps, every database of its log has
mod KeyFacts  -- why keys of one table have as many values
pub mod Empty  -- the database without rows
pub mod Written  -- changes of a table
pub mod Dropped  -- all rows of a table, and its definition, less
pub mod Found  -- definitions that are read
pub mod PlannedWrites  -- what a write plans
pub mod Drops  -- what DROP TABLE plans
pub mod Bound  -- a table whose CREATE TABLE is bound
pub mod Whole  -- what statements keep is all that is to be kept
pub mod OwnReads  -- what is read for changes is read for those of own rows
pub mod Owned  -- the own rows of a database
pub mod Rewrites  -- a write as rows that change
pub mod Taken  -- the rows that a plan takes
pub mod OwnMade  -- a plan of own rows alone is made as it was planned
pub mod Cleared  -- index parts where a table is dropped
pub mod Emptied  -- all rows of a table that go, with their index rows
pub mod Attempted  -- what a write leaves that keeps index parts
pub mod SameRows  -- what is planned, in the words of its laws
pub mod DropParts  -- what DROP TABLE plans of index parts
pub mod Applied  -- a write that was planned and applied leaves what was planned
pub mod Checking  -- checks that are read of index parts
mod NameFacts  -- worked names
