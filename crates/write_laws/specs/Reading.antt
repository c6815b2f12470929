-- Own: the laws of what a transaction reads.
use Rattle.std.specs.Prelude.{◌≡◌, ℕ, suc, ◌≤◌, ◌+◌, Bool, true, List, [], ◌∷◌, ◌++◌, length, filter, map, take, slice_get, Option, None, Some, Result, Ok}
use Rattle.std.specs.List.{AllByRecursion}
use Rattle.lock_modes.specs.declared.KeyPart.{KeyPart}
use Rattle.value_types.specs.declared.table_name.TableName.{TableName}
use Rattle.tsql_tree.specs.declared.definition.TableTree.{TableTree}
use Rattle.tsql_tree.specs.Places.{key_places}
use Rattle.value_types.specs.declared.value.Value.{Value}
use Rattle.bound_tree.specs.declared.expr.BoundTest.{BoundTest}
use Rattle.bound_tree.specs.declared.write.Bound.{Bound}
use Rattle.bound_tree.specs.declared.write.BoundWrite.{BoundWrite}
use Rattle.step_model.specs.declared.change.Change.{Change}
use Rattle.step_model.specs.declared.change.Planned.{Planned}
use Rattle.step_model.specs.declared.op.Op.TheVariants.{Commit, Fetch}
use Rattle.step_model.specs.declared.range.Start.{Start}
use Rattle.step_model.specs.declared.range.Start.TheVariants.{At}
use Rattle.step_model.specs.declared.range.Stop.{Stop}
use Rattle.step_model.specs.declared.range.Stop.TheVariants.{Within}
use Rattle.step_model.specs.declared.reply.Reply.TheVariants.{Ended}
use Rattle.step_model.specs.Database.{Database, In, With}
use Rattle.step_model.specs.Net.{Net}
use Rattle.step_model.specs.Own.{change_of, inserts_first, own_changes, progress_of}
use Rattle.step_model.specs.declared.manner.Manner.{Manner}
use Rattle.step_model.specs.declared.op.Hold.{Hold}
use Rattle.step_model.specs.declared.op.Hold.TheVariants.{Range}
use Rattle.step_model.specs.declared.range.KeyRange.{KeyRange}
use Rattle.step_model.specs.Dialog.{Held}
use Rattle.step_model.specs.Exchange.{CanReply, Exchange}
use Rattle.step_model.specs.Fits.{Fits, AnswersIn, commit_of, commits_once, fetches_current, inserts_fresh, ranges_hold, without_waits, NoneEnds}
use Rattle.step_model.specs.Log.{Commit as Logged, State}
use Rattle.step_model.specs.Ranges.{Rows}
use Rattle.constraint_check.specs.declared.check_read.CheckRead.{CheckRead}
use Rattle.table_rows.specs.Rows.{shape_of}
use Rattle.constraint_check.specs.Reads.{reads_for}
use Rattle.constraint_check.specs.Laws.{KeysAreOne, Passes, behind}
use Rattle.range_plan.specs.RangeOf.{whole_table}
use Rattle.range_plan.specs.Laws.{stands_in}
use Rattle.dml_exec.specs.declared.refusal.Level.{Level}
use Rattle.dml_exec.specs.declared.refusal.Level.TheVariants.{Serializable}
use Rattle.dml_exec.specs.declared.refusal.Refusal.{Refusal}
use Rattle.dml_exec.specs.Planning.{Chg, table_written}
use Rattle.dml_exec.specs.Reading.{GivenRows, fetch_of, fits, images_of, key_width, reads_of, rows_in}
use Rattle.dml_exec.specs.Writing.{checks_all}
use Rattle.step_model.specs.Runs.{Asked, Run, mine_of, opening}
use Rattle.step_model.specs.State.{Engine}
use Rattle.write_laws.specs.Checking.{CanCheck}
use Rattle.write_laws.specs.Once.{KeyFits, WroteOnce}
use Rattle.statement_paths.specs.Asked.{AskOnly, IsFetch}
use Rattle.statement_paths.specs.Paths.{AreApplied}
use Rattle.write_laws.specs.Reads.{at_place, key_size, AllFit, AreImages, HoldsIt, IfFetched, IfOne, IsOneKey, IsRead, KeysHave, Tells, Walks, WereRead}

-- a range of a part that was read and held has the rows that the database has there at the transaction's place
abbrev pub RangeRead : Type 0
RangeRead = (log : List Logged) (mine before part later : List Exchange) (manner : Manner) (shape : Option TableTree) (number : ℕ) (one : Bool) (range : KeyRange) (lock : KeyPart) (rows : Rows)
    → mine ≡ before ++ (part ++ later) → ranges_hold log mine → Held manner (rows_in shape number one (fetch_of range Range lock)) part (Ok rows)
    → KeysHave (key_width shape number) (at_place log before later) range.table → IfOne one (IsOneKey (key_width shape number) range.start range.stop)
    → IsRead (at_place log before later) (fits shape number) range rows

-- What a range has is what stands in it of all that the table has, of rows of a table of this shape: those that fit, as they are in the whole
-- table's order.
abbrev pub RangeOfWhole : Type 0
RangeOfWhole = (db : Database) (shape : TableTree) (range : KeyRange) (rows all : Rows) → KeysAreOne db
    → IsRead db (fits (Some shape) 0) range rows → IsRead db (fits (Some shape) 0) (whole_table range.table) all → rows ≡ filter (stands_in range (key_places (Some shape))) all

-- of a range that was not held each row is as it was at its own number
abbrev pub RowsCurrent : Type 0
RowsCurrent = (log : List Logged) (mine before part later : List Exchange) (manner : Manner) (shape : Option TableTree) (one : Bool) (range : KeyRange) (hold : Hold) (lock : KeyPart) (rows : Rows)
    → mine ≡ before ++ (part ++ later) → fetches_current log mine → Held manner (rows_in shape 0 one (fetch_of range hold lock)) part (Ok rows) → WereRead log before (fits shape 0) range rows

-- all exchanges that fetch by ranges, which they hold, are answered of one database
abbrev pub PartAnswers : Type 0
PartAnswers = (log : List Logged) (mine before part later : List Exchange) → mine ≡ before ++ (part ++ later) → ranges_hold log mine → AskOnly HoldsIt part
    → AllByRecursion (λ exchange. AnswersIn (at_place log before later) exchange.op exchange.reply) part

-- fetches leave their transaction as it was
pub record Leaves (before part : List Exchange) : Type 0 where
  pub own : (progress_of (before ++ part)).own ≡ (progress_of before).own
  pub goes_on : NoneEnds part

abbrev pub FetchesLeave : Type 0
FetchesLeave = (before part : List Exchange) → AskOnly IsFetch part → Leaves before part

-- rows that were found one fetch behind another are those of the range
abbrev pub WalkRead : Type 0
WalkRead = (log : List Logged) (mine before part later : List Exchange) (width : ℕ) (table : TableName) (start : Start) (stop : Stop) (lock : KeyPart) (entries : List (List Value × List Value))
    → mine ≡ before ++ (part ++ later) → ranges_hold log mine → Walks width table stop lock start part entries → KeysHave width (at_place log before later) table
    → In (at_place log before later) table start stop entries

-- and what is told of one whole key is so
abbrev pub KeyTold : Type 0
KeyTold = (log : List Logged) (mine before later : List Exchange) (exchange : Exchange) (table : TableName) (key : List Value) (lock : KeyPart)
    → mine ≡ before ++ exchange ∷ later → ranges_hold log mine → exchange.op ≡ Fetch table (At key) (Within key) Range lock → CanReply exchange.op exchange.reply
    → KeysHave (length key) (at_place log before later) table → Tells (at_place log before later) table key exchange.reply

-- ---- images

-- for images fetches alone are asked
abbrev pub ImagesFetch : Type 0
ImagesFetch = (manner : Manner) (given : GivenRows) (shapes : List TableTree) (level : Level) (vars : List Value) (of : Bound) (part : List Exchange) (result : Result (List Rows) Refusal) → Held manner (images_of given shapes level vars of) part result → AskOnly IsFetch part

-- images that were read at the highest level are those of their ranges in the database at the transaction's place, but for what is given
abbrev pub ImagesRead : Type 0
ImagesRead = (log : List Logged) (mine before part later : List Exchange) (manner : Manner) (given : GivenRows) (shapes : List TableTree) (vars : List Value) (of : Bound) (images : List Rows)
    → mine ≡ before ++ (part ++ later) → ranges_hold log mine → Held manner (images_of given shapes Serializable vars of) part (Ok images)
    → AllByRecursion (λ read. IfFetched (given read.0.table) (KeysHave (key_size shapes read.0.table) (at_place log before later) read.0.table)) (reads_of vars shapes of)
    → AreImages given (at_place log before later) shapes (reads_of vars shapes of) images

-- ---- checks

-- reads that gave no error pass in that database, where all rows of what they read fit
abbrev pub ChecksRead : Type 0
ChecksRead = (log : List Logged) (mine before part later : List Exchange) (manner : Manner) (shapes : List TableTree) (reads : List CheckRead)
    → mine ≡ before ++ (part ++ later) → ranges_hold log mine → Held manner (checks_all shapes reads) part (Ok tt)
    → AllByRecursion (λ read. AllFit (at_place log before later) shapes read.range.table) reads → AllByRecursion (Passes (at_place log before later)) reads

-- So they do in what is read for changes, where rows can be read for checks.
abbrev pub ReadsReady : Type 0
ReadsReady = (db : Database) (shapes : List TableTree) (changes : List Planned) → CanCheck db shapes → AllByRecursion (λ read. AllFit db shapes read.range.table) (reads_for changes shapes)

-- ---- what is written

-- Where a write was done, what is read for its plan passes in the database behind those of its changes that were done, if rows can be
-- read there for checks.
abbrev pub WritesPass : Type 0
WritesPass = (log : List Logged) (mine before part later : List Exchange) (manner : Manner) (shapes : List TableTree) (plan planned : List Planned)
    → mine ≡ before ++ (part ++ later) → ranges_hold log mine → AreApplied manner shapes plan planned part
    → CanCheck (behind (at_place log before later) planned) shapes → AllByRecursion (Passes (behind (at_place log before later) planned)) (reads_for plan shapes)

-- and that is the database with which the transaction goes on
abbrev pub WritesLeave : Type 0
WritesLeave = (log : List Logged) (before part later : List Exchange) (manner : Manner) (shapes : List TableTree) (plan planned : List Planned)
    → AreApplied manner shapes plan planned part → at_place log (before ++ part) later ≡ behind (at_place log before later) planned

-- in each such database keys that compare equal are one
abbrev pub PlacesAreOne : Type 0
PlacesAreOne = (log : List Logged) (before later : List Exchange) → KeysAreOne (at_place log before later)

-- as in those that commits leave
abbrev pub StatesAreOne : Type 0
StatesAreOne = (log : List Logged) → KeysAreOne (State log)

-- ---- what is committed

-- what writes come to leaves a key as they do, where no row stood at it if the first of them inserts one
abbrev pub NetLeaves : Type 0
NetLeaves = (db : Database) (own : List Planned) (t : TableName) (x : List Value) → (inserts_first own t x ≡ true → db t x ≡ None) → With db (Net own) t x ≡ With db (map change_of own) t x

-- none stood there at the transaction's place
abbrev pub FirstsFresh : Type 0
FirstsFresh = (log : List Logged) (mine before later : List Exchange) (exchange : Exchange) (place : ℕ) → mine ≡ before ++ exchange ∷ later → inserts_fresh log mine → exchange.reply ≡ Ended place
    → (t : TableName) (x : List Value) → inserts_first (progress_of before).own t x ≡ true → State (take place log) t x ≡ None

-- So a commit, if it changed anything, leaves the database at its place behind what its transaction had written.
abbrev pub CommitLeaves : Type 0
CommitLeaves = (session : ℕ) (begin log : List Logged) (mine before later : List Exchange) (exchange : Exchange) (place : ℕ) → mine ≡ before ++ exchange ∷ later
    → inserts_fresh log mine → commits_once session begin log mine → exchange.op ≡ Commit → exchange.reply ≡ Ended place
    → State (take (place + length (commit_of (Net (progress_of before).own))) log) ≡ behind (State (take place log)) (progress_of before).own

-- Among a session's exchanges is the commit at this place, with these changes.
pub record HasCommit (mine : List Exchange) (place : ℕ) (changes : List Change) : Type 0 where
  pub before : List Exchange
  pub commit : Exchange
  pub later : List Exchange
  pub split : mine ≡ before ++ commit ∷ later
  pub commits : commit.op ≡ Commit
  pub ended : commit.reply ≡ Ended place
  pub net : Net (progress_of before).own ≡ changes
  pub some : commit_of changes ≡ changes ∷ []

-- Each commit in the log, since its session was known, is one among its exchanges.
abbrev pub LoggedCommits : Type 0
LoggedCommits = (session : ℕ) (begin log : List Logged) (mine : List Exchange) (place : ℕ) (changes : List Change) → Fits session begin log mine
    → length begin ≤ place → slice_get log place ≡ Some (record { session = session; changes = changes }) → HasCommit mine place changes

-- So in every run the next database of the log is the one before it behind what its transaction had written.
abbrev pub NextState : Type 0
NextState = (asked : List Asked) (engine : Engine) → Run opening asked engine → (session place : ℕ) (changes : List Change) → slice_get engine.log place ≡ Some (record { session = session; changes = changes })
    → (has : HasCommit (without_waits (mine_of session asked)) place changes) × (State (take (suc place) engine.log) ≡ behind (State (take place engine.log)) (progress_of has.before).own)

-- ---- a transaction that wrote once

-- Its commit leaves the database at its place behind its changes.
abbrev pub OnceLeaves : Type 0
OnceLeaves = (session : ℕ) (begin log : List Logged) (mine : List Exchange) (shapes : List TableTree) (plan planned : List Planned) (place : ℕ)
    → inserts_fresh log mine → commits_once session begin log mine → WroteOnce mine shapes plan planned place
    → State (take (place + length (commit_of (Net planned))) log) ≡ behind (State (take place log)) planned

-- And there what is read for its plan passes, if the rows of all tables fit there.
abbrev pub OncePasses : Type 0
OncePasses = (log : List Logged) (mine : List Exchange) (shapes : List TableTree) (plan planned : List Planned) (place : ℕ)
    → ranges_hold log mine → WroteOnce mine shapes plan planned place → CanCheck (behind (State (take place log)) planned) shapes
    → AllByRecursion (Passes (behind (State (take place log)) planned)) (reads_for plan shapes)

-- The keys of what a write plans for its table's own rows have as many values as the table's key.
abbrev pub PlannedKeys : Type 0
PlannedKeys = (vars system : List Value) (shapes : List TableTree) (shape : TableTree) (checks : List BoundTest) (of : BoundWrite) (images : List Rows) (planned : List Planned)
    → shape_of (table_written of) shapes ≡ Some shape → Chg vars system shape checks of images ≡ Ok planned → AllByRecursion (KeyFits shapes) (own_changes planned)
