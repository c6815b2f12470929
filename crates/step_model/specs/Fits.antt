-- What the exchanges of one session say of the log of commits. `begin` is the log at entry, where the
-- session has no transaction open, `log` the log now, and `mine` has the session's exchanges in order,
-- without those that were told to wait. Each clause stands by itself and speaks of whole databases; the
-- engine's entries and locks occur nowhere here. Which replies may come to an operation is said elsewhere.
use Rattle.std.specs.Prelude.{◌≡◌, ◌≢◌, ℕ, ◌<◌, ◌≤◌, ◌==◌, Bool, true, false, List, [], ◌∷◌, ◌++◌, length, drop, take, map, None, Some, IsTrue, IsSome, slice_get, if◌then◌else◌}
use Rattle.std.specs.declared.cmp.Ordering.TheVariants.{Less}
use Rattle.std.specs.List.{flat_map, filter, AllByRecursion}
use Rattle.lock_modes.specs.declared.KeyPart.TheVariants.{U}
use Rattle.lock_modes.specs.Agreement.{pairs_agree}
use Rattle.value_types.specs.declared.table_name.TableName.{TableName}
use Rattle.value_types.specs.declared.value.Value.{Value}
use Rattle.value_types.specs.Order.{key_cmp}
use Rattle.step_model.specs.declared.change.Change.{Change}
use Rattle.step_model.specs.declared.manner.Patience.{Patience}
use Rattle.step_model.specs.declared.manner.Patience.TheVariants.{Refuse}
use Rattle.step_model.specs.declared.op.Hold.TheVariants.{Range, Row as RowAlone}
use Rattle.step_model.specs.declared.op.Op.{Op}
use Rattle.step_model.specs.declared.op.Op.TheVariants.{Fetch, Insert, Replace, Erase, Relax, Commit}
use Rattle.step_model.specs.declared.reply.Reply.{Reply}
use Rattle.step_model.specs.declared.reply.Reply.TheVariants.{Row, Gone, End, Done, Exists, Ended, Wait, TimedOut, Victim}
use Rattle.step_model.specs.Database.{Database, First, allows}
use Rattle.step_model.specs.Log.{Commit as Logged, State, state_at}
use Rattle.step_model.specs.Exchange.{Exchange}
use Rattle.step_model.specs.Own.{Progress, progress_of, progress_after, none_open, change_of}
use Rattle.step_model.specs.Net.{Net}
use Rattle.step_model.specs.Sure.{SameKey}
use Rattle.step_model.specs.Cycles.{IsCycle, is_waiter}

-- ---- a step among a session's exchanges

-- a fact of each exchange, with those before it and those behind it
abbrev pub Each : (List Exchange → Exchange → List Exchange → Type 0) → List Exchange → Type 0
Each P mine = (before : List Exchange) (exchange : Exchange) (later : List Exchange) → mine ≡ before ++ exchange ∷ later → P before exchange later

-- the database after the first p commits, with what the transaction has changed before a step
abbrev pub view : List Logged → ℕ → List Exchange → Database
view log p before = state_at log p (map change_of (progress_of before).own)

-- where the transaction ended, if this reply ended it
abbrev pub place_or : Reply → ℕ → ℕ
place_or (Ended place) other = place
place_or reply other = other

-- the place of a transaction of which these exchanges are left: where it ends, or the log's length
abbrev pub place_of : ℕ → List Exchange → ℕ
place_of behind [] = behind
place_of behind (exchange ∷ later) = place_or exchange.reply (place_of behind later)

abbrev pub is_ended : Reply → Bool
is_ended (Ended place) = true
is_ended reply = false

-- none of these ended a transaction
abbrev pub NoneEnds : List Exchange → Type 0
NoneEnds later = AllByRecursion (λ exchange. is_ended exchange.reply ≡ false) later

abbrev pub is_relax : Op → Bool
is_relax Relax = true
is_relax op = false

-- between them no statement ended
abbrev pub NoRelax : List Exchange → Type 0
NoRelax between = AllByRecursion (λ exchange. is_relax exchange.op ≡ false) between

-- ---- the numbers

-- the number that a reply gives, `at` or `place`, if any
abbrev pub numbers_of : Reply → List ℕ
numbers_of (Row key row at) = at ∷ []
numbers_of (Gone key at) = at ∷ []
numbers_of (End at) = at ∷ []
numbers_of (Ended place) = place ∷ []
numbers_of reply = []

abbrev pub all_numbers : List Exchange → List ℕ
all_numbers mine = flat_map (λ exchange. numbers_of exchange.reply) mine

-- from low to high no number falls
abbrev pub NeverFall : ℕ → List ℕ → ℕ → Type 0
NeverFall low [] high = low ≤ high
NeverFall low (number ∷ numbers) high = (low ≤ number) × NeverFall number numbers high

-- the numbers never fall, and lie between the lengths of the log at entry and now
abbrev pub numbers_rise : List Logged → List Logged → List Exchange → Type 0
numbers_rise begin log mine = NeverFall (length begin) (all_numbers mine) (length log)

-- ---- fetches

-- the reply to a fetch is what this database has
abbrev pub AnswersIn : Database → Op → Reply → Type 0
AnswersIn db (Fetch table start stop hold part) (Row key row at) = First db table start stop (Some key) × (db table key ≡ Some row)
AnswersIn db (Fetch table start stop hold part) (Gone key at) = (db table key ≡ None)
    × ((other : List Value) → IsTrue (allows start other) → key_cmp other key ≡ Less → db table other ≡ None)
AnswersIn db (Fetch table start stop hold part) (End at) = First db table start stop None
AnswersIn db op reply = Unit {0}

-- the number of a fetch's reply
abbrev pub at_of : Reply → ℕ
at_of (Row key row at) = at
at_of (Gone key at) = at
at_of (End at) = at
at_of reply = 0

-- each fetch answers what the commits before its number left, with the transaction's own changes
abbrev pub fetches_current : List Logged → List Exchange → Type 0
fetches_current log mine = Each (λ before exchange later. AnswersIn (view log (at_of exchange.reply) before) exchange.op exchange.reply) mine

-- a fact of a fetch that holds its range
abbrev pub HoldsRange : Op → Type 0 → Type 0
HoldsRange (Fetch table start stop Range part) P = P
HoldsRange op P = Unit {0}

-- a fetch that holds its range answers what the database has at its transaction's place, too
abbrev pub ranges_hold : List Logged → List Exchange → Type 0
ranges_hold log mine = Each (λ before exchange later. HoldsRange exchange.op (AnswersIn (view log (place_of (length log) later) before) exchange.op exchange.reply)) mine

-- ---- insertions

-- an insertion that was done had no row before it in this database, one that found a row had one
abbrev pub FreshIn : Database → Op → Reply → Type 0
FreshIn db (Insert table key row) Done = db table key ≡ None
FreshIn db (Insert table key row) Exists = IsSome (db table key)
FreshIn db op reply = Unit {0}

-- so it is in the database at the transaction's place
abbrev pub inserts_fresh : List Logged → List Exchange → Type 0
inserts_fresh log mine = Each (λ before exchange later. FreshIn (view log (place_of (length log) later) before) exchange.op exchange.reply) mine

-- ---- the targets of writes

-- the key that a replacement or an erasure wrote
abbrev pub WritesAt : Op → Reply → TableName → List Value → Type 0
WritesAt (Replace table key row) Done t x = (table ≡ t) × (key ≡ x)
WritesAt (Erase table key) Done t x = (table ≡ t) × (key ≡ x)
WritesAt op reply t x = ⊥

-- a fetch that keeps its row as it is: with its range for the transaction, or with U for the statement
abbrev pub KeepsRow : Op → Reply → List Exchange → TableName → List Value → Type 0
KeepsRow (Fetch table start stop Range part) (Row key row at) between t x = SameKey table key t x
KeepsRow (Fetch table start stop RowAlone U) (Row key row at) between t x = SameKey table key t x × NoRelax between
KeepsRow op reply between t x = ⊥

-- A row that a write found by such a fetch of its transaction is the same in every database from that
-- fetch to the transaction's place.
abbrev pub targets_stable : List Logged → List Exchange → Type 0
targets_stable log mine = (before between later : List Exchange) (fetch write : Exchange) → mine ≡ before ++ fetch ∷ between ++ write ∷ later → NoneEnds between
    → (t : TableName) (x : List Value) → WritesAt write.op write.reply t x → KeepsRow fetch.op fetch.reply between t x
    → (p : ℕ) → at_of fetch.reply ≤ p → p ≤ place_of (length log) later → State (take p log) t x ≡ State (take (at_of fetch.reply) log) t x

-- ---- commits

-- the changes of a commit, where there are any
abbrev pub commit_of : List Change → List (List Change)
commit_of [] = []
commit_of (change ∷ changes) = (change ∷ changes) ∷ []

-- what an exchange commits: at a commit the net of the transaction's writes, if that is anything
abbrev pub committed_by : Op → Reply → Progress → List (List Change)
committed_by Commit (Ended place) so_far = commit_of (Net so_far.own)
committed_by op reply so_far = []

-- what the transactions that were committed changed, in order
abbrev pub commits_from : Progress → List Exchange → List (List Change)
commits_from so_far [] = []
commits_from so_far (exchange ∷ later) = committed_by exchange.op exchange.reply so_far ++ commits_from (progress_after so_far exchange.op exchange.reply) later

-- a commit that changed something is in the log at its place, and what comes later is behind it
abbrev pub IsLoggedAt : ℕ → List Logged → List (List Change) → Reply → List Exchange → Type 0
IsLoggedAt session log (changes ∷ others) (Ended place) later =
    (slice_get log place ≡ Some (record { session = session; changes = changes })) × AllByRecursion (λ number. place < number) (all_numbers later)
IsLoggedAt session log commits reply later = Unit {0}

-- the changes of a session's commits in the log
abbrev pub changes_of_session : ℕ → List Logged → List (List Change)
changes_of_session session log = map (λ commit. commit.changes) (filter (λ commit. commit.session == session) log)

-- what was committed by these exchanges, from no open transaction on
abbrev pub commits_of : List Exchange → List (List Change)
commits_of mine = commits_from none_open mine

-- the commits of this session since entry are those of its exchanges, each once, at its place
abbrev pub commits_once : ℕ → List Logged → List Logged → List Exchange → Type 0
commits_once session begin log mine =
    Each (λ before exchange later. IsLoggedAt session log (committed_by exchange.op exchange.reply (progress_of before)) exchange.reply later) mine
    × (changes_of_session session (drop (length begin) log) ≡ commits_of mine)

-- ---- refusals

-- who was timed out would not wait, and another session had there what does not agree with what was asked; who was
-- a victim is told a cycle in which it waits
abbrev pub IsCaused : ℕ → Patience → Reply → Type 0
IsCaused session patience (TimedOut holder held asked on) = (holder ≢ session) × (pairs_agree held asked ≡ false) × (patience ≡ Refuse)
IsCaused session patience (Victim cycle) = IsCycle cycle × IsTrue (is_waiter session cycle)
IsCaused session patience reply = Unit {0}

-- each refusal has its cause
abbrev pub refusals_caused : ℕ → List Exchange → Type 0
refusals_caused session mine = Each (λ before exchange later. IsCaused session exchange.manner.patience exchange.reply) mine

-- ---- all of them

-- The exchanges of a session fit the log: what holds to the end of its transaction is as if that had run alone at its place there, and
-- every other fetch is right at its own number.
pub record Fits (session : ℕ) (begin log : List Logged) (mine : List Exchange) : Type 0 where
  pub prefix : (later : List Logged) × (log ≡ begin ++ later)
  pub numbers : numbers_rise begin log mine
  pub fetches : fetches_current log mine
  pub ranges : ranges_hold log mine
  pub inserts : inserts_fresh log mine
  pub targets : targets_stable log mine
  pub commits : commits_once session begin log mine
  pub refusals : refusals_caused session mine

-- ---- which exchanges count

abbrev pub is_wait : Reply → Bool
is_wait (Wait holder) = true
is_wait reply = false

-- without the exchanges that were told to wait
abbrev pub without_waits : List Exchange → List Exchange
without_waits [] = []
without_waits (exchange ∷ later) = if is_wait exchange.reply then without_waits later else exchange ∷ without_waits later
