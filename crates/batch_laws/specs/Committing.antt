-- Own: what a statement leaves of its transaction and commits, and what it sends, beside what it has asked. One that succeeded in an open
-- transaction has left its changes behind what that had written; one in a transaction of its own has committed them, as one commit, where
-- they change anything. One that failed has left the transaction as it was, or its error has ended it.
use Rattle.std.specs.Prelude.{◌≡◌, ◌⊎◌, ℕ, ℤ, pos, min, if◌then◌else◌, Bool, true, false, List, [], ◌∷◌, ◌++◌, Result, Ok, Err}
use Rattle.std.specs.List.{AllByRecursion}
use Rattle.tsql_tree.specs.declared.statement.Form.{Form-F}
use Rattle.tsql_tree.specs.declared.statement.Statement.{Statement}
use Rattle.binder.specs.Names.{Layer, form_of}
use Rattle.error_table.specs.declared.action.Action.{Action}
use Rattle.error_table.specs.declared.action.Action.TheVariants as act
use Rattle.error_table.specs.Act.{base_caught}
use Rattle.step_model.specs.declared.change.Change.{Change}
use Rattle.step_model.specs.declared.change.Planned.{Planned}
use Rattle.step_model.specs.declared.op.Op.TheVariants.{Rollback}
use Rattle.step_model.specs.declared.reply.Reply.TheVariants.{Ended}
use Rattle.step_model.specs.Exchange.{Exchange}
use Rattle.step_model.specs.Fits.{commit_of, commits_from}
use Rattle.step_model.specs.Net.{Net}
use Rattle.step_model.specs.Own.{Progress as Stand, is_insert, is_own, none_open, progress_from, progress_of}
use Rattle.dml_exec.specs.declared.refusal.Refusal.{Refusal}
use Rattle.dml_exec.specs.declared.written.Written.{Written}
use Rattle.dml_exec.specs.declared.written.Written.TheVariants as written
use Rattle.dml_exec.specs.Planning.{as_found}
use Rattle.txn_rules.specs.declared.state.TxnState.{TxnState}
use Rattle.txn_rules.specs.State.{after_end, is_closed}
use Rattle.tds_tokens.specs.declared.token.DoneKind.{DoneKind}
use Rattle.tds_tokens.specs.declared.token.Token.{Token}
use Rattle.batch_meaning.specs.declared.exit.Exit.{Exit}
use Rattle.batch_meaning.specs.declared.exit.Exit.TheVariants.{On, Leave, Again, Return, Raise, RaiseUp, End}
use Rattle.batch_meaning.specs.declared.failure.Failure.{Failure}
use Rattle.batch_meaning.specs.declared.raised.Raised.{Raised}
use Rattle.batch_meaning.specs.Meaning.{leaves_rows, line_of, or_full, told_tokens, way_of}
use Rattle.batch_meaning.specs.Progress.{SessionProgress, after_doom, assigns, counts, greatest_count, made}
use Rattle.batch_meaning.specs.Raised.{Around, action_in, is_caught_in, raised_in}
use Rattle.batch_meaning.specs.Selecting.{Effect, no_effect}
use Rattle.batch_meaning.specs.Tokens.{command_of, done_kind, transaction_rolled_back}
use Rattle.batch_meaning.specs.Transactions.{unless_own}
use Rattle.batch_meaning.specs.Values.{Assigned}
use Rattle.statement_paths.specs.Paths.{HasDone, HasFailed, HasReturned, IsFired, replied}

-- ---- the changes of a write

-- Of changes that were asked one after another these are the writes: all of them, but for insertions into index parts where a row was there.
abbrev pub AreWritesOf : List Planned → List Planned → Type 0
AreWritesOf [] more = more ≡ []
AreWritesOf (change ∷ changes) more = ((rest : List Planned) × (more ≡ change ∷ rest) × AreWritesOf changes rest) ⊎ ((is_own change ≡ false) × (is_insert change.deed ≡ true) × AreWritesOf changes more)

-- what stays of a plan: where it was made and checked, all its changes, as index rows were found; and else none
abbrev pub ArePut : Result Written Refusal → List Planned → List Planned → Type 0
ArePut (Ok (written.Done mark)) plan more = (found : List Bool) × AreWritesOf (as_found plan found) more
ArePut (Ok (written.Refused number name)) plan more = more ≡ []
ArePut (Err refusal) plan more = more ≡ []

-- ---- what is left

-- commits, in their order: the changes of each
abbrev pub Commits : Type 0
Commits = List (List Change)

-- the transaction stands as its session says: where none is open nothing is left of one
abbrev pub Agrees : Bool → Stand → Type 0
Agrees true before = before.is_open ≡ true
Agrees false before = before ≡ none_open

-- What exchanges leave that planned these changes, by whether a transaction was open before, and is open behind them: it has the changes
-- behind what it had written; or it was rolled back; or they are committed.
abbrev pub Leaves : Bool → Bool → Stand → List Exchange → List Planned → Type 0
Leaves true true before exchanges planned = ((progress_from before exchanges).is_open ≡ true) × ((progress_from before exchanges).own ≡ before.own ++ planned) × (commits_from before exchanges ≡ [])
Leaves true false before exchanges planned = (progress_from before exchanges ≡ none_open) × (commits_from before exchanges ≡ [])
Leaves false true before exchanges planned = ⊥
Leaves false false before exchanges planned = (progress_from before exchanges ≡ none_open) × (commits_from before exchanges ≡ commit_of (Net planned))

-- ---- errors

-- how a batch goes on behind an error that is told, by what that ends
abbrev pub exit_behind : Action → Exit
exit_behind act.Statement = On
exit_behind act.Doom = On
exit_behind act.Batch = End
exit_behind act.BatchAndTransaction = End

-- what an error that is caught makes of its transaction: one that would end it dooms it, where it is open
abbrev pub caught_txn : Action → TxnState → TxnState
caught_txn act.Statement txn = txn
caught_txn act.Doom txn = after_doom txn
caught_txn act.Batch txn = txn
caught_txn act.BatchAndTransaction txn = txn

-- what is told of an error, by whether it is caught
abbrev pub told_of : DoneKind → Bool → Action → ℕ → Raised → List Token
told_of kind true action command raised = []
told_of kind false action command raised = told_tokens kind action command raised

-- An error strikes, by whether it is caught, by what it ends, and by whether a transaction is open: one that is caught is raised, and may doom its
-- transaction; one that ends an open transaction is told, and that is rolled back, and told, unless it is a statement's own; any other is told, and
-- leaves its transaction. What is told first is given, and the state of the transaction behind it.
abbrev pub StrikesBy : SessionProgress → Bool → Action → Bool → List Token → Raised → Exit → List Token → List Exchange → TxnState → Type 0
StrikesBy p true action is_open told raised exit tokens exchanges after = (exit ≡ way_of (base_caught raised.number raised.by) raised) × (tokens ≡ told) × (exchanges ≡ []) × (after ≡ caught_txn action p.txn)
StrikesBy p false act.BatchAndTransaction true told raised exit tokens exchanges after = (exit ≡ End)
    × ((place : ℕ) × (exchanges ≡ replied p.settings.manner Rollback (Ended place) ∷ [])) × (tokens ≡ told ++ unless_own p.is_own (transaction_rolled_back p.txn.serial)) × (after ≡ after_end p.txn)
StrikesBy p false action is_open told raised exit tokens exchanges after = (exit ≡ exit_behind action) × (tokens ≡ told) × (exchanges ≡ []) × (after ≡ p.txn)

-- with its number in @@ERROR; this is its session where it strikes
abbrev pub StrikesWith : Around → SessionProgress → List Token → Raised → Exit → List Token → List Exchange → SessionProgress → Type 0
StrikesWith around p told raised exit tokens exchanges new =
    StrikesBy p (is_caught_in around raised) (action_in around p.settings.xact_abort raised) p.is_open told raised exit tokens exchanges new.txn × (new.error ≡ raised.number)

-- as it is raised
abbrev pub StrikesAs : Around → SessionProgress → ℕ → Raised → Exit → List Token → List Exchange → SessionProgress → Type 0
StrikesAs around p command raised exit tokens exchanges new =
    StrikesWith around p (told_of (done_kind around) (is_caught_in around raised) (action_in around p.settings.xact_abort raised) command raised) raised exit tokens exchanges new

-- where it is not caught, and the batch may send too little to tell it, it is one that says so
abbrev pub StrikesAt : Around → SessionProgress → ℕ → ℤ → Raised → Exit → List Token → List Exchange → SessionProgress → Type 0
StrikesAt around p command line raised exit tokens exchanges new = StrikesAs around p command (or_full around p command line raised) exit tokens exchanges new

-- of a statement
abbrev pub Strikes : Around → SessionProgress → Statement → Raised → Exit → List Token → List Exchange → SessionProgress → Type 0
Strikes around p statement raised exit tokens exchanges new = StrikesAt around p (command_of (form_of statement)) (line_of statement) raised exit tokens exchanges new

-- ---- a statement that is done with its effect

-- what a statement has done that succeeded, by its form, and how it goes on: RETURN leaves its batch, procedure or trigger, with its status
abbrev pub DoneBy : Layer → Around → SessionProgress → Statement → Exit → List Planned → Effect → List Exchange → Type 0
DoneBy (Form-F.Return value) around p statement exit planned effect exchanges = (status : ℤ) × HasReturned around p statement status exchanges × (exit ≡ Return status) × (planned ≡ []) × (effect ≡ no_effect)
DoneBy form around p statement exit planned effect exchanges = HasDone around p statement planned effect exchanges × (exit ≡ On)

-- the session behind assignments, one after another
abbrev pub assigned_all : List Assigned → SessionProgress → SessionProgress
assigned_all [] p = p
assigned_all (one ∷ sets) p = assigned_all sets (made (assigns one.0 one.1) p)

-- @@ROWCOUNT behind a statement of this form
abbrev pub rows_behind : Layer → ℕ → ℕ → ℕ
rows_behind form rows before = if leaves_rows form then before else min rows greatest_count

-- the session behind an effect: its variables are assigned, @@ROWCOUNT and @@ERROR set, and its tokens sent
abbrev pub behind_effect : Layer → Effect → SessionProgress → SessionProgress
behind_effect form effect p =
    record p { vars = (assigned_all effect.sets p).vars; row_count = rows_behind form effect.rows p.row_count; error = pos 0; tokens = p.tokens ++ effect.tokens }

-- The state of a transaction behind the work of a statement: its number stays, and where it was open, at most its savepoints are others.
pub record IsWithin (p : SessionProgress) (txn : TxnState) : Type 0 where
  pub serial : txn.serial ≡ p.txn.serial
  pub opened : p.is_open ≡ true → txn ≡ record p.txn { saves = txn.saves }

-- A session behind the work of a statement that failed: the same transaction is open, or none; it is set as it was, and may send as much.
pub record IsBehind (p struck : SessionProgress) : Type 0 where
  pub within : IsWithin p struck.txn
  pub is_open : struck.is_open ≡ p.is_open
  pub is_own : p.is_open ≡ true → struck.is_own ≡ p.is_own
  pub settings : struck.settings ≡ p.settings
  pub bytes : struck.bytes_left ≡ p.bytes_left

-- it succeeded: it has done its work, sent what that came to, set @@ROWCOUNT and @@ERROR, and assigned variables
abbrev pub Succeeds : Around → SessionProgress → Statement → Exit → List Token → List Planned → List Exchange → SessionProgress → Type 0
Succeeds around p statement exit tokens planned exchanges new = (effect : Effect) × DoneBy (form_of statement) around p statement exit planned effect exchanges × (tokens ≡ effect.tokens)
    × (new.row_count ≡ rows_behind (form_of statement) effect.rows p.row_count) × (new.error ≡ pos 0) × (new.vars ≡ (assigned_all effect.sets p).vars) × IsWithin p new.txn

-- it failed, and its error struck
abbrev pub Fails : Around → SessionProgress → Statement → Exit → List Token → List Exchange → SessionProgress → Type 0
Fails around p statement exit tokens exchanges new = (failure : Failure) × (work behind : List Exchange) × (struck : SessionProgress) × (exchanges ≡ work ++ behind)
    × HasFailed around p statement work × IsBehind p struck × Strikes around struck statement (raised_in around.procedure (line_of statement) failure) exit tokens behind new

-- what it planned stays where it succeeded
abbrev pub Ends : Around → SessionProgress → Statement → Exit → List Token → List Planned → List Exchange → SessionProgress → Type 0
Ends around p statement exit tokens planned exchanges new = Succeeds around p statement exit tokens planned exchanges new ⊎ ((planned ≡ []) × Fails around p statement exit tokens exchanges new)

-- The forms of statements that are done with their effect: SELECT, CREATE TABLE, DROP, DECLARE, SET of a variable and RETURN; and INSERT, UPDATE and
-- DELETE, where no trigger is fired. The others hold statements or run a procedure, begin or end transactions, set options, change cursors, or raise
-- errors and send messages of their own.
abbrev pub is_plain : Layer → Bool
is_plain (Form-F.If test so otherwise) = false
is_plain (Form-F.While test body) = false
is_plain Form-F.Break = false
is_plain Form-F.Continue = false
is_plain (Form-F.Block body) = false
is_plain (Form-F.TryCatch body handler) = false
is_plain (Form-F.Print value) = false
is_plain (Form-F.RaiseError value class state) = false
is_plain (Form-F.Throw number value state) = false
is_plain Form-F.ThrowAgain = false
is_plain (Form-F.SetOption option) = false
is_plain (Form-F.Execute status name arguments) = false
is_plain (Form-F.BeginTransaction name) = false
is_plain (Form-F.Commit name) = false
is_plain (Form-F.Rollback name) = false
is_plain (Form-F.Save name) = false
is_plain (Form-F.DeclareCursor name select) = false
is_plain (Form-F.OpenCursor name) = false
is_plain (Form-F.Fetch name variables) = false
is_plain (Form-F.CloseCursor name) = false
is_plain (Form-F.Deallocate name) = false
is_plain (Form-F.Use name) = false
is_plain form = true

abbrev pub ArePlain : List Statement → Type 0
ArePlain statements = AllByRecursion (λ statement. is_plain (form_of statement) ≡ true) statements

-- ---- triggers

-- a write has changed something and fires triggers, which run next
abbrev pub Fires : Around → SessionProgress → Statement → List Exchange → Type 0
Fires around p statement exchanges = IsFired around p statement (λ home done mid behind. Unit {0}) exchanges

-- ---- what stays of a session

-- no transaction is open, and BEGIN TRANSACTION has opened none
pub record HasNoneOpen (p : SessionProgress) : Type 0 where
  pub shut : p.is_open ≡ false
  pub closed : is_closed p.txn ≡ true
  pub sound : p.txn.doomed ≡ false

-- and IMPLICIT_TRANSACTIONS is OFF, so that none is begun unseen
pub record IsIdle (p : SessionProgress) : Type 0 where
  pub none : HasNoneOpen p
  pub seen : p.settings.implicit ≡ false

-- what a plain statement leaves as it was: all that SET has set, with its manner and its level; the number of the transaction; its cursors,
-- and @@FETCH_STATUS
pub record Stays (p new : SessionProgress) : Type 0 where
  pub settings : new.settings ≡ p.settings
  pub serial : new.txn.serial ≡ p.txn.serial
  pub cursors : new.cursors ≡ p.cursors
  pub fetched : new.fetch_status ≡ p.fetch_status

-- ---- statements one after another

-- where they go on this holds, and else that
abbrev pub IfOn : Exit → Type 0 → Type 0 → Type 0
IfOn On Goes Stops = Goes
IfOn Leave Goes Stops = Stops
IfOn Again Goes Stops = Stops
IfOn (Return status) Goes Stops = Stops
IfOn (Raise raised) Goes Stops = Stops
IfOn (RaiseUp raised) Goes Stops = Stops
IfOn End Goes Stops = Stops

-- Each of these did this, from where the one before it had left its session, until one left the others.
abbrev pub InTurn : (Statement → SessionProgress → List Exchange → Exit → SessionProgress → Type 0) → List Statement → SessionProgress → List Exchange → Exit → SessionProgress → Type 0
InTurn Does [] p exchanges exit new = (exchanges ≡ []) × (exit ≡ On) × (new ≡ p)
InTurn Does (statement ∷ others) p exchanges exit new = (came : Exit) × (mid : SessionProgress) × (front back : List Exchange) × (exchanges ≡ front ++ back) × Does statement p front came mid
    × IfOn came (InTurn Does others mid back exit new) ((back ≡ []) × (exit ≡ came) × (new ≡ mid))

-- Plain statements one after another, where no transaction is open, until one leaves the others, have sent these tokens and committed this.
-- Each counts as it begins, and finds the session as the one before it has left it: set as it was, with nothing open.
abbrev pub Runs : Around → List Statement → SessionProgress → Exit → List Token → Commits → List Exchange → SessionProgress → Type 0
Runs around [] p exit tokens commits exchanges new = (exit ≡ On) × (tokens ≡ []) × (commits ≡ []) × (exchanges ≡ []) × (new ≡ p)
Runs around (statement ∷ others) p exit tokens commits exchanges new = (came : Exit) × (mid : SessionProgress) × (sent later : List Token) × (planned : List Planned) × (rest : Commits) × (front back : List Exchange)
    × (tokens ≡ sent ++ later) × (commits ≡ commit_of (Net planned) ++ rest) × (exchanges ≡ front ++ back) × Ends around (made counts p) statement came sent planned front mid × Stays p mid × IsIdle mid
    × IfOn came (Runs around others mid exit later rest back new) ((exit ≡ came) × (later ≡ []) × (rest ≡ []) × (back ≡ []) × (new ≡ mid))

-- One that was left in the middle, where no transaction was open, has committed nothing, or done all its work.
abbrev pub LeftAt : Around → SessionProgress → Statement → Commits → List Exchange → Type 0
LeftAt around p statement commits exchanges =
    (commits ≡ []) ⊎ ((exit : Exit) × (planned : List Planned) × (effect : Effect) × DoneBy (form_of statement) around p statement exit planned effect exchanges × (commits ≡ commit_of (Net planned)))

-- Plain statements one after another, up to the one that was left.
abbrev pub LeftRuns : Around → List Statement → SessionProgress → Commits → List Exchange → Type 0
LeftRuns around [] p commits exchanges = (commits ≡ []) × (exchanges ≡ [])
LeftRuns around (statement ∷ others) p commits exchanges = LeftAt around (made counts p) statement commits exchanges
    ⊎ ((came : Exit) × (mid : SessionProgress) × (sent : List Token) × (planned : List Planned) × (rest : Commits) × (front back : List Exchange)
    × (commits ≡ commit_of (Net planned) ++ rest) × (exchanges ≡ front ++ back) × Ends around (made counts p) statement came sent planned front mid × Stays p mid × IsIdle mid × IfOn came (LeftRuns around others mid rest back) ((rest ≡ []) × (back ≡ [])))

-- One of these statements has fired triggers.
pub record FiresSome (around : Around) (statements : List Statement) (exchanges : List Exchange) : Type 0 where
  pub ahead : List Statement
  pub statement : Statement
  pub others : List Statement
  pub among : statements ≡ ahead ++ statement ∷ others
  pub earlier : List Exchange
  pub path : List Exchange
  pub parts : exchanges ≡ earlier ++ path
  pub old : SessionProgress
  pub fires : Fires around old statement path

-- which began where no transaction was open
pub record FiresAmong (around : Around) (statements : List Statement) (exchanges : List Exchange) : Type 0 where
  pub some : FiresSome around statements exchanges
  pub none : progress_of some.earlier ≡ none_open
  pub idle : IsIdle some.old

abbrev pub NoneFires : Around → List Statement → List Exchange → Type 0
NoneFires around statements exchanges = FiresAmong around statements exchanges → ⊥
