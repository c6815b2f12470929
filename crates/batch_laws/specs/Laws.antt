-- Own: the laws of statements and batches.
use Rattle.std.specs.Prelude.{◌≡◌, ◌⊎◌, ℕ, ℤ, pos, Bool, true, false, List, [], ◌∷◌, ◌++◌, Result, Ok, Err}
use Rattle.tsql_tree.specs.declared.definition.Definition.{Definition}
use Rattle.tsql_tree.specs.declared.statement.Statement.{Statement}
use Rattle.tsql_tree.specs.declared.definition.TableTree.{TableTree}
use Rattle.binder.specs.Names.{form_of}
use Rattle.step_model.specs.declared.change.Planned.{Planned}
use Rattle.step_model.specs.declared.manner.Manner.{Manner}
use Rattle.step_model.specs.declared.op.Op.TheVariants.{Commit}
use Rattle.step_model.specs.Dialog as dialog
use Rattle.step_model.specs.Exchange.{Exchange}
use Rattle.step_model.specs.Fits.{commit_of, commits_from, commits_of}
use Rattle.step_model.specs.Net.{Net}
use Rattle.step_model.specs.Own.{Progress, none_open, progress_from, progress_of}
use Rattle.dml_exec.specs.declared.refusal.Refusal.{Refusal}
use Rattle.dml_exec.specs.declared.written.Written.{Written}
use Rattle.dml_exec.specs.Writing.{writes}
use Rattle.tds_tokens.specs.Numbers.{command_none}
use Rattle.tds_tokens.specs.declared.token.Token.{Token}
use Rattle.batch_meaning.specs.declared.exit.Exit.{Exit}
use Rattle.batch_meaning.specs.declared.exit.Exit.TheVariants.{On}
use Rattle.batch_meaning.specs.declared.failure.Failure.{Failure}
use Rattle.batch_meaning.specs.declared.form.ReadText.TheVariants as text
use Rattle.batch_meaning.specs.Doing.{Doing, over, Held, Left}
use Rattle.batch_meaning.specs.Failures.{naming}
use Rattle.batch_meaning.specs.declared.raised.Raised.{Raised}
use Rattle.batch_meaning.specs.declared.settings.Settings.{Settings}
use Rattle.batch_meaning.specs.declared.stop.Stop.{Stop}
use Rattle.batch_meaning.specs.declared.stop.Stop.TheVariants.{Failed, Left as LeftSo}
use Rattle.batch_meaning.specs.Meaning.{Meaning, batch, concludes, defines_object, fires, writes as writes_of, each_of, has_failed, line_of, mean_form, mean_of, meaning, raises, succeeds}
use Rattle.batch_meaning.specs.Progress.{SessionProgress, begins, counts, made}
use Rattle.batch_meaning.specs.Raised.{Around, around_batch, error_token, raised_at, raised_in}
use Rattle.batch_meaning.specs.Selecting.{Effect}
use Rattle.batch_meaning.specs.Statements.{vars_of}
use Rattle.batch_meaning.specs.Tokens.{batch_done}
use Rattle.batch_meaning.specs.Unseen.{is_unseen, wants_begin}
use Rattle.batch_meaning.specs.Working.{composes, statuses, tests}
use Rattle.statement_paths.specs.Paths.{HasDone, HasFailed, HasPut, HasPutFailed, IsFired, is_write, work_of}
use Rattle.batch_laws.specs.Committing.{behind_effect, is_plain, Agrees, ArePlain, ArePut, DoneBy, Ends, Fires, InTurn, IsBehind, IsIdle, IsWithin, Leaves, LeftRuns, NoneFires, Runs, Stays, Strikes, StrikesAt}

-- the changes of a write stand behind what its transaction had written, or that is as it was
abbrev pub WritesWhole : Type 0
WritesWhole = (shapes : List TableTree) (plan : List Planned) (manner : Manner) (exchanges : List Exchange) (result : Result Written Refusal) (before : Progress)
    → dialog.Held manner (writes shapes plan) exchanges result → (more : List Planned) × ArePut result plan more × ((progress_from before exchanges).own ≡ before.own ++ more)

-- a statement that came to its effect has done its work, and its changes are left
abbrev pub WorkLeaves : Type 0
WorkLeaves = (around : Around) (statement : Statement) (old new : SessionProgress) (exchanges : List Exchange) (effect : Effect) (before : Progress) → Agrees old.is_open before → Held (work_of around statement) old exchanges (Ok effect) new
    → (planned : List Planned) × HasDone around old statement planned effect exchanges × Leaves old.is_open old.is_open before exchanges planned

-- one that failed has left its transaction as it was
abbrev pub FailureLeaves : Type 0
FailureLeaves = (around : Around) (statement : Statement) (old new : SessionProgress) (exchanges : List Exchange) (failure : Failure) (before : Progress) → Agrees old.is_open before → Held (work_of around statement) old exchanges (Err failure) new
    → HasFailed around old statement exchanges × Leaves old.is_open old.is_open before exchanges []

-- what a write has left that fires no triggers, by what it came to
abbrev pub UnfiredLeaves : Around → SessionProgress → Statement → Result Effect Stop → List Exchange → Progress → Type 0
UnfiredLeaves around old statement (Ok effect) exchanges before = (planned : List Planned) × HasDone around old statement planned effect exchanges × Leaves old.is_open old.is_open before exchanges planned
UnfiredLeaves around old statement (Err (Failed failure)) exchanges before = HasFailed around old statement exchanges × Leaves old.is_open old.is_open before exchanges []
UnfiredLeaves around old statement (Err (LeftSo exit)) exchanges before = ⊥

-- one that fires some has left its changes in a transaction that is open where they run: the one that was, or its own
abbrev pub FiredLeaves : Progress → List Exchange → List Planned → Type 0
FiredLeaves before front planned = ((progress_from before front).is_open ≡ true) × ((progress_from before front).own ≡ before.own ++ planned) × (commits_from before front ≡ [])

abbrev pub WriteLeaves : Type 0
WriteLeaves = (one : Statement → Meaning) (around : Around) (statement : Statement) (old new : SessionProgress) (exchanges : List Exchange) (came : Result Effect Stop) (before : Progress) → is_write (form_of statement) ≡ true → Agrees old.is_open before
    → Held (writes_of one around statement) old exchanges came new
    → UnfiredLeaves around old statement came exchanges before ⊎ ((fired : IsFired around old statement (λ home done mid behind. Held (fires one around home done) mid behind came new) exchanges) × FiredLeaves before fired.front fired.planned)

-- what a statement has left that has ended, with what it has sent and planned
abbrev pub HasEnded : Around → SessionProgress → Statement → Exit → Progress → List Exchange → SessionProgress → Type 0
HasEnded around old statement exit before exchanges new =
    ((tokens : List Token) × (planned : List Planned) × (new.tokens ≡ old.tokens ++ tokens) × Ends around old statement exit tokens planned exchanges new × Leaves old.is_open new.is_open before exchanges planned) × Stays old new

-- A plain statement is done by what its form means: it has ended, sent what it came to, and left its changes where it succeeded, and all that SET has
-- set stays; or it has fired triggers, and what these do comes first (`FormControls`).
abbrev pub StatementEnds : Type 0
StatementEnds = (one : Statement → Meaning) (around : Around) (statement : Statement) (old new : SessionProgress) (exchanges : List Exchange) (exit : Exit) (before : Progress) → is_plain (form_of statement) ≡ true → Agrees old.is_open before
    → Held (mean_form one around statement (form_of statement)) old exchanges exit new → HasEnded around old statement exit before exchanges new ⊎ Fires around old statement exchanges

-- ---- statements one after another

-- whatever statements they are, and whatever each means
abbrev pub EachInTurn : Type 0
EachInTurn = (one : Statement → Meaning) (statements : List Statement) (around : Around) (old new : SessionProgress) (exchanges : List Exchange) (exit : Exit)
    → Held (each_of one statements around) old exchanges exit new → InTurn (λ statement p front came mid. Held (one statement around) p front came mid) statements old exchanges exit new

-- a plain statement, as it begins, which begins no transaction unseen: it was done, or it failed, before it asked anything or behind what it asked; or it has fired triggers
abbrev pub PlainEnds : Type 0
PlainEnds = (levels : ℕ) (around : Around) (statement : Statement) (old new : SessionProgress) (exchanges : List Exchange) (exit : Exit) (before : Progress) → is_plain (form_of statement) ≡ true → is_unseen old (form_of statement) ≡ false → Agrees old.is_open before
    → Held (mean_of levels statement around) old exchanges exit new → HasEnded around (made counts old) statement exit before exchanges new ⊎ Fires around (made counts old) statement exchanges

-- where no transaction is open, plain statements that fire no triggers have sent and committed what each of them has, and none is open behind them
abbrev pub PlainRun : Type 0
PlainRun = (levels : ℕ) (around : Around) (statements : List Statement) (old new : SessionProgress) (exchanges : List Exchange) (exit : Exit) → ArePlain statements → IsIdle old → NoneFires around statements exchanges
    → Held (meaning levels statements around) old exchanges exit new
    → ((tokens : List Token) × (new.tokens ≡ old.tokens ++ tokens) × Runs around statements old exit tokens (commits_of exchanges) exchanges new) × (progress_of exchanges ≡ none_open) × IsIdle new

-- and a batch of such, and then its end
abbrev pub BatchRuns : Type 0
BatchRuns = (statements : List Statement) (old new : SessionProgress) (exchanges : List Exchange) → ArePlain statements → IsIdle old → NoneFires around_batch statements exchanges → Held (batch (text.Statements statements)) old exchanges tt new
    → ((tokens : List Token) × (exit : Exit) × (last : SessionProgress) × (new.tokens ≡ tokens ++ batch_done (has_failed exit) ∷ []) × Runs around_batch statements (made (begins (vars_of statements)) old) exit tokens (commits_of exchanges) exchanges last)
    × (progress_of exchanges ≡ none_open) × IsIdle new

-- one that was left in the middle, for want of memory, has committed what each of its statements before that has, and whole statements alone
abbrev pub LeftRun : Type 0
LeftRun = (statements : List Statement) (old new : SessionProgress) (exchanges : List Exchange) → ArePlain statements → IsIdle old → NoneFires around_batch statements exchanges → Left (batch (text.Statements statements)) old exchanges new
    → LeftRuns around_batch statements (made (begins (vars_of statements)) old) (commits_of exchanges) exchanges

-- ---- texts that are refused, and definitions

-- a batch whose text is refused asks nothing: its error is told, and its end
abbrev pub RefusedEnds : Type 0
RefusedEnds = (line : ℤ) (code : ℕ) (near : List ℕ) (old new : SessionProgress) (exchanges : List Exchange) → old.txn.doomed ≡ false → Held (batch (text.Refused line code near)) old exchanges tt new
    → (exchanges ≡ []) × (new.tokens ≡ error_token (raised_at line (naming code near)) ∷ batch_done true ∷ []) × (new.is_open ≡ old.is_open)

-- what was done of a definition: it is put in the open transaction, or in one of its own, and nothing is told; or it is refused since its transaction is
-- doomed, or it has failed, and its error strikes
abbrev pub PutSucceeds : Definition → List ℕ → SessionProgress → Exit → List Token → List Planned → List Exchange → SessionProgress → Type 0
PutSucceeds of units p exit tokens planned exchanges new = HasPut p of units planned exchanges × (exit ≡ On) × (tokens ≡ []) × (new.error ≡ pos 0) × IsWithin p new.txn

abbrev pub PutFails : ℤ → SessionProgress → Exit → List Token → List Exchange → SessionProgress → Type 0
PutFails line p exit tokens exchanges new = (failure : Failure) × (work behind : List Exchange) × (struck : SessionProgress) × (exchanges ≡ work ++ behind)
    × HasPutFailed p work × IsBehind p struck × StrikesAt around_batch struck command_none line (raised_at line failure) exit tokens behind new

-- A batch that defines a procedure or a trigger, and begins no transaction unseen, does that, and it has no rows; what it leaves of its transaction is what it
-- planned.
abbrev pub DefinesEnds : Type 0
DefinesEnds = (line : ℤ) (of : Definition) (units : List ℕ) (old new : SessionProgress) (exchanges : List Exchange) (exit : Exit) (before : Progress) → wants_begin old ≡ false → Agrees old.is_open before → Held (defines_object line of units) old exchanges exit new
    → ((tokens : List Token) × (planned : List Planned) × (new.tokens ≡ old.tokens ++ tokens) × (PutSucceeds of units old exit tokens planned exchanges new ⊎ ((planned ≡ []) × PutFails line old exit tokens exchanges new)) × Leaves old.is_open new.is_open before exchanges planned)
    × (new.row_count ≡ 0) × (new.vars ≡ old.vars) × Stays old new

-- where none is open, and none is begun unseen, it is committed, or nothing is; and then comes the batch's end
abbrev pub DefinitionRuns : Type 0
DefinitionRuns = (line : ℤ) (of : Definition) (units : List ℕ) (old new : SessionProgress) (exchanges : List Exchange) → IsIdle old → Held (batch (text.Defines line of units)) old exchanges tt new
    → ((tokens : List Token) × (planned : List Planned) × (exit : Exit) × (last : SessionProgress) × (new.tokens ≡ tokens ++ batch_done (has_failed exit) ∷ []) × (commits_of exchanges ≡ commit_of (Net planned))
    × (PutSucceeds of units (made (begins []) old) exit tokens planned exchanges last ⊎ ((planned ≡ []) × PutFails line (made (begins []) old) exit tokens exchanges last)))
    × (progress_of exchanges ≡ none_open) × IsIdle new

-- ---- what a statement tells

-- by what its work came to: it goes on by that, or its error strikes
abbrev pub GoesBy : {A : Type 0} → Around → SessionProgress → Statement → (A → Doing Exit) → Exit → Result A Failure → List Exchange → SessionProgress → Type 0
GoesBy around mid statement go exit (Ok a) back new = Held (go a) mid back exit new
GoesBy around mid statement go exit (Err failure) back new = (tokens : List Token) × (new.tokens ≡ mid.tokens ++ tokens) × Strikes around mid statement (raised_in around.procedure (line_of statement) failure) exit tokens back new

-- whatever it does, and however it goes on: its work comes first, and then that
abbrev pub WorkTells : Type 0 → Type 0
WorkTells A = (around : Around) (statement : Statement) (exit : Exit) (go : A → Doing Exit) (work : Doing (Result A Failure)) (old new : SessionProgress) (exchanges : List Exchange)
    → Held (concludes around statement go work) old exchanges exit new
    → (front back : List Exchange) × (mid : SessionProgress) × (result : Result A Failure) × (exchanges ≡ front ++ back) × Held work old front result mid × GoesBy around mid statement go exit result back new

-- wherever an error is raised it strikes, as it is
abbrev pub ErrorStrikes : Type 0
ErrorStrikes = (around : Around) (statement : Statement) (raised : Raised) (exit : Exit) (old new : SessionProgress) (exchanges : List Exchange) → Held (raises around statement raised) old exchanges exit new
    → (tokens : List Token) × (new.tokens ≡ old.tokens ++ tokens) × Strikes around old statement raised exit tokens exchanges new

-- one that is done with its effect sends its tokens, and leaves its session as that says, with fewer bytes that may still be sent
abbrev pub EffectTells : Type 0
EffectTells = (statement : Statement) (effect : Effect) (exit came : Exit) (old new : SessionProgress) (exchanges : List Exchange) → Held (succeeds statement effect (over exit)) old exchanges came new
    → (exchanges ≡ []) × (came ≡ exit) × (new.tokens ≡ old.tokens ++ effect.tokens) × (new.is_open ≡ old.is_open)
    × (new ≡ record (behind_effect (form_of statement) effect old) { bytes_left = new.bytes_left })

-- ---- tests and messages

-- what only reads leaves its transaction as it was, whatever it came to: the test of IF and WHILE, the message of PRINT, RAISERROR and THROW, and the
-- status of RETURN
abbrev pub TestLeaves : Type 0
TestLeaves = (around : Around) (statement : Statement) (old new : SessionProgress) (exchanges : List Exchange) (came : Result Bool Failure) (before : Progress) → Agrees old.is_open before
    → Held (tests around statement) old exchanges came new → Leaves old.is_open old.is_open before exchanges []

abbrev pub MessageLeaves : Type 0
MessageLeaves = (around : Around) (statement : Statement) (old new : SessionProgress) (exchanges : List Exchange) (came : Result Raised Failure) (before : Progress) → Agrees old.is_open before
    → Held (composes around statement) old exchanges came new → Leaves old.is_open old.is_open before exchanges []

abbrev pub StatusLeaves : Type 0
StatusLeaves = (around : Around) (statement : Statement) (old new : SessionProgress) (exchanges : List Exchange) (came : Result ℤ Failure) (before : Progress) → Agrees old.is_open before
    → Held (statuses around statement) old exchanges came new → Leaves old.is_open old.is_open before exchanges []

-- ---- each commit

-- An exchange, behind those before it, is the last one of a statement's own transaction, in which it did its work; at its beginning none
-- was open, and all that SET has set was so.
pub record EndsWork (around : Around) (statements : List Statement) (settings : Settings) (before : List Exchange) (exchange : Exchange) : Type 0 where
  pub ahead : List Statement
  pub statement : Statement
  pub others : List Statement
  pub among : statements ≡ ahead ++ statement ∷ others
  pub earlier : List Exchange
  pub path : List Exchange
  pub parts : before ++ exchange ∷ [] ≡ earlier ++ path
  pub none : progress_of earlier ≡ none_open
  pub old : SessionProgress
  pub idle : IsIdle old
  pub stays : old.settings ≡ settings
  pub exit : Exit
  pub planned : List Planned
  pub effect : Effect
  pub done : DoneBy (form_of statement) around old statement exit planned effect path

abbrev pub CommitsEnd : Around → List Statement → Settings → List Exchange → Type 0
CommitsEnd around statements settings exchanges = (before later : List Exchange) (exchange : Exchange) → exchanges ≡ before ++ exchange ∷ later → exchange.op ≡ Commit → EndsWork around statements settings before exchange

-- so is each commit of a batch of plain statements that fire no triggers, which was done or left; SET has set what it had at the batch's beginning
abbrev pub BatchCommits : Type 0
BatchCommits = (statements : List Statement) (old new : SessionProgress) (exchanges : List Exchange) → ArePlain statements → IsIdle old → NoneFires around_batch statements exchanges
    → Held (batch (text.Statements statements)) old exchanges tt new ⊎ Left (batch (text.Statements statements)) old exchanges new → CommitsEnd around_batch statements old.settings exchanges
