-- Own: what begins a transaction unseen, under IMPLICIT_TRANSACTIONS ON, begins that first, which is told, and does then what it does in a transaction that is
-- open; or that failed, and its error strikes.
use Rattle.std.specs.Prelude.{◌≡◌, ℕ, ℤ, suc, true, false, List, [], ◌++◌, None, Result, Ok, Err}
use Rattle.tsql_tree.specs.declared.definition.Definition.{Definition}
use Rattle.tsql_tree.specs.declared.statement.Statement.{Statement}
use Rattle.binder.specs.Names.{form_of}
use Rattle.step_model.specs.Exchange.{Exchange}
use Rattle.step_model.specs.Fits.{commits_from}
use Rattle.step_model.specs.Own.{Progress as Stand, progress_from}
use Rattle.tds_tokens.specs.Numbers.{command_none}
use Rattle.tds_tokens.specs.declared.token.Token.{Token}
use Rattle.batch_meaning.specs.declared.exit.Exit.{Exit}
use Rattle.batch_meaning.specs.declared.failure.Failure.{Failure}
use Rattle.batch_meaning.specs.Doing.{Held}
use Rattle.batch_meaning.specs.Meaning.{defines_object, line_of, mean_of, meaning}
use Rattle.batch_meaning.specs.Progress.{SessionProgress, counts, made, sends}
use Rattle.batch_meaning.specs.Raised.{Around, around_batch, raised_at, raised_in}
use Rattle.batch_meaning.specs.Selecting.{Effect}
use Rattle.batch_meaning.specs.Unseen.{is_unseen, wants_begin}
use Rattle.batch_laws.specs.Committing.{Agrees, ArePlain, FiresSome, Strikes, StrikesAt}
use Rattle.batch_laws.specs.Control.{MayBegin}
use Rattle.batch_laws.specs.Transactions.{Begins}

-- ---- statements

-- as the next statement begins
abbrev pub to_begin : SessionProgress → SessionProgress
to_begin p = record p { statements_left = suc p.statements_left }

-- by what the BEGIN that is not seen came to
abbrev pub UnseenGoes : ℕ → Around → Statement → Result Effect Failure → SessionProgress → List Exchange → Exit → SessionProgress → Type 0
UnseenGoes levels around statement (Ok effect) begun back exit new = Held (mean_of (suc levels) statement around) (to_begin (made (sends effect.tokens) begun)) back exit new
UnseenGoes levels around statement (Err failure) begun back exit new =
    (tokens : List Token) × (new.tokens ≡ begun.tokens ++ tokens) × Strikes around begun statement (raised_in around.procedure (line_of statement) failure) exit tokens back new

abbrev pub UnseenBegins : Type 0
UnseenBegins = (levels : ℕ) (around : Around) (statement : Statement) (old new : SessionProgress) (exchanges : List Exchange) (exit : Exit) → MayBegin old → is_unseen old (form_of statement) ≡ true → Held (mean_of (suc levels) statement around) old exchanges exit new
    → (front back : List Exchange) × (begun : SessionProgress) × (came : Result Effect Failure) × (exchanges ≡ front ++ back) × Begins (made counts old) None false came front begun × UnseenGoes levels around statement came begun back exit new

-- ---- definitions

-- a batch that defines a procedure or a trigger, which has no rows
abbrev pub DefinesGoes : ℤ → Definition → List ℕ → Result Effect Failure → SessionProgress → List Exchange → Exit → SessionProgress → Type 0
DefinesGoes line of units (Ok effect) begun back exit new = Held (defines_object line of units) (made (sends effect.tokens) begun) back exit new
DefinesGoes line of units (Err failure) begun back exit new =
    ((tokens : List Token) × (new.tokens ≡ begun.tokens ++ tokens) × StrikesAt around_batch begun command_none line (raised_at line failure) exit tokens back new) × (new.row_count ≡ 0)

abbrev pub UnseenDefines : Type 0
UnseenDefines = (line : ℤ) (of : Definition) (units : List ℕ) (old new : SessionProgress) (exchanges : List Exchange) (exit : Exit) → wants_begin old ≡ true → Held (defines_object line of units) old exchanges exit new
    → (front back : List Exchange) × (begun : SessionProgress) × (came : Result Effect Failure) × (exchanges ≡ front ++ back) × Begins old None false came front begun × DefinesGoes line of units came begun back exit new

-- ---- statements one after another

-- Where the option is on, plain statements that fire no triggers commit nothing: what they have written stays in the transaction that is open behind them, or
-- an error has ended that.
abbrev pub UnseenRun : Type 0
UnseenRun = (levels : ℕ) (around : Around) (statements : List Statement) (old new : SessionProgress) (exchanges : List Exchange) (exit : Exit) (before : Stand) → ArePlain statements → old.settings.implicit ≡ true → Agrees old.is_open before
    → (FiresSome around statements exchanges → ⊥) → Held (meaning levels statements around) old exchanges exit new → (commits_from before exchanges ≡ []) × Agrees new.is_open (progress_from before exchanges) × (new.settings ≡ old.settings)
