-- Own: the laws of what a statement has asked that is done with its effect: where it succeeded, where it failed, and where it was left in
-- the middle, for want of memory. Of a write they say the way up to where its triggers run.
use Rattle.std.specs.Prelude.{◌≡◌, ◌⊎◌, ℕ, ℤ, true, false, List, [], ◌∷◌, Option, None, Result, Ok, Err}
use Rattle.tsql_tree.specs.declared.definition.Definition.{Definition}
use Rattle.tsql_tree.specs.declared.statement.Argument.{Argument}
use Rattle.tsql_tree.specs.declared.statement.Statement.{Statement}
use Rattle.binder.specs.Names.{form_of, looked_up}
use Rattle.step_model.specs.declared.change.Planned.{Planned}
use Rattle.step_model.specs.Exchange.{Exchange}
use Rattle.batch_meaning.specs.declared.failure.Failure.{Failure}
use Rattle.batch_meaning.specs.declared.stop.Stop.{Stop}
use Rattle.batch_meaning.specs.Calls.{Call, finds_call}
use Rattle.batch_meaning.specs.Doing.{Held, Left}
use Rattle.batch_meaning.specs.Meaning.{Meaning, fires, writes}
use Rattle.batch_meaning.specs.Progress.{SessionProgress}
use Rattle.batch_meaning.specs.Raised.{Around}
use Rattle.batch_meaning.specs.Selecting.{Effect, no_effect}
use Rattle.batch_meaning.specs.Working.{asks_any, known_by, statuses}
use Rattle.batch_meaning.specs.Writes.{Written, creates_definition}
use Rattle.statement_paths.specs.Paths.{HasCalled, HasChanged, HasDone, HasFailed, HasFailedIn, HasPut, HasPutFailed, HasReturned, IsFired, IsUnfired, NoneCommits, asks_of, changes_of, is_write, work_of}

-- ---- statements that are done with their effect

-- it came to its effect: by its parts
abbrev pub WorkDone : Type 0
WorkDone = (around : Around) (statement : Statement) (old new : SessionProgress) (exchanges : List Exchange) (effect : Effect)
    → Held (work_of around statement) old exchanges (Ok effect) new → (planned : List Planned) × HasDone around old statement planned effect exchanges

-- it failed
abbrev pub WorkFailed : Type 0
WorkFailed = (around : Around) (statement : Statement) (old new : SessionProgress) (exchanges : List Exchange) (failure : Failure)
    → Held (work_of around statement) old exchanges (Err failure) new → HasFailed around old statement exchanges

-- It was left: it has committed nothing, or it had begun a transaction for its work, which was done and committed.
abbrev pub WorkLeft : Type 0
WorkLeft = (around : Around) (statement : Statement) (old new : SessionProgress) (exchanges : List Exchange)
    → Left (work_of around statement) old exchanges new → NoneCommits exchanges ⊎ ((old.is_open ≡ false) × (planned : List Planned) × (effect : Effect) × HasDone around old statement planned effect exchanges)

-- Where it asks nothing, nothing was asked; in a trigger it may read the rows that are given there.
abbrev pub WorkUnasked : Type 0
WorkUnasked = (around : Around) (statement : Statement) (old new : SessionProgress) (exchanges : List Exchange) (came : Result Effect Failure)
    → around.fired ≡ None → asks_of around statement ≡ false → Held (work_of around statement) old exchanges came new → exchanges ≡ []

-- ---- INSERT, UPDATE and DELETE

-- it came to its end: without triggers, or with those that it fired
abbrev pub WriteComes : Type 0
WriteComes = (one : Statement → Meaning) (around : Around) (statement : Statement) (old new : SessionProgress) (exchanges : List Exchange) (came : Result Effect Stop) → is_write (form_of statement) ≡ true
    → Held (writes one around statement) old exchanges came new
    → IsUnfired around old statement came exchanges ⊎ IsFired around old statement (λ home done mid behind. Held (fires one around home done) mid behind came new) exchanges

-- it was left: without triggers as others, or behind those that it fired, or among them
abbrev pub WriteLeft : Type 0
WriteLeft = (one : Statement → Meaning) (around : Around) (statement : Statement) (old new : SessionProgress) (exchanges : List Exchange) → is_write (form_of statement) ≡ true
    → Left (writes one around statement) old exchanges new
    → (NoneCommits exchanges ⊎ ((old.is_open ≡ false) × (planned : List Planned) × (effect : Effect) × HasDone around old statement planned effect exchanges))
    ⊎ IsFired around old statement (λ home done mid behind. Left (fires one around home done) mid behind new) exchanges

-- so it does without its triggers: it succeeded, with those that it fires and with what they see, or failed
abbrev pub ChangeDone : Type 0
ChangeDone = (around : Around) (statement : Statement) (old new : SessionProgress) (exchanges : List Exchange) (done : Written) → is_write (form_of statement) ≡ true
    → Held (changes_of around statement) old exchanges (Ok done) new → (planned : List Planned) × HasChanged around old statement planned done exchanges

abbrev pub ChangeFailed : Type 0
ChangeFailed = (around : Around) (statement : Statement) (old new : SessionProgress) (exchanges : List Exchange) (failure : Failure) → is_write (form_of statement) ≡ true
    → Held (changes_of around statement) old exchanges (Err failure) new → HasFailed around old statement exchanges

-- where it asks nothing, nothing was asked
abbrev pub WriteUnasked : Type 0
WriteUnasked = (one : Statement → Meaning) (around : Around) (statement : Statement) (old new : SessionProgress) (exchanges : List Exchange) (came : Result Effect Stop) → is_write (form_of statement) ≡ true
    → asks_of around statement ≡ false → Held (writes one around statement) old exchanges came new → exchanges ≡ []

-- ---- RETURN

abbrev pub ReturnDone : Type 0
ReturnDone = (around : Around) (statement : Statement) (old new : SessionProgress) (exchanges : List Exchange) (status : ℤ)
    → Held (statuses around statement) old exchanges (Ok status) new → HasReturned around old statement status exchanges

abbrev pub ReturnFailed : Type 0
ReturnFailed = (around : Around) (statement : Statement) (old new : SessionProgress) (exchanges : List Exchange) (failure : Failure)
    → Held (statuses around statement) old exchanges (Err failure) new → HasFailedIn (asks_any (known_by around statement) (looked_up statement)) old exchanges

-- ---- EXEC, up to where its procedure runs

abbrev pub CallDone : Type 0
CallDone = (around : Around) (statement : Statement) (status : Option (List ℕ)) (name : List ℕ) (arguments : List Argument) (old new : SessionProgress) (exchanges : List Exchange) (call : Call)
    → Held (finds_call around statement status name arguments) old exchanges (Ok call) new → HasCalled around old statement status name arguments call exchanges

abbrev pub CallFailed : Type 0
CallFailed = (around : Around) (statement : Statement) (status : Option (List ℕ)) (name : List ℕ) (arguments : List Argument) (old new : SessionProgress) (exchanges : List Exchange) (failure : Failure)
    → Held (finds_call around statement status name arguments) old exchanges (Err failure) new → HasFailedIn (asks_any (known_by around statement) (name ∷ [])) old exchanges

-- ---- CREATE PROCEDURE and CREATE TRIGGER

abbrev pub DefinitionDone : Type 0
DefinitionDone = (of : Definition) (text : List ℕ) (old new : SessionProgress) (exchanges : List Exchange) (effect : Effect)
    → Held (creates_definition of text) old exchanges (Ok effect) new → (planned : List Planned) × HasPut old of text planned exchanges × (effect ≡ no_effect)

abbrev pub DefinitionFailed : Type 0
DefinitionFailed = (of : Definition) (text : List ℕ) (old new : SessionProgress) (exchanges : List Exchange) (failure : Failure)
    → Held (creates_definition of text) old exchanges (Err failure) new → HasPutFailed old exchanges

abbrev pub DefinitionLeft : Type 0
DefinitionLeft = (of : Definition) (text : List ℕ) (old new : SessionProgress) (exchanges : List Exchange)
    → Left (creates_definition of text) old exchanges new → NoneCommits exchanges ⊎ ((old.is_open ≡ false) × (planned : List Planned) × HasPut old of text planned exchanges)
