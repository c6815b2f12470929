-- Own: nothing is refused without a refusal. Where memory is not wanting and no reply refuses, no error stands for a refusal; a response is whole; 49001
-- is told only where a batch has begun all statements that it may, and 49002 only where a result is more than its limit.
use Rattle.std.specs.Prelude.{◌≡◌, ◌≢◌, ◌≤◌, ◌-◌, ◌+◌, ℕ, List, ◌++◌}
use Rattle.tsql_tree.specs.declared.statement.Statement.{Statement}
use Rattle.step_model.specs.Exchange.{Exchange}
use Rattle.tds_tokens.specs.declared.token.Token.{Token}
use Rattle.batch_meaning.specs.declared.errand.Errand.{Errand}
use Rattle.batch_meaning.specs.declared.exit.Exit.{Exit}
use Rattle.batch_meaning.specs.declared.form.ReadText.{ReadText}
use Rattle.batch_meaning.specs.Doing.{Doing, Held}
use Rattle.batch_meaning.specs.Meaning.{batch, mean_of}
use Rattle.batch_meaning.specs.Progress.{SessionProgress, begins, made, sends, size_of}
use Rattle.batch_meaning.specs.Raised.{Around}
use Rattle.batch_meaning.specs.Rpc.{ReadsFor, rpc}
use Rattle.batch_meaning.specs.Statements.{ReadsAs}
use Rattle.batch_meaning.specs.Tokens.{batch_done, rpc_done}
use Rattle.session_vars.specs.declared.Variable.{Variable}
use Rattle.ample_laws.specs.Ample.{Ample, NoneRefused}
use Rattle.ample_laws.specs.Small.{Small, end_bytes, most_bytes}
use Rattle.ample_laws.specs.Telling.{CaughtOnly, EndsWith, IsNoLimit, IsNoRefusal, IsNotPast, LeavesOnly, TellsOnly}

-- What was done where memory was never wanting was done: the laws of `Held` hold of it, and it is about the same exchanges.
abbrev pub AmpleHeld : Type 0 → Type 0
AmpleHeld A = (tree : Doing A) (old new : SessionProgress) (exchanges : List Exchange) (result : A)
    → Ample tree old exchanges result new → Held tree old exchanges result new

-- so it is of statements, and of batches and calls
abbrev pub AmpleIsHeld : Type 0
AmpleIsHeld = AmpleHeld Exit × AmpleHeld (Unit {0})

-- ---- no refusal

-- A statement for which memory was never wanting, and to which no reply was a refusal, sends no token that tells 701, 1205 or 1222, and raises another error,
-- if any. Of statements in the CATCH of such an error nothing is said: there THROW raises it again.
abbrev pub AmpleStatements : Type 0
AmpleStatements = (levels : ℕ) (around : Around) (statement : Statement) (old new : SessionProgress) (exchanges : List Exchange) (exit : Exit)
    → CaughtOnly IsNoRefusal around.caught → NoneRefused exchanges → Ample (mean_of levels statement around) old exchanges exit new
    → LeavesOnly IsNoRefusal exit × ((sent : List Token) × (new.tokens ≡ old.tokens ++ sent) × TellsOnly IsNoRefusal sent)

-- Such a batch, as its text is read, tells none of them.
abbrev pub AmpleBatches : Type 0
AmpleBatches = (text : List ℕ) (read : ReadText) (old new : SessionProgress) (exchanges : List Exchange)
    → ReadsAs text read → NoneRefused exchanges → Ample (batch read) old exchanges tt new → TellsOnly IsNoRefusal new.tokens

-- Nor does such a call by RPC.
abbrev pub AmpleCalls : Type 0
AmpleCalls = (call : Errand) (read : ReadText) (old new : SessionProgress) (exchanges : List Exchange)
    → ReadsFor call.text read → NoneRefused exchanges → Ample (rpc call read) old exchanges tt new → TellsOnly IsNoRefusal new.tokens

-- ---- whole responses

-- A batch that was done has sent its last DONE, whatever was replied, and before it none that is the end.
abbrev pub BatchesEnd : Type 0
BatchesEnd = (text : List ℕ) (read : ReadText) (old new : SessionProgress) (exchanges : List Exchange)
    → ReadsAs text read → Held (batch read) old exchanges tt new → EndsWith batch_done new.tokens

-- A call by RPC has sent its last DONEPROC.
abbrev pub CallsEnd : Type 0
CallsEnd = (call : Errand) (read : ReadText) (old new : SessionProgress) (exchanges : List Exchange)
    → ReadsFor call.text read → Held (rpc call read) old exchanges tt new → EndsWith rpc_done new.tokens

-- ---- the limit of statements

-- A statement, of no fewer levels than statements are left, behind which some still are, sends no token that tells 49001, and raises another error, if any.
abbrev pub StatementsWithin : Type 0
StatementsWithin = (levels : ℕ) (around : Around) (statement : Statement) (old new : SessionProgress) (exchanges : List Exchange) (exit : Exit)
    → CaughtOnly IsNoLimit around.caught → old.statements_left ≤ levels → new.statements_left ≢ 0 → Held (mean_of levels statement around) old exchanges exit new
    → LeavesOnly IsNoLimit exit × ((sent : List Token) × (new.tokens ≡ old.tokens ++ sent) × TellsOnly IsNoLimit sent)

-- A batch behind which some statements are left, of the 1,000,000 that it may begin, does not tell 49001.
abbrev pub BatchesWithin : Type 0
BatchesWithin = (text : List ℕ) (read : ReadText) (old new : SessionProgress) (exchanges : List Exchange)
    → ReadsAs text read → new.statements_left ≢ 0 → Held (batch read) old exchanges tt new → TellsOnly IsNoLimit new.tokens

-- Nor does a call by RPC behind which some are.
abbrev pub CallsWithin : Type 0
CallsWithin = (call : Errand) (read : ReadText) (old new : SessionProgress) (exchanges : List Exchange)
    → ReadsFor call.text read → new.statements_left ≢ 0 → Held (rpc call read) old exchanges tt new → TellsOnly IsNoLimit new.tokens

-- ---- the result limit

-- What was done where nothing was more than the limit was done.
abbrev pub SmallHeld : Type 0 → Type 0
SmallHeld A = (tree : Doing A) (old new : SessionProgress) (exchanges : List Exchange) (result : A)
    → Small tree old exchanges result new → Held tree old exchanges result new

abbrev pub SmallIsHeld : Type 0
SmallIsHeld = SmallHeld Exit × SmallHeld (Unit {0})

-- A batch begins with all bytes that it may send, but those of its end; and what it sends takes as many as the tokens have.
abbrev pub CountsBytes : Type 0
CountsBytes = (p : SessionProgress) → ((vars : List Variable) → (made (begins vars) p).bytes_left + end_bytes ≡ most_bytes)
    × ((tokens : List Token) → (made (sends tokens) p).bytes_left ≡ p.bytes_left - size_of tokens)

-- A statement, by which nothing was more than the limit, sends no token that tells 49002, and raises another error, if any.
abbrev pub SmallStatements : Type 0
SmallStatements = (levels : ℕ) (around : Around) (statement : Statement) (old new : SessionProgress) (exchanges : List Exchange) (exit : Exit)
    → CaughtOnly IsNotPast around.caught → Small (mean_of levels statement around) old exchanges exit new
    → LeavesOnly IsNotPast exit × ((sent : List Token) × (new.tokens ≡ old.tokens ++ sent) × TellsOnly IsNotPast sent)

-- A batch by which nothing was more than the limit does not tell 49002.
abbrev pub SmallBatches : Type 0
SmallBatches = (text : List ℕ) (read : ReadText) (old new : SessionProgress) (exchanges : List Exchange)
    → ReadsAs text read → Small (batch read) old exchanges tt new → TellsOnly IsNotPast new.tokens

-- Nor does a call by RPC by which nothing was.
abbrev pub SmallCalls : Type 0
SmallCalls = (call : Errand) (read : ReadText) (old new : SessionProgress) (exchanges : List Exchange)
    → ReadsFor call.text read → Small (rpc call read) old exchanges tt new → TellsOnly IsNotPast new.tokens
