-- Own: the laws of writes of rows that are sure: what statements, batches and calls by RPC replace and erase was fetched before, and is kept since; so none of
-- their operations is answered by Missing. They are said of what was done and of what was left for want of memory.
use Rattle.std.specs.Prelude.{◌≡◌, ℕ, Bool, true, false, List, [], ◌∷◌, ◌++◌, length, nat_eq, Result}
use Rattle.std.specs.List.{AllByRecursion}
use Rattle.lock_modes.specs.declared.KeyPart.TheVariants.{U}
use Rattle.value_types.specs.declared.memory.Memory.{Memory}
use Rattle.value_types.specs.declared.table_name.TableName.{TableName}
use Rattle.value_types.specs.declared.value.Value.{Value}
use Rattle.tsql_tree.specs.declared.statement.Statement.{Statement}
use Rattle.step_model.specs.declared.op.Hold.TheVariants.{Range}
use Rattle.step_model.specs.declared.op.Op.TheVariants.{Fetch}
use Rattle.step_model.specs.declared.range.Start.TheVariants.{At}
use Rattle.step_model.specs.declared.range.Stop.TheVariants.{Within}
use Rattle.step_model.specs.declared.reply.Reply.{Reply}
use Rattle.step_model.specs.declared.reply.Reply.TheVariants.{Memory as Lacking, TimedOut, Victim}
use Rattle.step_model.specs.Exchange.{CanReply, Exchange}
use Rattle.step_model.specs.Fits.{ranges_hold}
use Rattle.step_model.specs.Log.{Commit as Logged}
use Rattle.batch_meaning.specs.declared.errand.Errand.{Errand}
use Rattle.batch_meaning.specs.declared.form.ReadText.{ReadText}
use Rattle.batch_meaning.specs.Doing.{Came, Doing}
use Rattle.batch_meaning.specs.Meaning.{batch, mean_of}
use Rattle.batch_meaning.specs.Progress.{SessionProgress}
use Rattle.batch_meaning.specs.Raised.{Around}
use Rattle.batch_meaning.specs.Rpc.{ReadsFor, rpc}
use Rattle.batch_meaning.specs.Statements.{ReadsAs}
use Rattle.ample_laws.specs.Ample.{Ample}
use Rattle.ample_laws.specs.Telling.{IsNoRefusal, TellsOnly}
use Rattle.write_laws.specs.Reads.{KeysHave, at_place}
use Rattle.sure_laws.specs.Asked.{AnsweredSure, AreSure, AreTold, IsAlike, IsOfKey, NoneMissing, none_sure}

-- ---- what is asked

-- what was done, or left, of a tree writes rows that are sure
abbrev pub WritesSure : {A : Type 0} → Doing A → Type 0
WritesSure {A} tree = (old new : SessionProgress) (exchanges : List Exchange) (came : Result A Memory) → AreTold [] exchanges → Came tree old exchanges came new → AreSure none_sure exchanges

abbrev pub StatementsSure : Type 0
StatementsSure = (levels : ℕ) (around : Around) (statement : Statement) → WritesSure (mean_of levels statement around)

abbrev pub BatchesSure : Type 0
BatchesSure = (read : ReadText) → WritesSure (batch read)

abbrev pub CallsSure : Type 0
CallsSure = (call : Errand) (read : ReadText) → WritesSure (rpc call read)

-- and so do two such, one behind the other
abbrev pub BothSure : Type 0
BothSure = (front back : List Exchange) → AreSure none_sure front → AreSure none_sure back → AreSure none_sure (front ++ back)

-- ---- what is answered

-- What writes only rows that are sure, and is answered as a port says of these, is not answered by Missing.
abbrev pub SureAnswered : Type 0
SureAnswered = (exchanges : List Exchange) → AllByRecursion (λ x. CanReply x.op x.reply) exchanges → AreSure none_sure exchanges → AnsweredSure none_sure exchanges → NoneMissing exchanges

-- ---- nothing is refused

-- A reply that refuses its operation, but for Missing.
abbrev pub is_hindrance : Reply → Bool
is_hindrance Lacking = true
is_hindrance (TimedOut holder held wanted on) = true
is_hindrance (Victim cycle) = true
is_hindrance reply = false

-- So nothing is asked of Missing where a batch tells no error that stands for a refusal (`ample_laws`).
abbrev pub UnhinderedBatches : Type 0
UnhinderedBatches = (units : List ℕ) (read : ReadText) (old new : SessionProgress) (exchanges : List Exchange) → ReadsAs units read → AllByRecursion (λ x. is_hindrance x.reply ≡ false) exchanges
    → AreTold [] exchanges → AnsweredSure none_sure exchanges → Ample (batch read) old exchanges tt new → TellsOnly IsNoRefusal new.tokens

-- Nor where a call by RPC does.
abbrev pub UnhinderedCalls : Type 0
UnhinderedCalls = (call : Errand) (read : ReadText) (old new : SessionProgress) (exchanges : List Exchange) → ReadsFor call.text read → AllByRecursion (λ x. is_hindrance x.reply ≡ false) exchanges
    → AreTold [] exchanges → AnsweredSure none_sure exchanges → Ample (rpc call read) old exchanges tt new → TellsOnly IsNoRefusal new.tokens

-- ---- what is told

-- In what fits a log, the index row that is told to a fetch of a whole key with U stands at that key, where all keys of its part have as many values.
abbrev pub ToldOfKey : Type 0
ToldOfKey = (log : List Logged) (mine before : List Exchange) (x : Exchange) (later : List Exchange) → ranges_hold log mine → mine ≡ before ++ x ∷ later → CanReply x.op x.reply
    → ((table : TableName) (key : List Value) → x.op ≡ Fetch table (At key) (Within key) Range U → nat_eq table.part 0 ≡ false → KeysHave (length key) (at_place log before later) table) → IsOfKey x.op x.reply

-- In what fits a log, what is told twice with its range held is told alike, where only fetches come between.
abbrev pub ToldAlike : Type 0
ToldAlike = (log : List Logged) (mine earlier before : List Exchange) (y : Exchange) (later : List Exchange) → ranges_hold log mine → mine ≡ (earlier ++ before) ++ y ∷ later
    → AllByRecursion (λ x. CanReply x.op x.reply) before → CanReply y.op y.reply → IsAlike before y.op y.reply
