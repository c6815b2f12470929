-- Own: the keys on which a session's exchanges rely while its transaction is open. It speaks of exchanges alone:
-- which locks keep these keys is said elsewhere.
use Rattle.std.specs.Prelude.{◌≡◌, ℕ, ◌&&◌, ◌||◌, Bool, true, false, List, ◌∷◌, ◌++◌, drop, None, IsTrue}
use Rattle.std.specs.List.{AllByRecursion}
use Rattle.std.specs.Ordering.{is_eq, is_lt}
use Rattle.lock_modes.specs.declared.KeyPart.TheVariants.{U}
use Rattle.value_types.specs.declared.table_name.TableName.{TableName}
use Rattle.value_types.specs.declared.value.Value.{Value}
use Rattle.value_types.specs.Order.{key_cmp, table_cmp}
use Rattle.step_model.specs.declared.op.Hold.TheVariants.{Range, Row as RowAlone}
use Rattle.step_model.specs.declared.op.Op.{Op}
use Rattle.step_model.specs.declared.op.Op.TheVariants.{Fetch, Insert, Replace, Erase}
use Rattle.step_model.specs.declared.range.Start.{Start}
use Rattle.step_model.specs.declared.reply.Reply.{Reply}
use Rattle.step_model.specs.declared.reply.Reply.TheVariants.{Row, Gone, End, Done, Exists}
use Rattle.step_model.specs.declared.resource.Span.{Span}
use Rattle.step_model.specs.declared.resource.Span.TheVariants.{Statement, Transaction as Whole}
use Rattle.step_model.specs.Database.{allows, includes}
use Rattle.step_model.specs.Entries.{change_at}
use Rattle.step_model.specs.Exchange.{Exchange}
use Rattle.step_model.specs.Sure.{SameKey}
use Rattle.step_model.specs.Fits.{NoneEnds, NoRelax, at_of}
use Rattle.step_model.specs.Log.{Commit}

-- a key, or one below it at which a range may begin
abbrev pub reaches : Start → List Value → List Value → Bool
reaches start key x = is_eq (key_cmp x key) || allows start x && is_lt (key_cmp x key)

-- The keys that one exchange relies on: until `span` ends, no other session may change them. `later` are the
-- exchanges behind it. A fetch that holds its range relies on all keys from its start to where it stopped, a
-- fetch with U on its row while the statement goes on, a write on its key, and so does an insertion that found
-- a row there.
abbrev pub KeysOf : Op → Reply → List Exchange → Span → TableName → List Value → Type 0
KeysOf (Fetch table start stop Range part) (Row key row at) later Whole t x = IsTrue (is_eq (table_cmp t table)) × IsTrue (reaches start key x)
KeysOf (Fetch table start stop Range part) (Gone key at) later Whole t x = IsTrue (is_eq (table_cmp t table)) × IsTrue (reaches start key x)
KeysOf (Fetch table start stop Range part) (End at) later Whole t x = IsTrue (is_eq (table_cmp t table)) × IsTrue (allows start x) × IsTrue (includes stop x)
KeysOf (Fetch table start stop RowAlone U) (Row key row at) later Statement t x = SameKey table key t x × NoRelax later
KeysOf (Insert table key row) Done later Whole t x = SameKey table key t x
KeysOf (Insert table key row) Exists later Whole t x = SameKey table key t x
KeysOf (Replace table key row) Done later Whole t x = SameKey table key t x
KeysOf (Erase table key) Done later Whole t x = SameKey table key t x
KeysOf op reply later span t x = ⊥

-- one of a session's exchanges relies on the key, and the transaction is still open
pub record Relies (mine : List Exchange) (span : Span) (t : TableName) (x : List Value) : Type 0 where
  pub before : List Exchange
  pub exchange : Exchange
  pub later : List Exchange
  pub split : mine ≡ before ++ exchange ∷ later
  pub opened : NoneEnds later
  pub keys : KeysOf exchange.op exchange.reply later span t x

-- no commit from this number on changed the key
abbrev pub Untouched : List Commit → ℕ → TableName → List Value → Type 0
Untouched log from t x = AllByRecursion (λ commit. change_at commit.changes t x ≡ None) (drop from log)

abbrev pub is_fetch : Op → Bool
is_fetch (Fetch table start stop hold part) = true
is_fetch op = false

-- since its fetch no commit has changed a key that an open transaction relies on
abbrev pub Steady : List Commit → List Exchange → Type 0
Steady log mine = (before : List Exchange) (exchange : Exchange) (later : List Exchange) → mine ≡ before ++ exchange ∷ later → NoneEnds later → IsTrue (is_fetch exchange.op)
    → (span : Span) (t : TableName) (x : List Value) → KeysOf exchange.op exchange.reply later span t x → Untouched log (at_of exchange.reply) t x
