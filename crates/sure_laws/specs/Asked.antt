-- Own: `AreSure`: each Replace and Erase among a session's exchanges is of a row that was fetched and kept (`Sure` of step_model), so that a port does
-- not answer it by Missing. And what of replies that is said under.
use Rattle.std.specs.Prelude.{◌≡◌, ◌≢◌, ℕ, false, List, [], ◌∷◌, ◌++◌, IsTrue, nat_eq}
use Rattle.std.specs.List.{AllByRecursion}
use Rattle.std.specs.Ordering.{is_eq}
use Rattle.lock_modes.specs.declared.KeyPart.{KeyPart}
use Rattle.lock_modes.specs.declared.KeyPart.TheVariants.{U}
use Rattle.value_types.specs.declared.table_name.TableName.{TableName}
use Rattle.value_types.specs.declared.value.Value.{Value}
use Rattle.value_types.specs.Order.{key_cmp}
use Rattle.step_model.specs.declared.op.Hold.TheVariants.{Range}
use Rattle.step_model.specs.declared.op.Op.{Op}
use Rattle.step_model.specs.declared.op.Op.TheVariants.{Fetch, Replace, Erase}
use Rattle.step_model.specs.declared.range.Start.{Start}
use Rattle.step_model.specs.declared.range.Start.TheVariants.{At}
use Rattle.step_model.specs.declared.range.Stop.{Stop}
use Rattle.step_model.specs.declared.range.Stop.TheVariants.{Within}
use Rattle.step_model.specs.declared.reply.Reply.{Reply}
use Rattle.step_model.specs.declared.reply.Reply.TheVariants.{Row, Missing}
use Rattle.step_model.specs.declared.resource.Span.{Span}
use Rattle.step_model.specs.Exchange.{Exchange}
use Rattle.step_model.specs.Port.{AnswersSure}
use Rattle.step_model.specs.Sure.{SureKeys, sure_after}
use Rattle.statement_paths.specs.Asked.{AskOnly, IsFetch}

-- as a connection begins no row is sure
abbrev pub none_sure : SureKeys
none_sure span t x = ⊥

-- a row is, at least to the end of the statement
abbrev pub IsSureAt : SureKeys → TableName → List Value → Type 0
IsSureAt sure table key = (span : Span) × sure span table key

-- an operation that replaces or erases does so where a row is sure
abbrev pub AsksSure : SureKeys → Op → Type 0
AsksSure sure (Replace table key row) = IsSureAt sure table key
AsksSure sure (Erase table key) = IsSureAt sure table key
AsksSure sure op = Unit {0}

-- so does each of these, one behind another
abbrev pub AreSure : SureKeys → List Exchange → Type 0
AreSure sure [] = Unit {0}
AreSure sure (x ∷ later) = AsksSure sure x.op × AreSure (sure_after sure x.op x.reply) later

-- a port answered each of them as it says of rows that are sure
abbrev pub AnsweredSure : SureKeys → List Exchange → Type 0
AnsweredSure sure [] = Unit {0}
AnsweredSure sure (x ∷ later) = AnswersSure sure x.op x.reply × AnsweredSure (sure_after sure x.op x.reply) later

-- none of them was answered by Missing
abbrev pub NoneMissing : List Exchange → Type 0
NoneMissing exchanges = AllByRecursion (λ x. x.reply ≢ Missing) exchanges

-- The index row that was told to a fetch of a whole key with U stands at that key. So it is where all keys of an index part have as many values as
-- those that are asked for; a front of a longer key is a range of several.
abbrev pub IsOfKey : Op → Reply → Type 0
IsOfKey (Fetch table (At key) (Within last) Range U) (Row own row at) = nat_eq table.part 0 ≡ false → last ≡ key → IsTrue (is_eq (key_cmp key own))
IsOfKey op reply = Unit {0}

-- What was told where its range is held is told alike, while nothing but fetches is asked.
abbrev pub IsAlike : List Exchange → Op → Reply → Type 0
IsAlike before (Fetch table start stop Range part) (Row own row at) =
    (front between : List Exchange) (x : Exchange) (first : Start) (last : Stop) (lock : KeyPart) (key base : List Value) (number : ℕ) → before ≡ front ++ x ∷ between → AskOnly IsFetch between
    → x.op ≡ Fetch table first last Range lock → x.reply ≡ Row key base number → IsTrue (is_eq (key_cmp key own)) → base ≡ row
IsAlike before op reply = Unit {0}

-- both, of a reply behind these exchanges
abbrev pub IsTold : List Exchange → Op → Reply → Type 0
IsTold before op reply = IsOfKey op reply × IsAlike before op reply

abbrev pub AreTold : List Exchange → List Exchange → Type 0
AreTold before [] = Unit {0}
AreTold before (x ∷ later) = IsTold before x.op x.reply × AreTold (before ++ x ∷ []) later
