-- Own: what a part of a statement comes to, where it is done in memory alone: what is meant, or memory was wanting.
use Rattle.std.specs.Prelude.{◌≡◌, ◌⊎◌, ℕ, ℤ, pos, Bool, true, false, All, List, [], ◌∷◌, Option, None, Some, Result, Ok, Err}
use Rattle.error_table.specs.declared.action.Caught.{Caught}
use Rattle.error_table.specs.declared.action.Caught.TheVariants.{LevelUp}
use Rattle.value_types.specs.declared.memory.Memory.{Memory}
use Rattle.value_types.specs.Units.{same_units}
use Rattle.value_types.specs.declared.value.Value.{Value}
use Rattle.value_types.specs.declared.sql_type.SqlType.{SqlType}
use Rattle.value_types.specs.declared.sql_type.SqlType.TheVariants.{Int, NText, SmallInt}
use Rattle.value_types.specs.declared.value.Value.TheVariants.{Whole}
use Rattle.session_vars.specs.declared.Variable.{Variable}
use Rattle.session_vars.specs.Variables.{FitsAt}
use Rattle.typed_nodes.specs.declared.fault.BindFault.{BindFault}
use Rattle.typed_nodes.specs.declared.fault.BindFault.TheVariants as bind_fault
use Rattle.scalar_eval.specs.declared.fault.EvalFault.{EvalFault}
use Rattle.scalar_eval.specs.declared.fault.EvalFault.TheVariants as eval_fault
use Rattle.txn_rules.specs.State.{after_cut, xact_state}
use Rattle.step_model.specs.Ranges.{no_memory}
use Rattle.batch_meaning.specs.declared.failure.Failure.{Failure}
use Rattle.batch_meaning.specs.Failures.{plain, naming}
use Rattle.batch_meaning.specs.Raised.{Fired}
use Rattle.batch_meaning.specs.Progress.{SessionProgress, assigns, made}
use Rattle.batch_meaning.specs.Doing.{Came, Doing}
use Rattle.batch_meaning.specs.Values.{Assigned}

-- it is what was meant, or memory was wanting
abbrev pub IsOrMemory : {A : Type 0} → Result A Failure → Result A Failure → Type 0
IsOrMemory meant result = (result ≡ meant) ⊎ (result ≡ Err (plain no_memory))

-- ---- failures

-- an error that names this, or memory was wanting for it
abbrev pub IsNamed : ℕ → List ℕ → Failure → Type 0
IsNamed number name failure = (failure ≡ naming number name) ⊎ (failure ≡ plain no_memory)

-- why a statement is not bound
abbrev pub IsUnbound : BindFault → Failure → Type 0
IsUnbound (bind_fault.Number number name) failure = failure ≡ record { number = number; name = Some name }
IsUnbound bind_fault.Memory failure = failure ≡ plain no_memory

-- why there is no value
abbrev pub IsUnplanned : EvalFault → Failure → Type 0
IsUnplanned (eval_fault.Number number) failure = failure ≡ record { number = number; name = None }
IsUnplanned (eval_fault.Named number name) failure = failure ≡ record { number = number; name = Some name }
IsUnplanned eval_fault.Memory failure = failure ≡ plain no_memory

-- ---- numbers

-- a number that a value is, or that it is none
abbrev pub number_of : Value → Option ℤ
number_of (Whole number) = Some number
number_of value = None

-- the value is this number or none, or memory was wanting for it
abbrev pub IsWhole : Result Value Failure → Result (Option ℤ) Failure → Type 0
IsWhole (Ok value) result = (result ≡ Ok (number_of value)) ⊎ (result ≡ Err (plain no_memory))
IsWhole (Err failure) result = (result ≡ Err failure) ⊎ (result ≡ Err (plain no_memory))

-- ---- variables

-- each value is one of the type of the variable at its place
abbrev pub SetsFit : List Variable → List Assigned → Type 0
SetsFit vars sets = All (λ one. FitsAt one.0 one.1 vars) sets

-- the progress behind variables that are assigned one after another
abbrev pub assigned_all : List Assigned → SessionProgress → SessionProgress
assigned_all [] p = p
assigned_all (one ∷ rest) p = assigned_all rest (made (assigns one.0 one.1) p)

-- ---- the values of the session

-- those that are no error's, and the types of both
abbrev pub counts_in : SessionProgress → List Value
counts_in p = Whole (pos p.txn.count) ∷ Whole p.error ∷ Whole (pos p.row_count) ∷ Whole p.fetch_status ∷ Whole (xact_state p.txn) ∷ []

abbrev pub count_kinds : List SqlType
count_kinds = Int ∷ Int ∷ Int ∷ Int ∷ SmallInt ∷ []

abbrev pub error_kinds : List SqlType
error_kinds = Int ∷ Int ∷ Int ∷ Int ∷ NText 4000 ∷ NText 128 ∷ []

-- ---- what stands around

-- it is the trigger of this name
abbrev pub is_trigger_of : List ℕ → Option Fired → List ℕ → Bool
is_trigger_of name None procedure = false
is_trigger_of name (Some fired) procedure = same_units name procedure

-- an error is caught only one level up
abbrev pub is_level_up : Caught → Bool
is_level_up LevelUp = true
is_level_up other = false

-- ---- what is done without the port

-- from this progress the tree came to that, and nothing was asked
pub record Stepped {A : Type 0} (tree : Doing A) (old : SessionProgress) (result : Result A Memory) (new : SessionProgress) : Type 0 where
  pub came : Came tree old [] result new

-- ---- writes that are taken back

-- the savepoints behind it are no more
abbrev pub cut_to : Option ℕ → SessionProgress → SessionProgress
cut_to None p = p
cut_to (Some mark) p = record p { txn = after_cut mark p.txn }
