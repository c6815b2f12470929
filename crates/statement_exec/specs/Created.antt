-- Own: what private contracts say of CREATE.
use Rattle.std.specs.Prelude.{◌≡◌, ℕ, Bool, true, false, List, Result, Ok, Err}
use Rattle.tsql_tree.specs.declared.definition.TriggerTree.{TriggerTree}
use Rattle.clause_binder.specs.Scope.{is_long}
use Rattle.batch_meaning.specs.declared.failure.Failure.{Failure}
use Rattle.batch_meaning.specs.Failures.{plain}
use Rattle.session_state.specs.Parts.{IsNamed}
use Rattle.batch_meaning.specs.Changing.{object_present}
use Rattle.batch_meaning.specs.Doing.{Doing}
use Rattle.batch_meaning.specs.Selecting.{Effect}
use Rattle.batch_meaning.specs.Values.{outside_limits}
use Rattle.batch_meaning.specs.Asking.{◌>>=◌, look_up}
use Rattle.batch_meaning.specs.Writes.{creates, puts_definition, where_table}

-- A definition can be put there, or why not: it is outside a limit, or has the name of `objects`.
abbrev pub MayBePut : Bool → Bool → List ℕ → Result (Unit {0}) Failure → Type 0
MayBePut true is_objects name result = result ≡ Err (plain outside_limits)
MayBePut false true name (Err failure) = IsNamed object_present name failure
MayBePut false true name (Ok done) = ⊥
MayBePut false false name result = result ≡ Ok tt

-- what CREATE TRIGGER asks within its transaction
abbrev pub creates_trigger : TriggerTree → List ℕ → Doing (Result Effect Failure)
creates_trigger trigger text = look_up trigger.table >>= where_table trigger.table
    (puts_definition (is_long trigger.name) trigger.name (creates trigger.name text))
