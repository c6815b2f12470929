-- What CREATE puts, or why it does not.
use Rattle.std.proofs.Common.{◌≡◌, ℕ, Bool, true, false, if◌then◌else◌, List, Option, Some, None, Result, Ok, Err, refl, sym, ap, subst}
use Rattle.std.specs.Prelude.{is_some}
use Rattle.std.specs.Result.{IsErr, IsErrAnd}
use Rattle.value_types.specs.Units.{same_units}
use Rattle.value_types.specs.declared.memory.Memory.{Memory}
use Rattle.tsql_tree.specs.declared.definition.Definition.{Definition}
use Rattle.tsql_tree.specs.declared.definition.Definition.TheVariants.{Table, Procedure, Trigger}
use Rattle.tsql_tree.specs.declared.statement.DropKind.TheVariants as drop
use Rattle.table_rows.specs.Definitions.{is_objects}
use Rattle.step_model.specs.Port.{PortPast}
use Rattle.batch_meaning.specs.declared.failure.Failure.{Failure}
use Rattle.batch_meaning.specs.Failures.{plain}
use Rattle.batch_meaning.specs.Changing.{object_present, unknown_table}
use Rattle.batch_meaning.specs.Doing.{Did, Doing}
use Rattle.batch_meaning.specs.Progress.{SessionProgress}
use Rattle.batch_meaning.specs.Selecting.{Effect}
use Rattle.batch_meaning.specs.Asking.{fails, fails_naming}
use Rattle.batch_meaning.specs.Values.{outside_limits}
use Rattle.batch_meaning.specs.Writes.{puts_definition, where_table}
use Rattle.statement_exec.specs.Created.{MayBePut}
use Rattle.statement_exec.specs.Dropped.{is_found}
use Rattle.statement_exec.proofs.Parts.{does_made, does_naming}

failure_same : {failure why : Failure} → ◌≡◌ {A = Result (Unit {0}) Failure} (Err failure) (Err why) → failure ≡ why
failure_same is = cc

module _ (name : List ℕ) (tree : Doing (Result Effect Failure)) where
  -- it is put
  pub puts_on : {before after : PortPast} (outside : Bool) {p new : SessionProgress} {result : Result (Result Effect Failure) Memory} → MayBePut outside (is_objects name) name (Ok tt)
      → Did before after tree p result new → Did before after (puts_definition outside name tree) p result new
  puts_on {before = before} {after = after} outside {p = p} {new = new} {result = result} may did = by_tests outside (is_objects name) may
    where
      by_tests : (far objects : Bool) → MayBePut far objects name (Ok tt) → Did before after (if far then fails outside_limits else if objects then fails_naming object_present name else tree) p result new
      by_tests true objects is = absurd cc
      by_tests false true is = absurd is
      by_tests false false is = did

  -- it is not
  puts_why : {past : PortPast} (outside : Bool) (failure : Failure) {p : SessionProgress} → MayBePut outside (is_objects name) name (Err failure) → Did past past (puts_definition outside name tree) p (Ok (Err failure)) p
  puts_why {past = past} outside failure {p = p} may = by_tests outside (is_objects name) may
    where
      by_tests : (far objects : Bool) → MayBePut far objects name (Err failure) → Did past past (if far then fails outside_limits else if objects then fails_naming object_present name else tree) p (Ok (Err failure)) p
      by_tests true objects is = does_made (let same : failure ≡ plain outside_limits = failure_same is in ap Err same)
      by_tests false true is = does_naming object_present name failure is
      by_tests false false is = absurd cc

  pub puts_fails : {past : PortPast} (outside : Bool) (failure : Failure) {p : SessionProgress} (result : Result Effect Failure) → IsErr result → IsErrAnd result (λ x. x ≡ failure) → MayBePut outside (is_objects name) name (Err failure)
      → Did past past (puts_definition outside name tree) p (Ok result) p
  puts_fails outside failure (Ok effect) err same may = absurd (let no : false ≡ true = err in cc)
  puts_fails {past = past} outside failure {p = p} (Err x) err same may = subst (λ (f : Failure). Did past past (puts_definition outside name tree) p (Ok (Err f)) p) (sym same) (puts_why outside failure may)

  -- a trigger's table
  by_name : (same : Bool) (other : Doing (Result Effect Failure)) → same ≡ true → (if same then tree else other) ≡ tree
  by_name true other is = refl
  by_name false other is = absurd (let no : false ≡ true = is in cc)

  not_named : (same : Bool) (other : Doing (Result Effect Failure)) → same ≡ false → (if same then tree else other) ≡ other
  not_named true other is = absurd (let no : true ≡ false = is in cc)
  not_named false other is = refl

  table_there : (found : Option Definition) → is_found drop.Table name found ≡ true → where_table name tree found ≡ tree
  table_there None is = absurd (let no : false ≡ true = is in cc)
  table_there (Some (Table table)) is = by_name (same_units table.name name) _ is
  table_there (Some (Procedure procedure)) is = absurd (let no : false ≡ true = is in cc)
  table_there (Some (Trigger trigger)) is = absurd (let no : false ≡ true = is in cc)

  table_not_there : (found : Option Definition) → is_found drop.Table name found ≡ false → where_table name tree found ≡ fails_naming unknown_table name
  table_not_there None is = refl
  table_not_there (Some (Table table)) is = not_named (same_units table.name name) _ is
  table_not_there (Some (Procedure procedure)) is = refl
  table_not_there (Some (Trigger trigger)) is = refl

  pub does_there : {before after : PortPast} (found : Option Definition) {p new : SessionProgress} {result : Result (Result Effect Failure) Memory} → is_found drop.Table name found ≡ true
      → Did before after tree p result new → Did before after (where_table name tree found) p result new
  does_there {before = before} {after = after} found {p = p} {new = new} {result = result} is did = subst (λ (t : Doing (Result Effect Failure)). Did before after t p result new) (sym (table_there found is)) did

  pub does_not_there : {before after : PortPast} (found : Option Definition) {p new : SessionProgress} {result : Result (Result Effect Failure) Memory} → is_found drop.Table name found ≡ false
      → Did before after (fails_naming {A = Effect} unknown_table name) p result new → Did before after (where_table name tree found) p result new
  does_not_there {before = before} {after = after} found {p = p} {new = new} {result = result} is did = subst (λ (t : Doing (Result Effect Failure)). Did before after t p result new) (sym (table_not_there found is)) did

pub found_some : (name : List ℕ) (found : Option Definition) → is_found drop.Table name found ≡ true → is_some found ≡ true
found_some name None is = is
found_some name (Some of) is = refl
