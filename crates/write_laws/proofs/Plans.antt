-- What a write and DROP TABLE plan, as changes of one table.
use Rattle.std.proofs.Common.{◌≡◌, refl, sym, ap, ◌∙◌, ℕ, Bool, true, false, if◌then◌else◌, List, [], ◌∷◌, length, map, zip, Option, Some, None, Ok, Err}
use Rattle.std.proofs.lemmas.List.{length-map}
use Rattle.std.specs.List.{AllByRecursion, flat_map}
use Rattle.value_types.specs.declared.table_name.TableName.{TableName}
use Rattle.value_types.specs.declared.value.Value.{Value}
use Rattle.tsql_tree.specs.declared.definition.TableTree.{TableTree}
use Rattle.bound_tree.specs.declared.expr.BoundTest.{BoundTest}
use Rattle.bound_tree.specs.declared.write.BoundWrite.{BoundWrite}
use Rattle.bound_tree.specs.Outcomes.{Outcome}
use Rattle.bound_tree.specs.Setting.{value_at}
use Rattle.scalar_eval.specs.declared.fault.EvalFault.{EvalFault}
use Rattle.scalar_eval.specs.declared.fault.EvalFault.TheVariants.{Number, Named, Memory}
use Rattle.binder.specs.Statements.{bind_checks}
use Rattle.step_model.specs.declared.change.Deed.TheVariants.{Replace}
use Rattle.step_model.specs.declared.change.Planned.{Planned}
use Rattle.table_rows.specs.Rows.{shape_of, values_at}
use Rattle.constraint_check.specs.Local.{first_local}
use Rattle.dml_exec.specs.declared.rewritten.Rewritten.{Rewritten}
use Rattle.dml_exec.specs.declared.rewritten.Rewritten.TheVariants.{Inserted, Set, Erased}
use Rattle.dml_exec.specs.Filling.{Row}
use Rattle.dml_exec.specs.Planning.{Chg, Plan, all_changes, changes_of, checked, erasure, has_keys, insertion, moved, new_rows, outside_limits, rewrite, rewritten, stays, table_written, unless_wrong}
use Rattle.batch_meaning.specs.Changing.{planned_as, planned_in, planned_over, planned_with}
use Rattle.batch_meaning.specs.Progress.{SessionProgress, system_in, values_of}
use Rattle.batch_meaning.specs.Raised.{Around}
use Rattle.batch_meaning.specs.Selecting.{bound_as}
use Rattle.write_laws.proofs.Changes.{all_both}

-- ---- a plan is the changes of what is made of rows

abbrev pub Makes : TableName → TableTree → List Planned → Outcome Rewritten → Type 0
Makes table shape planned outcome = (came : Rewritten) × (outcome ≡ Ok came) × (planned ≡ all_changes table shape came)

module _ (table : TableName) (shape : TableTree) (checks : List BoundTest) (planned : List Planned) where
  made_unless : (came : Rewritten) (fault : Option EvalFault) → unless_wrong fault (all_changes table shape came) ≡ Ok planned → planned ≡ all_changes table shape came
  made_unless came None e = cc
  made_unless came (Some fault) e = cc

  made_checked : (outcome : Outcome Rewritten) → checked table shape checks outcome ≡ Ok planned → Makes table shape planned outcome
  made_checked (Err number) e = cc
  made_checked (Ok came) e = (came, refl, made_unless came (first_local (new_rows came) shape checks) e)

  made_keyed : (b : Bool) (outcome : Outcome Rewritten) → (if b then checked table shape checks outcome else Err (Number outside_limits)) ≡ Ok planned → Makes table shape planned outcome
  made_keyed true outcome e = made_checked outcome e
  made_keyed false outcome e = cc

pub made_of : (vars system : List Value) (shape : TableTree) (checks : List BoundTest) (of : BoundWrite) (images : List (List Row)) (planned : List Planned) → Chg vars system shape checks of images ≡ Ok planned
    → Makes (table_written of) shape planned (rewritten vars system shape of images)
made_of vars system shape checks of images planned e = made_keyed (table_written of) shape checks planned (has_keys shape) (rewritten vars system shape of images) e

-- ---- what holds of every change of rows

module _ (table : TableName) (key : List ℕ) (P : Planned → Type 0) (erased : (row : Row) → P (erasure table key row)) (inserted : (row : Row) → P (insertion table key row))
    (replaced : (pair : Row × Row) → P (rewrite table key pair)) where
  all_made : {A : Type 0} (f : A → Planned) → ((x : A) → P (f x)) → (xs : List A) → AllByRecursion P (map f xs)
  all_made f is [] = tt
  all_made f is (x ∷ xs) = (is x, all_made f is xs)

  moved_all : (pair : Row × Row) → AllByRecursion P (moved table key pair)
  moved_all pair = by_test (stays table key pair)
    where
      by_test : (b : Bool) → AllByRecursion P (if b then [] else erasure table key pair.0 ∷ [])
      by_test true = tt
      by_test false = (erased pair.0, tt)

  all_moved : (pairs : List (Row × Row)) → AllByRecursion P (flat_map (moved table key) pairs)
  all_moved [] = tt
  all_moved (pair ∷ pairs) = all_both P (moved table key pair) (flat_map (moved table key) pairs) (moved_all pair) (all_moved pairs)

  pub of_changes : (came : Rewritten) → AllByRecursion P (changes_of table key came)
  of_changes (Inserted rows) = all_made (insertion table key) inserted rows
  of_changes (Set olds news) = all_both P (flat_map (moved table key) (zip olds news)) (map (rewrite table key) (zip olds news)) (all_moved (zip olds news)) (all_made (rewrite table key) replaced (zip olds news))
  of_changes (Erased rows) = all_made (erasure table key) erased rows

-- a key has as many values as there are places
pub keys_long : (table : TableName) (key : List ℕ) (came : Rewritten) → AllByRecursion (λ change. (change.table ≡ table) × (length change.key ≡ length key)) (changes_of table key came)
keys_long table key came = of_changes table key P (λ row. (refl, long row)) (λ row. (refl, long row)) replaced came
  where
    P : Planned → Type 0
    P change = (change.table ≡ table) × (length change.key ≡ length key)

    long : (row : Row) → length (values_at key row) ≡ length key
    long row = length-map key (value_at row)

    replaced : (pair : Row × Row) → P (rewrite table key pair)
    replaced pair = by_test (stays table key pair)
      where
        by_test : (b : Bool) → P (if b then (record { table = table; key = values_at key pair.0; deed = Replace pair.1 }) else insertion table key pair.1)
        by_test true = (refl, long pair.0)
        by_test false = (refl, long pair.1)

-- ---- in the words of a session

pub as_planned : (plan : Plan) (planned : List Planned) → planned_as plan ≡ Ok planned → plan ≡ Ok planned
as_planned (Ok changes) planned e = cc
as_planned (Err (Number number)) planned e = cc
as_planned (Err (Named number name)) planned e = cc
as_planned (Err Memory) planned e = cc

-- a write is planned by the shape of its table, by what its CHECKs are bound to
abbrev pub IsChg : Around → SessionProgress → List TableTree → BoundWrite → List (List Row) → List Planned → Type 0
IsChg around p named of images planned = (shape : TableTree) × (shape_of (table_written of) named ≡ Some shape) × ((checks : List BoundTest) → bind_checks shape ≡ Ok checks → Chg (values_of p.vars) (system_in around p) shape checks of images ≡ Ok planned)

pub chg_of : (around : Around) (p : SessionProgress) (named : List TableTree) (of : BoundWrite) (images : List (List Row)) (planned : List Planned) → planned_over around p named of images ≡ Ok planned → IsChg around p named of images planned
chg_of around p named of images planned e = by_shape (shape_of (table_written of) named) refl e
  where
    by_shape : (o : Option TableTree) → shape_of (table_written of) named ≡ o → planned_in around p o of images ≡ Ok planned → IsChg around p named of images planned
    by_shape None is e = cc
    by_shape (Some shape) is e = (shape, is, λ checks bound. as_planned (Chg (values_of p.vars) (system_in around p) shape checks of images) planned (sym (ap (λ o. planned_with around p shape of images (bound_as o)) bound) ∙ e))
