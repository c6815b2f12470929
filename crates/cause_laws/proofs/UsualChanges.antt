-- What a write plans, and the checks of what it changes, fail by usual numbers alone.
use Rattle.std.proofs.Common.{refl, ℕ, ℤ, List, [], ◌∷◌, map, Option, Some, None, Bool, true, false, Result, Ok, Err, if◌then◌else◌}
use Rattle.std.specs.Prelude.{nat_le, slice_get, slice_set}
use Rattle.std.specs.List.{AllByRecursion, zip}
use Rattle.std.specs.Option.{option_map, option_or}
use Rattle.value_types.specs.declared.sql_type.SqlType.{SqlType}
use Rattle.value_types.specs.declared.value.Value.{Value}
use Rattle.value_types.specs.Types.{type_of}
use Rattle.convert_rules.specs.declared.fault.ConvertFault.{ConvertFault}
use Rattle.convert_rules.specs.Conversion.{converted}
use Rattle.convert_rules.specs.Errors.{error_of}
use Rattle.tsql_tree.specs.declared.definition.CheckTree.{CheckTree}
use Rattle.tsql_tree.specs.declared.definition.ColumnTree.{ColumnTree}
use Rattle.tsql_tree.specs.declared.definition.TableTree.{TableTree}
use Rattle.tsql_tree.specs.Places.{key_places}
use Rattle.bound_tree.specs.declared.expr.BoundExpr.{BoundExpr}
use Rattle.bound_tree.specs.declared.expr.BoundTest.{BoundTest}
use Rattle.bound_tree.specs.declared.query.InnerQuery.{InnerQuery}
use Rattle.bound_tree.specs.declared.truth.Truth.{Truth}
use Rattle.bound_tree.specs.declared.truth.Truth.TheVariants.{False, Unknown, True}
use Rattle.bound_tree.specs.declared.write.BoundRows.{BoundRows}
use Rattle.bound_tree.specs.declared.write.BoundRows.TheVariants as rows
use Rattle.bound_tree.specs.declared.write.BoundSet.{BoundSet}
use Rattle.bound_tree.specs.declared.write.BoundWrite.{BoundWrite}
use Rattle.bound_tree.specs.declared.write.BoundWrite.TheVariants as write
use Rattle.bound_tree.specs.Meaning.{truth, value}
use Rattle.bound_tree.specs.Outcomes.{Outcome}
use Rattle.bound_tree.specs.Setting.{Setting}
use Rattle.scalar_eval.specs.declared.fault.EvalFault.{EvalFault}
use Rattle.scalar_eval.specs.declared.fault.EvalFault.TheVariants.{Number, Named, Memory}
use Rattle.query_eval.specs.Phases.{each}
use Rattle.query_eval.specs.Joining.{image_of}
use Rattle.query_eval.specs.Ans.{Ans, inner_answer, inner_rows, pair_limit}
use Rattle.query_eval.specs.KeyTests.{rows_read, where_tests}
use Rattle.query_eval.specs.Targets.{inner_answers, rows_meant, setting_over}
use Rattle.bound_tree.specs.declared.query.JoinKind.TheVariants.{Inner}
use Rattle.step_model.specs.declared.change.Planned.{Planned}
use Rattle.constraint_check.specs.declared.check_read.Check.{Check}
use Rattle.constraint_check.specs.declared.check_read.Check.TheVariants.{Unique, Child, Parent}
use Rattle.constraint_check.specs.declared.check_read.CheckRead.{CheckRead}
use Rattle.constraint_check.specs.Judged.{agreeing, duplicate, error_where, judge, judged}
use Rattle.constraint_check.specs.Local.{broken_among, check_fault, conflict, first_given, first_local, null_fault, null_in, null_refused, row_setting}
use Rattle.dml_exec.specs.declared.rewritten.Rewritten.{Rewritten}
use Rattle.dml_exec.specs.declared.rewritten.Rewritten.TheVariants.{Inserted, Set, Erased}
use Rattle.dml_exec.specs.Filling.{Given, Row, filled, null_row, stored, stored_as, stored_at, with_given}
use Rattle.dml_exec.specs.Planning.{Chg, Plan, all_changes, checked, has_keys, new_rows, outside_limits, rewritten, row_set, rows_added, rows_deleted, rows_updated, table_written, unless_wrong, values_given, values_selected, values_set}
use Rattle.cause_laws.proofs.Usual.{IsUsual, Usual, UsualIf, usual_after, usual_answer, usual_each, usual_error, usual_inner, usual_inner_rows, usual_outcome, usual_truth, usual_value, usual_where}

-- ---- faults

-- of an error with a usual number; no definition gives want of memory
abbrev pub UsualFault : EvalFault → Type 0
UsualFault (Number number) = IsUsual number
UsualFault (Named number name) = IsUsual number
UsualFault Memory = ⊥

abbrev pub UsualMaybe : Option EvalFault → Type 0
UsualMaybe None = Unit {0}
UsualMaybe (Some fault) = UsualFault fault

abbrev pub UsualPlan : Plan → Type 0
UsualPlan (Ok changes) = Unit {0}
UsualPlan (Err fault) = UsualFault fault

-- ---- rows

usual_stored : (kind : SqlType) (x : Value) → Usual (stored kind x)
usual_stored kind x = by_value (converted x kind)
  where
    by_value : (came : Result Value ConvertFault) → Usual (stored_as kind x came)
    by_value (Ok y) = tt
    by_value (Err fault) = usual_outcome (error_of fault (type_of x) kind) (usual_error fault (type_of x) kind)

usual_stored_at : (column : Option ColumnTree) (x : Value) → Usual (stored_at column x)
usual_stored_at None x = tt
usual_stored_at (Some column) x = usual_stored column.kind x

usual_filled : (columns : List ColumnTree) (given : List Given) (row : Row) → AllByRecursion (λ one. Usual one.1) given → Usual (filled columns given row)
usual_filled columns [] row all = tt
usual_filled columns (one ∷ rest) row all = usual_after (with_given columns one row) (filled columns rest)
    (usual_after one.1 _ all.0 (λ x. usual_after (stored_at (slice_get columns one.0) x) (λ y. Ok (slice_set row one.0 y)) (usual_stored_at (slice_get columns one.0) x) (λ y. tt)))
    (λ more. usual_filled columns rest more all.1)

-- the second of pairs
all_zip : (places : List ℕ) (xs : List (Outcome Value)) → AllByRecursion Usual xs → AllByRecursion (λ (one : Given). Usual one.1) (zip places xs)
all_zip [] xs all = tt
all_zip (place ∷ places) [] all = tt
all_zip (place ∷ places) (x ∷ xs) all = (all.0, all_zip places xs all.1)

module _ (setting : Setting) where
  all_values : (exprs : List BoundExpr) → AllByRecursion Usual (map (value setting) exprs)
  all_values [] = tt
  all_values (expr ∷ exprs) = (usual_value setting expr, all_values exprs)

  all_set : (sets : List BoundSet) → AllByRecursion (λ (one : Given). Usual one.1) (values_set setting sets)
  all_set [] = tt
  all_set (set ∷ sets) = (usual_value setting set.expr, all_set sets)

all_selected : (row : Row) → AllByRecursion Usual (map {B = Outcome Value} Ok row)
all_selected [] = tt
all_selected (x ∷ row) = (tt, all_selected row)

-- ---- what a write plans

module _ (vars system : List Value) where
  all_inner : (inner : List InnerQuery) → AllByRecursion (λ one. (stock : _) → Usual (inner_answer vars system one stock)) inner
  all_inner [] = tt
  all_inner (one ∷ inner) = (usual_inner vars system one, all_inner inner)

  usual_inners : (inner : List InnerQuery) (images : List (List Row)) → Usual (inner_answers vars system inner images)
  usual_inners inner images = usual_after (inner_rows (map (inner_answer vars system) inner) (record { images = images; budget = pair_limit })) (λ answers. Ok (answers.0, answers.1.images))
      (usual_inner_rows (inner_answer vars system) inner (all_inner inner) (record { images = images; budget = pair_limit })) (λ answers. tt)

  usual_meant : (inner : List (List Row)) (key : List ℕ) (filter : Option BoundTest) (image : List Row) → Usual (rows_meant vars system inner key filter image)
  usual_meant inner key filter image = usual_where (setting_over vars system inner) filter (rows_read key 0 (where_tests vars filter) Inner image)

  module _ (shape : TableTree) where
    usual_added : (places : List ℕ) (given : BoundRows) (images : List (List Row)) → Usual (rows_added vars system shape places given images)
    usual_added places (rows.Values values inner) images = usual_after (inner_answers vars system inner images) _ (usual_inners inner images)
        (λ answers. usual_each (λ exprs. filled shape.columns (values_given (setting_over vars system answers.0 []) places exprs) (null_row shape.columns)) values
        (λ exprs. usual_filled shape.columns (values_given (setting_over vars system answers.0 []) places exprs) (null_row shape.columns) (all_zip places (map (value (setting_over vars system answers.0 [])) exprs) (all_values (setting_over vars system answers.0 []) exprs))))
    usual_added places (rows.Query query) images = usual_after (Ans vars system query images) _ (usual_answer vars system query images)
        (λ selected. usual_each (λ row. filled shape.columns (values_selected places row) (null_row shape.columns)) selected
        (λ row. usual_filled shape.columns (values_selected places row) (null_row shape.columns) (all_zip places (map Ok row) (all_selected row))))

    usual_set : (inner : List (List Row)) (sets : List BoundSet) (row : Row) → Usual (row_set vars system shape inner sets row)
    usual_set inner sets row = usual_filled shape.columns (values_set (setting_over vars system inner row) sets) row (all_set (setting_over vars system inner row) sets)

    usual_updated : (sets : List BoundSet) (test : Option BoundTest) (inner : List InnerQuery) (images : List (List Row)) → Usual (rows_updated vars system shape sets test inner images)
    usual_updated sets test inner images = usual_after (inner_answers vars system inner images) _ (usual_inners inner images)
        (λ answers. usual_after (rows_meant vars system answers.0 (key_places (Some shape)) test (image_of answers.1)) _ (usual_meant answers.0 (key_places (Some shape)) test (image_of answers.1))
        (λ olds. usual_after (each (row_set vars system shape answers.0 sets) olds) (λ news. Ok (Set olds news)) (usual_each (row_set vars system shape answers.0 sets) olds (usual_set answers.0 sets)) (λ news. tt)))

    usual_deleted : (test : Option BoundTest) (inner : List InnerQuery) (images : List (List Row)) → Usual (rows_deleted vars system shape test inner images)
    usual_deleted test inner images = usual_after (inner_answers vars system inner images) _ (usual_inners inner images)
        (λ answers. usual_after (rows_meant vars system answers.0 (key_places (Some shape)) test (image_of answers.1)) (λ olds. Ok (Erased olds)) (usual_meant answers.0 (key_places (Some shape)) test (image_of answers.1)) (λ olds. tt))

    usual_rewritten : (of : BoundWrite) (images : List (List Row)) → Usual (rewritten vars system shape of images)
    usual_rewritten (write.Insert table places given) images = usual_after (rows_added vars system shape places given images) (λ added. Ok (Inserted added)) (usual_added places given images) (λ added. tt)
    usual_rewritten (write.Update table sets test inner) images = usual_updated sets test inner images
    usual_rewritten (write.Delete table test inner) images = usual_deleted test inner images

-- ---- NOT NULL and CHECK

usual_or : (first other : Option EvalFault) → UsualMaybe first → UsualMaybe other → UsualMaybe (option_or first other)
usual_or None other one two = two
usual_or (Some fault) other one two = one

usual_first : {A : Type 0} (f : A → Option EvalFault) (xs : List A) → ((x : A) → UsualMaybe (f x)) → UsualMaybe (first_given f xs)
usual_first f [] usual = tt
usual_first f (x ∷ xs) usual = usual_or (f x) (first_given f xs) (usual x) (usual_first f xs usual)

usual_null : (shape : TableTree) (row : Row) → UsualMaybe (null_fault shape row)
usual_null shape row = by_name (null_in shape row)
  where
    by_name : (name : Option (List ℕ)) → UsualMaybe (option_map (Named null_refused) name)
    by_name None = tt
    by_name (Some name) = refl

usual_broken : (checks : List CheckTree) (tests : List BoundTest) (row : Row) → UsualMaybe (broken_among checks tests row)
usual_broken [] tests row = tt
usual_broken (check ∷ checks) [] row = tt
usual_broken (check ∷ checks) (test ∷ tests) row = usual_or (check_fault check.name (truth (row_setting row) test)) (broken_among checks tests row) (by_truth (truth (row_setting row) test) (usual_truth (row_setting row) test)) (usual_broken checks tests row)
  where
    by_truth : (came : Outcome Truth) → Usual came → UsualMaybe (check_fault check.name came)
    by_truth (Ok False) usual = refl
    by_truth (Ok Unknown) usual = tt
    by_truth (Ok True) usual = tt
    by_truth (Err number) usual = usual

usual_local : (found : List Row) (shape : TableTree) (tests : List BoundTest) → UsualMaybe (first_local found shape tests)
usual_local found shape tests = usual_or (first_given (null_fault shape) found) (first_given (broken_among shape.checks tests) found) (usual_first (null_fault shape) found (usual_null shape)) (usual_first (broken_among shape.checks tests) found (usual_broken shape.checks tests))

-- the changes of a write
pub usual_plan : (vars system : List Value) (shape : TableTree) (checks : List BoundTest) (of : BoundWrite) (images : List (List Row)) → UsualPlan (Chg vars system shape checks of images)
usual_plan vars system shape checks of images = by_key (has_keys shape)
  where
    by_fault : (fault : Option EvalFault) (changes : List Planned) → UsualMaybe fault → UsualPlan (unless_wrong fault changes)
    by_fault None changes usual = tt
    by_fault (Some fault) changes usual = usual

    by_rows : (came : Outcome Rewritten) → Usual came → UsualPlan (checked (table_written of) shape checks came)
    by_rows (Ok made) usual = by_fault (first_local (new_rows made) shape checks) (all_changes (table_written of) shape made) (usual_local (new_rows made) shape checks)
    by_rows (Err number) usual = usual

    by_key : (b : Bool) → UsualPlan (if b then checked (table_written of) shape checks (rewritten vars system shape of images) else Err (Number outside_limits))
    by_key true = by_rows (rewritten vars system shape of images) (usual_rewritten vars system shape of images)
    by_key false = refl

-- ---- UNIQUE and FOREIGN KEY

pub usual_judged : (read : CheckRead) (image : List Row) → UsualIf (judge read image)
usual_judged read image = by_check read.check (agreeing read image)
  where
    by_where : (broken : Bool) (number : ℤ) → IsUsual number → UsualIf (error_where broken number)
    by_where true number usual = usual
    by_where false number usual = tt

    by_check : (check : Check) (count : ℕ) → UsualIf (judged check count)
    by_check Unique count = by_where (nat_le 2 count) duplicate refl
    by_check Child count = by_where (nat_le count 0) conflict refl
    by_check Parent count = by_where (nat_le 1 count) conflict refl
