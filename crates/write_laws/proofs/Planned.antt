-- What a write plans for its table is right by itself.
use Rattle.std.proofs.Common.{◌≡◌, refl, sym, ap, ◌∙◌, subst, ℕ, Bool, true, false, nat_eq, if◌then◌else◌, List, [], ◌∷◌, length, Option, Some, None, Ok, Err}
use Rattle.std.proofs.lemmas.Bool.{and_parts, eqb-true}
use Rattle.std.specs.List.{AllByRecursion}
use Rattle.value_types.specs.declared.table_name.TableName.{TableName}
use Rattle.value_types.specs.Units.{same_units}
use Rattle.value_types.specs.declared.value.Value.{Value}
use Rattle.tsql_tree.specs.declared.definition.TableTree.{TableTree}
use Rattle.tsql_tree.specs.Places.{key_places}
use Rattle.bound_tree.specs.declared.expr.BoundTest.{BoundTest}
use Rattle.bound_tree.specs.declared.query.InnerQuery.{InnerQuery}
use Rattle.bound_tree.specs.declared.write.BoundRows.{BoundRows}
use Rattle.bound_tree.specs.declared.write.BoundRows.TheVariants as rows
use Rattle.bound_tree.specs.declared.write.BoundSet.{BoundSet}
use Rattle.bound_tree.specs.declared.write.BoundWrite.{BoundWrite}
use Rattle.bound_tree.specs.declared.write.BoundWrite.TheVariants as write
use Rattle.bound_tree.specs.Outcomes.{Outcome, after}
use Rattle.scalar_eval.specs.declared.fault.EvalFault.{EvalFault}
use Rattle.scalar_eval.specs.declared.fault.EvalFault.TheVariants.{Number}
use Rattle.query_eval.specs.Ans.{Ans}
use Rattle.query_eval.specs.Joining.{image_of}
use Rattle.query_eval.specs.Phases.{each}
use Rattle.query_eval.specs.Targets.{inner_answers, rows_meant, setting_over}
use Rattle.query_eval.proofs.Images.{by_last, by_steps}
use Rattle.query_laws.specs.Laws.{AllOf}
use Rattle.query_laws.proofs.Lists.{all_of_each, each_gives}
use Rattle.step_model.specs.declared.change.Planned.{Planned}
use Rattle.step_model.specs.Own.{own_changes}
use Rattle.constraint_check.specs.Local.{first_local}
use Rattle.constraint_check.proofs.Behind.{name_is}
use Rattle.table_rows.specs.Rows.{is_shape_of, rows_table, shape_of}
use Rattle.constraint_check.specs.Meant.{reads_meant}
use Rattle.constraint_check.specs.Integrity.{AreKept}
use Rattle.constraint_check.specs.Laws.{Passes, behind}
use Rattle.constraint_check.proofs.Keeping.{checked_kept}
use Rattle.dml_exec.specs.declared.rewritten.Rewritten.{Rewritten}
use Rattle.dml_exec.specs.declared.rewritten.Rewritten.TheVariants.{Inserted, Set, Erased}
use Rattle.dml_exec.specs.Filling.{Row, filled, null_row}
use Rattle.dml_exec.specs.Planning.{all_changes, checked, has_keys, new_rows, outside_limits, rewritten, row_set, rows_added, rows_deleted, rows_updated, table_written, unless_wrong, values_given, values_selected, values_set}
use Rattle.write_laws.specs.Planning.{IsRight, PlannedFits, PlannedKept, PlannedRight, RowsFit, ShapeNamed, rows_before, target_image}
use Rattle.write_laws.proofs.Stored.{filled_fits, null_fits}
use Rattle.write_laws.proofs.Targets.{meant_all, target_left}
use Rattle.write_laws.proofs.Behind.{fits_behind}
use Rattle.write_laws.proofs.Changes.{AreNew, HasColumns, changes_right}
use Rattle.write_laws.proofs.OwnPlans.{own_made}

all_of : {A : Type 0} (P : A → Type 0) (xs : List A) → AllByRecursion P xs → AllOf P xs
all_of P [] all = tt
all_of P (x ∷ xs) all = (all.0, all_of P xs all.1)

each_one : {A : Type 0} (P : A → Type 0) → ((x : A) → P x) → (xs : List A) → AllOf P xs
each_one P holds [] = tt
each_one P holds (x ∷ xs) = (holds x, each_one P holds xs)

module _ (vars system : List Value) (shape : TableTree) where
  abbrev Has : Row → Type 0
  Has = HasColumns shape

  -- rows that are made have their columns, where each does
  made_fit : {A : Type 0} (make : A → Outcome Row) → ((x : A) (row : Row) → make x ≡ Ok row → Has row) → (xs : List A) (made : List Row) → each make xs ≡ Ok made → AllOf Has made
  made_fit make fits xs made e = (each_gives make Has xs made e (each_one (λ x. (row : Row) → make x ≡ Ok row → Has row) fits xs)).0

  -- those that INSERT adds
  added_fit : (places : List ℕ) (given : BoundRows) (images : List (List Row)) (added : List Row) → rows_added vars system shape places given images ≡ Ok added → AllOf Has added
  added_fit places (rows.Values values inner) images added e =
      by_steps (AllOf Has) (inner_answers vars system inner images)
      (λ answers. each (λ exprs. filled shape.columns (values_given (setting_over vars system answers.0 []) places exprs) (null_row shape.columns)) values)
      (λ answers is. made_fit (λ exprs. filled shape.columns (values_given (setting_over vars system answers.0 []) places exprs) (null_row shape.columns))
      (λ exprs row. filled_fits shape.columns (values_given (setting_over vars system answers.0 []) places exprs) (null_row shape.columns) row (null_fits shape.columns)) values) added e
  added_fit places (rows.Query query) images added e =
      by_steps (AllOf Has) (Ans vars system query images) (λ selected. each (λ row. filled shape.columns (values_selected places row) (null_row shape.columns)) selected)
      (λ selected is. made_fit (λ row. filled shape.columns (values_selected places row) (null_row shape.columns))
      (λ from row. filled_fits shape.columns (values_selected places from) (null_row shape.columns) row (null_fits shape.columns)) selected) added e

  module _ (inner : List InnerQuery) (images : List (List Row)) (all : AllOf Has (target_image inner images)) where
    -- those that are meant
    meant_fit : (test : Option BoundTest) (answers : List (List Row) × List (List Row)) (olds : List Row) → inner_answers vars system inner images ≡ Ok answers
        → rows_meant vars system answers.0 (key_places (Some shape)) test (image_of answers.1) ≡ Ok olds → AllOf Has olds
    meant_fit test answers olds is e =
        meant_all vars system Has answers.0 (key_places (Some shape)) test (image_of answers.1) olds
        (subst (AllOf Has) (sym (target_left vars system inner images answers is)) all) e

    -- those that UPDATE sets
    set_fit : (sets : List BoundSet) (tables : List (List Row)) (olds news : List Row) → AllOf Has olds → each (row_set vars system shape tables sets) olds ≡ Ok news → AllOf Has news × (length news ≡ length olds)
    set_fit sets tables olds news fit e =
        each_gives (row_set vars system shape tables sets) Has olds news e
        (all_of_each Has (λ old. (row : Row) → row_set vars system shape tables sets old ≡ Ok row → Has row) olds
        (λ old has row. filled_fits shape.columns (values_set (setting_over vars system tables old) sets) old row has) fit)

    updated_kept : (sets : List BoundSet) (test : Option BoundTest) (came : Rewritten) → rows_updated vars system shape sets test inner images ≡ Ok came → AreNew shape came
    updated_kept sets test came e =
        by_steps (AreNew shape) (inner_answers vars system inner images)
        (λ answers. after (rows_meant vars system answers.0 (key_places (Some shape)) test (image_of answers.1)) (λ olds. after (each (row_set vars system shape answers.0 sets) olds) (λ news. Ok (Set olds news))))
        (λ answers is. by_steps (AreNew shape) (rows_meant vars system answers.0 (key_places (Some shape)) test (image_of answers.1)) (λ olds. after (each (row_set vars system shape answers.0 sets) olds) (λ news. Ok (Set olds news)))
        (λ olds are. by_steps (AreNew shape) (each (row_set vars system shape answers.0 sets) olds) (λ news. Ok (Set olds news))
        (λ news come. by_last (AreNew shape) (Set olds news) (set_fit sets answers.0 olds news (meant_fit test answers olds is are) come)))) came e

  deleted_kept : (test : Option BoundTest) (inner : List InnerQuery) (images : List (List Row)) (came : Rewritten) → rows_deleted vars system shape test inner images ≡ Ok came → AreNew shape came
  deleted_kept test inner images came e =
      by_steps (AreNew shape) (inner_answers vars system inner images)
      (λ answers. after (rows_meant vars system answers.0 (key_places (Some shape)) test (image_of answers.1)) (λ olds. Ok (Erased olds)))
      (λ answers is. by_steps (AreNew shape) (rows_meant vars system answers.0 (key_places (Some shape)) test (image_of answers.1)) (λ olds. Ok (Erased olds))
      (λ olds are. by_last (AreNew shape) (Erased olds) tt)) came e

  rewritten_kept : (of : BoundWrite) (images : List (List Row)) (came : Rewritten) → AllOf Has (rows_before of images) → rewritten vars system shape of images ≡ Ok came → AreNew shape came
  rewritten_kept (write.Insert table places given) images came all e =
      by_steps (AreNew shape) (rows_added vars system shape places given images) (λ added. Ok (Inserted added)) (λ added is. by_last (AreNew shape) (Inserted added) (added_fit places given images added is)) came e
  rewritten_kept (write.Update table sets test inner) images came all e = updated_kept inner images all sets test came e
  rewritten_kept (write.Delete table test inner) images came all e = deleted_kept test inner images came e

  module _ (checks : List BoundTest) (planned : List Planned) (table : TableName) (named : table ≡ rows_table shape.name) where
    checked_right : (came : Rewritten) → AreNew shape came → (fault : Option EvalFault) → first_local (new_rows came) shape checks ≡ fault
        → unless_wrong fault (all_changes table shape came) ≡ Ok planned → IsRight shape checks (own_changes planned)
    checked_right came kept None alone e =
        let same : all_changes table shape came ≡ planned = cc in
        subst (IsRight shape checks) (sym (own_made table shape planned came named (sym same))) (changes_right shape checks (rows_table shape.name) refl came kept alone)
    checked_right came kept (Some fault) alone e = cc

    outcome_right : (outcome : Outcome Rewritten) → ((came : Rewritten) → outcome ≡ Ok came → AreNew shape came) → checked table shape checks outcome ≡ Ok planned → IsRight shape checks (own_changes planned)
    outcome_right (Err number) kept e = cc
    outcome_right (Ok came) kept e = checked_right came (kept came refl) (first_local (new_rows came) shape checks) refl e

    keyed_right : (test : Bool) (outcome : Outcome Rewritten) → ((came : Rewritten) → outcome ≡ Ok came → AreNew shape came)
        → (if test then checked table shape checks outcome else Err (Number outside_limits)) ≡ Ok planned → IsRight shape checks (own_changes planned)
    keyed_right true outcome kept e = outcome_right outcome kept e
    keyed_right false outcome kept e = cc

-- ---- the laws

named_by : (object : List ℕ) (part : ℕ) (name : List ℕ) → object ≡ name → part ≡ 0 → (record { object = object; part = part }) ≡ rows_table name
named_by object part name same whole = ap (λ (n : ℕ). record { object = object; part = n }) whole ∙ ap rows_table same

pub shape_named : ShapeNamed
shape_named table [] shape is = cc
shape_named table (first ∷ rest) shape is = by_test (is_shape_of table first) refl is (shape_named table rest shape)
  where
    by_test : (test : Bool) → is_shape_of table first ≡ test → (if test then Some first else shape_of table rest) ≡ Some shape → (shape_of table rest ≡ Some shape → table ≡ rows_table shape.name) → table ≡ rows_table shape.name
    by_test true named is later =
        let parts = and_parts (nat_eq table.part 0) (same_units table.object first.name) named in
        let same : first ≡ shape = cc in
        subst (λ (of : TableTree). table ≡ rows_table of.name) same (named_by table.object table.part first.name (name_is table.object first.name parts.1) (eqb-true table.part 0 parts.0))
    by_test false other is later = later is

pub planned_right : PlannedRight
planned_right vars system shape checks of images planned named all e =
    keyed_right vars system shape checks planned (table_written of) named (has_keys shape) (rewritten vars system shape of images)
    (λ came. rewritten_kept vars system shape of images came (all_of (HasColumns shape) (rows_before of images) all)) e

pub planned_fits : PlannedFits
planned_fits db shapes vars system shape checks of images planned before one known all e =
    let named = shape_named (table_written of) shapes shape known in
    let right = planned_right vars system shape checks of images planned named all e in
    subst (λ (changes : List Planned). AllByRecursion (RowsFit (behind db changes)) shapes) (sym right.2)
    (fits_behind db shapes shape checks right.0 right.1 right.3 before one (subst (λ (table : TableName). shape_of table shapes ≡ Some shape) named known))

pub planned_kept : PlannedKept
planned_kept db tests shapes vars system shape of images planned kept passed all e =
    let named = shape_named (table_written of) shapes shape passed.known in
    let right = planned_right vars system shape (tests shape) of images planned named all e in
    subst (λ (changes : List Planned). AreKept (behind db changes) tests shapes) (sym right.2)
    (checked_kept db tests shapes shape right.0 right.1 kept (record {
      one_key = passed.one_key;
      one_name = passed.one_name;
      known = subst (λ (table : TableName). shape_of table shapes ≡ Some shape) named passed.known;
      parents_known = passed.parents_known;
      of_table = right.3.of_table;
      erases = right.3.erases;
      writes = right.3.writes;
      fit = right.3.fit;
      alone = right.3.alone;
      passes = subst (λ (changes : List Planned). AllByRecursion (Passes (behind db changes)) (reads_meant changes shapes)) right.2 passed.passes;
    }))
