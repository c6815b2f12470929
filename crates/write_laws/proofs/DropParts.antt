-- What DROP TABLE plans leaves nothing in the table's parts, and the others as they were.
use Rattle.std.proofs.Common.{◌≡◌, refl, sym, ap, ◌∙◌, subst, inl, inr, true, List, ◌∷◌, [], ◌++◌, map, Some, Result, Ok, Err}
use Rattle.value_types.specs.declared.value.Value.{Value}
use Rattle.tsql_tree.specs.declared.definition.Definition.{Definition}
use Rattle.tsql_tree.specs.declared.definition.TableTree.{TableTree}
use Rattle.step_model.specs.declared.change.Planned.{Planned}
use Rattle.step_model.specs.Database.{Database}
use Rattle.step_model.specs.Exchange.{Exchange}
use Rattle.step_model.specs.Own.{is_own}
use Rattle.index_laws.specs.Deeds.{rows_gone}
use Rattle.index_laws.specs.Parts.{Among}
use Rattle.constraint_check.specs.Laws.{KeysAreOne, behind}
use Rattle.table_rows.specs.Rows.{rows_table, shape_of}
use Rattle.constraint_check.proofs.Lists as lists
use Rattle.dml_exec.specs.declared.refusal.Level.{Level}
use Rattle.dml_exec.specs.declared.rewritten.Rewritten.TheVariants.{Erased}
use Rattle.dml_exec.specs.Filling.{Row}
use Rattle.dml_exec.specs.Planning.{Chg, is_same_row}
use Rattle.batch_meaning.specs.declared.failure.Failure.{Failure}
use Rattle.batch_meaning.specs.Changing.{definition_erased, dropped_as, planned_as, triggers_of, whole, with_definitions}
use Rattle.batch_meaning.specs.Progress.{SessionProgress, system_in, values_of}
use Rattle.batch_meaning.specs.Raised.{Around}
use Rattle.statement_paths.specs.Asked.{AskOnly, IsFetch}
use Rattle.write_laws.specs.Attempted.{IsToldPlan}
use Rattle.write_laws.specs.IndexKept.{AreEmptied}
use Rattle.write_laws.specs.Indexed.{Indexed, own_rows}
use Rattle.write_laws.specs.Indexing.{all_deeds}
use Rattle.write_laws.specs.Keeping.{AreDefinitions}
use Rattle.write_laws.specs.Plans.{IndexedDropPlanned, IsDropPlanned}
use Rattle.write_laws.specs.Rewrites.{IsPlanOf}
use Rattle.write_laws.specs.Sound.{Firm}
use Rattle.write_laws.specs.Told.{TargetTold}
use Rattle.write_laws.proofs.Changes.{all_both}
use Rattle.write_laws.proofs.Cleared.{indexed_cleared}
use Rattle.write_laws.proofs.Drops.{plan, read_among}
use Rattle.write_laws.proofs.Emptied.{gone_emptied}
use Rattle.write_laws.proofs.Erased.{erased_all, erased_own}
use Rattle.write_laws.proofs.Plans.{as_planned}
use Rattle.write_laws.proofs.Rewrites.{planned_of}
use Rattle.write_laws.proofs.SameRows.{plan_is, same_row_is}
use Rattle.write_laws.proofs.Taken.{plan_taken}

-- one of a list, as the laws of index parts have it
among_so : (P : Row → Type 0) (rows : List Row) → lists.Among P rows → Among P rows
among_so P [] none = absurd none
among_so P (row ∷ rows) (inl here) = inl here
among_so P (row ∷ rows) (inr later) = inr (among_so P rows later)

module _ (around : Around) (p : SessionProgress) (db : Database) (definitions : List Definition) (shape : TableTree) (rows : List Row) (planned : List Planned) (one_key : KeysAreOne db) (firm : Firm (own_rows db)) (indexed : Indexed db)
    (given : AreDefinitions (own_rows db) definitions) (is : IsDropPlanned around p (own_rows db) definitions shape rows planned) where
  abbrev deeds : List Planned
  deeds = all_deeds shape is_same_row (rows_gone rows)

  emptied : AreEmptied db shape deeds
  emptied =
      gone_emptied db shape is_same_row rows (record { one_key = one_key; firm = firm; indexed = indexed; defined = is.defined; decides = same_row_is })
      (λ key base there. among_so (λ row. row ≡ base) rows (read_among around p (own_rows db) definitions shape rows planned firm is key base there))

  planned_is : planned ≡ with_definitions definitions shape.name deeds
  planned_is = plan around p (own_rows db) definitions shape rows planned firm is ∙ ap (with_definitions definitions shape.name) (plan_is shape (Erased rows))

-- ---- the rows that it erases

-- the changes of a DELETE of all rows, and with them those of definitions
abbrev HasRows : List Definition → TableTree → List Row → List Planned → Type 0
HasRows definitions shape rows planned = (changes : List Planned) × IsPlanOf shape (whole shape.name) (rows ∷ []) changes × (planned ≡ with_definitions definitions shape.name changes)

rows_of : (definitions : List Definition) (shape : TableTree) (rows : List Row) (planned : List Planned) (outcome : Result (List Planned) Failure) → ((changes : List Planned) → outcome ≡ Ok changes → IsPlanOf shape (whole shape.name) (rows ∷ []) changes)
    → dropped_as definitions shape.name outcome ≡ Ok planned → HasRows definitions shape rows planned
rows_of definitions shape rows planned (Ok changes) plans e = let same : with_definitions definitions shape.name changes ≡ planned = cc in (changes, plans changes refl, sym same)
rows_of definitions shape rows planned (Err failure) plans e = cc

module _ (around : Around) (p : SessionProgress) (db : Database) (definitions : List Definition) (shape : TableTree) (rows : List Row) (planned : List Planned) (is : IsDropPlanned around p db definitions shape rows planned) where
  has_rows : HasRows definitions shape rows planned
  has_rows =
      rows_of definitions shape rows planned (planned_as (Chg (values_of p.vars) (system_in around p) shape [] (whole shape.name) (rows ∷ [])))
      (λ changes e. planned_of (values_of p.vars) (system_in around p) shape [] (whole shape.name) (rows ∷ []) changes (as_planned _ changes e)) is.plans

  -- they were told
  pub drop_told : (vars : List Value) (shapes : List TableTree) (level : Level) (before front reads between : List Exchange) → shape_of (rows_table shape.name) shapes ≡ Some shape → before ≡ front ++ (reads ++ between)
      → AskOnly IsFetch reads → AskOnly IsFetch between → TargetTold vars shapes level (whole shape.name) reads (rows ∷ []) → IsToldPlan before level shape planned
  drop_told vars shapes level before front reads between known split reads_fetch between_fetch told = record {
    rows = has_rows.1.rows;
    more = map definition_erased (triggers_of shape.name definitions) ++ definition_erased shape.name ∷ [];
    plans = has_rows.2 ∙ ap (with_definitions definitions shape.name) has_rows.1.changes;
    own = all_both (λ change. is_own change ≡ true) (erased_all (triggers_of shape.name definitions)) (definition_erased shape.name ∷ []) (erased_own (triggers_of shape.name definitions)) (refl, tt);
    front = front;
    reads = reads;
    between = between;
    split = split;
    reads_fetch = reads_fetch;
    between_fetch = between_fetch;
    taken = plan_taken vars shapes level shape (whole shape.name) (rows ∷ []) has_rows.0 reads known has_rows.1 told;
  }

pub indexed_drop_planned : IndexedDropPlanned
indexed_drop_planned around p db definitions shape rows planned one_key firm indexed given is =
    subst (λ (list : List Planned). Indexed (behind db list)) (sym (planned_is around p db definitions shape rows planned one_key firm indexed given is))
    (indexed_cleared db definitions shape (deeds around p db definitions shape rows planned one_key firm indexed given is) firm indexed given.defined (emptied around p db definitions shape rows planned one_key firm indexed given is))
