-- What a write plans for its table's own rows, among all that it plans.
use Rattle.std.proofs.Common.{◌≡◌, ap, ◌∙◌, ℕ, ◌<◌, Bool, true, false, nat_eq, List, [], ◌∷◌, ◌++◌, length, Some, arith, append-nil}
use Rattle.std.specs.List.{AllByRecursion, flat_map}
use Rattle.value_types.specs.declared.table_name.TableName.{TableName}
use Rattle.value_types.specs.declared.value.Value.{Value}
use Rattle.tsql_tree.specs.declared.definition.TableTree.{TableTree}
use Rattle.tsql_tree.specs.Places.{key_places}
use Rattle.step_model.specs.declared.change.Planned.{Planned}
use Rattle.step_model.specs.Own.{is_own, own_changes}
use Rattle.index_laws.specs.Parts.{RowChange}
use Rattle.index_laws.specs.Whole.{IndexPart, part_table}
use Rattle.table_rows.specs.Rows.{index_columns, rows_table}
use Rattle.table_rows.proofs.IndexRows.{not_first}
use Rattle.constraint_check.proofs.Lists.{all_more}
use Rattle.dml_exec.specs.declared.rewritten.Rewritten.{Rewritten}
use Rattle.dml_exec.specs.Planning.{all_changes, changes_of, index_deeds, is_same_row, part_deeds, parts_of, row_changes_of, row_in}
use Rattle.write_laws.proofs.Changes.{all_both, all_kept, kept_both, none_kept}
use Rattle.write_laws.proofs.Indexing.{deeds_there, numbers_above}
use Rattle.write_laws.proofs.Plans.{keys_long}

-- ---- index rows are none of the table's own

module _ (shape : TableTree) (equal : List Value → List Value → Bool) (changes : List RowChange) where
  abbrev IsIndex : Planned → Type 0
  IsIndex change = is_own change ≡ false

  parts_index : (parts : List IndexPart) → AllByRecursion (λ (part : IndexPart). 0 < part.number) parts → AllByRecursion IsIndex (flat_map (part_deeds shape equal changes) parts)
  parts_index [] above = tt
  parts_index (part ∷ parts) above =
      all_both IsIndex (part_deeds shape equal changes part) (flat_map (part_deeds shape equal changes) parts)
      (all_more (λ (change : Planned). change.table ≡ part_table shape.name part.number) IsIndex (λ change is. ap (λ (t : TableName). nat_eq t.part 0) is ∙ not_first part.number above.0) (part_deeds shape equal changes part)
      (deeds_there (part_table shape.name part.number) (row_in shape part) (row_in shape part) (λ old new. equal (row_in shape part new) (row_in shape part old)) changes))
      (parts_index parts above.1)

  pub deeds_index : AllByRecursion IsIndex (index_deeds shape equal changes)
  deeds_index = parts_index (parts_of shape) (numbers_above shape (index_columns shape) 0 1 (omega arith))

-- ---- what is left of a plan

pub changes_own : (name : List ℕ) (key : List ℕ) (rows : Rewritten) → AllByRecursion (λ change. is_own change ≡ true) (changes_of (rows_table name) key rows)
changes_own name key rows =
    all_more (λ (change : Planned). (change.table ≡ rows_table name) × (length change.key ≡ length key)) (λ change. is_own change ≡ true) (λ change is. ap (λ (t : TableName). nat_eq t.part 0) is.0) (changes_of (rows_table name) key rows) (keys_long (rows_table name) key rows)

pub own_of_plan : (shape : TableTree) (rows : Rewritten) → own_changes (all_changes (rows_table shape.name) shape rows) ≡ changes_of (rows_table shape.name) (key_places (Some shape)) rows
own_of_plan shape rows =
    let own : List Planned = changes_of (rows_table shape.name) (key_places (Some shape)) rows in
    let index : List Planned = index_deeds shape is_same_row (row_changes_of rows) in
    kept_both is_own own index
    ∙ ap (λ (list : List Planned). list ++ own_changes index) (all_kept is_own own (changes_own shape.name (key_places (Some shape)) rows))
    ∙ ap (λ (list : List Planned). own ++ list) (none_kept is_own index (deeds_index shape is_same_row (row_changes_of rows)))
    ∙ append-nil own

-- of a plan for the table of that shape
pub own_made : (table : TableName) (shape : TableTree) (planned : List Planned) (came : Rewritten) → table ≡ rows_table shape.name → planned ≡ all_changes table shape came
    → own_changes planned ≡ changes_of (rows_table shape.name) (key_places (Some shape)) came
own_made table shape planned came named is = ap own_changes (is ∙ ap (λ (t : TableName). all_changes t shape came) named) ∙ own_of_plan shape came
