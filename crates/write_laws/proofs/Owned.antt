-- The own rows of a database: what is read of them, and changes of them alone.
use Rattle.std.proofs.Common.{◌≡◌, refl, sym, ap, ◌∙◌, subst, ℕ, Bool, true, false, nat_eq, if◌then◌else◌, List, [], ◌∷◌, ◌++◌, filter, Option, Some, None}
use Rattle.std.specs.List.{AllByRecursion, flat_map, list_any}
use Rattle.value_types.specs.Units.{same_units}
use Rattle.value_types.specs.declared.table_name.TableName.{TableName}
use Rattle.value_types.specs.declared.value.Value.{Value}
use Rattle.tsql_tree.specs.declared.definition.ForeignTree.{ForeignTree}
use Rattle.tsql_tree.specs.declared.definition.TableTree.{TableTree}
use Rattle.bound_tree.specs.Meaning.{is_null}
use Rattle.step_model.specs.declared.change.Planned.{Planned}
use Rattle.step_model.specs.declared.range.Start.{Start}
use Rattle.step_model.specs.declared.range.Start.TheVariants.{At}
use Rattle.step_model.specs.declared.range.Stop.{Stop}
use Rattle.step_model.specs.declared.range.Stop.TheVariants.{Within}
use Rattle.step_model.specs.Database.{Database, In, nothing}
use Rattle.step_model.specs.Own.{is_own, own_changes, row_of}
use Rattle.step_model.specs.Ranges.{Keeps, Rows}
use Rattle.table_rows.specs.Definitions.{objects_name}
use Rattle.table_rows.specs.Rows.{places_of, rows_table, shape_of, values_at}
use Rattle.constraint_check.specs.declared.check_read.Check.{Check}
use Rattle.constraint_check.specs.declared.check_read.Check.TheVariants.{Unique, Child, Parent}
use Rattle.constraint_check.specs.declared.check_read.CheckRead.{CheckRead}
use Rattle.constraint_check.specs.Laws.{Agrees, Passes, PassesBy, behind}
use Rattle.constraint_check.specs.Meant.{key_meant, parent_meant, parents_meant, parents_meant_of, reads_meant, unique_meant, uniques_meant}
use Rattle.constraint_check.specs.Reads.{all_rows, child_read, child_reads, child_where, is_gone, is_key, of_both, of_row, row_at}
use Rattle.constraint_check.proofs.Lists.{all_more, all_two}
use Rattle.write_laws.specs.Indexed.{own_rows}
use Rattle.write_laws.specs.Reads.{IsRead, RowsFit}
use Rattle.write_laws.specs.Sound.{Firm, IsTableOf}
use Rattle.write_laws.proofs.Changes.{all_both, all_kept}
use Rattle.write_laws.proofs.Empty.{firm_empty}
use Rattle.write_laws.proofs.Indexed.{own_behind}
use Rattle.write_laws.proofs.OwnReads.{reads_same}
use Rattle.write_laws.proofs.Tables.{all_each, all_flat_of, all_map_of}

-- ---- what is read

-- of a table's own rows they have what the database has
own_here : (db : Database) (table : TableName) (key : List Value) → nat_eq table.part 0 ≡ true → own_rows db table key ≡ db table key
own_here db table key is = ap (λ (b : Bool). if b then db table key else None) is

pub in_own : (db : Database) (name : List ℕ) (start : Start) (stop : Stop) (rows : List (List Value × List Value)) → In db (rows_table name) start stop rows → In (own_rows db) (rows_table name) start stop rows
in_own db name start stop rows is = record { sorted = is.sorted; rows_of_range = is.rows_of_range; whole = is.whole }

pub read_own : (db : Database) (keeps : Keeps) (name : List ℕ) (rows : Rows) → IsRead db keeps (all_rows name) rows → IsRead (own_rows db) keeps (all_rows name) rows
read_own db keeps name rows is = (is.0, in_own db name (all_rows name).start (all_rows name).stop is.0 is.1, is.2)

abbrev pub IsOwnRead : CheckRead → Type 0
IsOwnRead read = nat_eq read.range.table.part 0 ≡ true

passes_own : (db : Database) (read : CheckRead) → IsOwnRead read → Passes db read → Passes (own_rows db) read
passes_own db read own passes = by_check read.check passes
  where
    back : (key row : List Value) → Agrees (own_rows db) read key row → Agrees db read key row
    back key row agrees = (agrees.0, sym (own_here db read.range.table key own) ∙ agrees.1, agrees.2)

    by_check : (check : Check) → PassesBy check db read → PassesBy check (own_rows db) read
    by_check Unique passes = λ key other row and_row one also. passes key other row and_row (back key row one) (back other and_row also)
    by_check Child passes = (passes.0, passes.1, (passes.2.0, own_here db read.range.table passes.0 own ∙ passes.2.1, passes.2.2))
    by_check Parent passes = λ key row one. passes key row (back key row one)

-- what checks say of changes is of own rows
module _ (shapes : List TableTree) where
  of_own : (reads : TableTree → List Value → List CheckRead) → ((shape : TableTree) (row : List Value) → AllByRecursion IsOwnRead (reads shape row)) → (change : Planned) → AllByRecursion IsOwnRead (of_row reads shapes change)
  of_own reads own change = by_both (shape_of change.table shapes) (row_of change.deed)
    where
      by_both : (shape : Option TableTree) (row : Option (List Value)) → AllByRecursion IsOwnRead (of_both reads shape row)
      by_both None row = tt
      by_both (Some shape) None = tt
      by_both (Some shape) (Some row) = own shape row

  unique_own : (shape : TableTree) (row : List Value) → AllByRecursion IsOwnRead (uniques_meant shape row)
  unique_own shape row = all_map_of IsOwnRead (unique_meant shape row) shape.uniques (λ key. refl)

  row_own : (name : List ℕ) (values : List Value) → nat_eq (row_at name values).table.part 0 ≡ true
  row_own name values = by_test (is_key values)
    where
      by_test : (b : Bool) → nat_eq (if b then (record { table = rows_table name; start = At values; stop = Within values }) else all_rows name).table.part 0 ≡ true
      by_test true = refl
      by_test false = refl

  where_own : (foreign : ForeignTree) (values : List Value) → AllByRecursion IsOwnRead (child_where shapes foreign values)
  where_own foreign values = by_test (list_any is_null values)
    where
      by_test : (b : Bool) → AllByRecursion IsOwnRead (if b then [] else child_read shapes foreign values ∷ [])
      by_test true = tt
      by_test false = (row_own foreign.parent values, tt)

  child_own : (shape : TableTree) (row : List Value) → AllByRecursion IsOwnRead (child_reads shapes shape row)
  child_own shape row =
      all_flat_of IsOwnRead (λ foreign. child_where shapes foreign (values_at (places_of shape foreign.columns) row)) shape.foreigns
      (all_each (λ foreign. AllByRecursion IsOwnRead (child_where shapes foreign (values_at (places_of shape foreign.columns) row))) shape.foreigns (λ foreign. where_own foreign (values_at (places_of shape foreign.columns) row)))

  key_own : (changes : List Planned) (change : Planned) → AllByRecursion IsOwnRead (key_meant shapes changes change)
  key_own changes change = by_test (is_gone changes change)
    where
      by_test : (b : Bool) → AllByRecursion IsOwnRead (if b then parents_meant shapes change.table change.key else [])
      by_test true =
          all_flat_of IsOwnRead (parents_meant_of change.table change.key) shapes
          (all_each (λ child. AllByRecursion IsOwnRead (parents_meant_of change.table change.key child)) shapes
          (λ child. all_map_of IsOwnRead (parent_meant change.key child) (filter (λ foreign. same_units foreign.parent change.table.object) child.foreigns) (λ foreign. refl)))
      by_test false = tt

  reads_own : (changes : List Planned) → AllByRecursion IsOwnRead (reads_meant changes shapes)
  reads_own changes =
      all_both IsOwnRead (flat_map (of_row uniques_meant shapes) changes) (flat_map (of_row (child_reads shapes) shapes) changes ++ flat_map (key_meant shapes changes) changes)
      (all_flat_of IsOwnRead (of_row uniques_meant shapes) changes (all_each (λ change. AllByRecursion IsOwnRead (of_row uniques_meant shapes change)) changes (of_own uniques_meant unique_own)))
      (all_both IsOwnRead (flat_map (of_row (child_reads shapes) shapes) changes) (flat_map (key_meant shapes changes) changes)
      (all_flat_of IsOwnRead (of_row (child_reads shapes) shapes) changes (all_each (λ change. AllByRecursion IsOwnRead (of_row (child_reads shapes) shapes change)) changes (of_own (child_reads shapes) child_own)))
      (all_flat_of IsOwnRead (key_meant shapes changes) changes (all_each (λ change. AllByRecursion IsOwnRead (key_meant shapes changes change)) changes (key_own changes))))

-- ---- changes of own rows

abbrev pub AreOwn : List Planned → Type 0
AreOwn changes = AllByRecursion (λ change. is_own change ≡ true) changes

-- ---- behind changes

-- what is so of own rows behind those of own rows is so of the own rows behind all
pub firm_behind : (db : Database) (changes : List Planned) → Firm (behind (own_rows db) (own_changes changes)) → Firm (own_rows (behind db changes))
firm_behind db changes firm = subst Firm (sym (own_behind db changes)) firm

pub rows_behind : (db : Database) (changes : List Planned) (shapes : List TableTree) → AllByRecursion (RowsFit (behind (own_rows db) (own_changes changes))) shapes → AllByRecursion (RowsFit (behind db changes)) shapes
rows_behind db changes shapes fit =
    all_more (RowsFit (own_rows (behind db changes))) (RowsFit (behind db changes)) (λ shape one key row stands. one key row stands) shapes (subst (λ (d : Database). AllByRecursion (RowsFit d) shapes) (sym (own_behind db changes)) fit)

pub tables_behind : (db : Database) (changes : List Planned) (shapes : List TableTree) → AllByRecursion (IsTableOf (behind (own_rows db) (own_changes changes))) shapes → AllByRecursion (IsTableOf (behind db changes)) shapes
tables_behind db changes shapes defined =
    all_more (IsTableOf (own_rows (behind db changes))) (IsTableOf (behind db changes)) (λ shape is. is) shapes (subst (λ (d : Database). AllByRecursion (IsTableOf d) shapes) (sym (own_behind db changes)) defined)

-- and what checks say of them
pub passes_behind : (db : Database) (changes : List Planned) (shapes : List TableTree) → AllByRecursion (Passes (behind db changes)) (reads_meant changes shapes) → AllByRecursion (Passes (behind (own_rows db) (own_changes changes))) (reads_meant (own_changes changes) shapes)
passes_behind db changes shapes passes =
    subst (AllByRecursion (Passes (behind (own_rows db) (own_changes changes)))) (sym (reads_same shapes changes))
    (all_two IsOwnRead (Passes (behind db changes)) (Passes (behind (own_rows db) (own_changes changes)))
    (λ read own_read one. subst (λ (d : Database). Passes d read) (own_behind db changes) (passes_own (behind db changes) read own_read one)) (reads_meant changes shapes) (reads_own shapes changes) passes)

-- where all are of own rows
pub behind_own : (db : Database) (changes : List Planned) → AreOwn changes → own_rows (behind db changes) ≡ behind (own_rows db) changes
behind_own db changes own = own_behind db changes ∙ ap (behind (own_rows db)) (all_kept is_own changes own)

pub firm_own : (db : Database) (changes : List Planned) → AreOwn changes → Firm (behind (own_rows db) changes) → Firm (own_rows (behind db changes))
firm_own db changes own firm = subst Firm (sym (behind_own db changes own)) firm

-- ---- no rows

nothing_own : (b : Bool) (key : List Value) → (if b then nothing (rows_table objects_name) key else None) ≡ None
nothing_own true key = refl
nothing_own false key = refl

pub firm_nothing : Firm (own_rows nothing)
firm_nothing = subst Firm (λ i table key. sym (nothing_own (nat_eq table.part 0) key) i) firm_empty
