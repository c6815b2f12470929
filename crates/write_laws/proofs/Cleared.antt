-- Index parts where a table is dropped: its triggers are erased before its definition, behind all its rows.
use Rattle.std.proofs.Common.{◌≡◌, refl, sym, ap, ◌∙◌, subst, ℕ, Bool, true, false, ◌&&◌, if◌then◌else◌, List, [], ◌∷◌, ◌++◌, map, Option, Some, None, IsSome}
use Rattle.std.proofs.lemmas.List.{map-append}
use Rattle.std.specs.List.{AllByRecursion, cons_option}
use Rattle.std.specs.Ordering.{is_eq}
use Rattle.value_types.specs.Units.{same_units}
use Rattle.value_types.specs.declared.table_name.TableName.{TableName}
use Rattle.value_types.specs.declared.value.Value.{Value}
use Rattle.value_types.specs.Order.{table_cmp}
use Rattle.tsql_tree.specs.declared.definition.Definition.{Definition}
use Rattle.tsql_tree.specs.declared.definition.Definition.TheVariants.{Procedure, Table, Trigger}
use Rattle.tsql_tree.specs.declared.definition.TableTree.{TableTree}
use Rattle.tsql_tree.specs.declared.definition.TriggerTree.{TriggerTree}
use Rattle.step_model.specs.declared.change.Planned.{Planned}
use Rattle.step_model.specs.Database.{Database, With, with_change}
use Rattle.step_model.specs.Own.{change_of, row_of}
use Rattle.step_model.proofs.Databases.{With-append}
use Rattle.table_rows.specs.Definitions.{defined_name, objects_name}
use Rattle.constraint_check.specs.Laws.{behind}
use Rattle.constraint_check.proofs.Behind.{same}
use Rattle.batch_meaning.specs.Changing.{definition_erased, triggers_of, with_definitions}
use Rattle.write_laws.specs.IndexKept.{AreEmptied, IndexedCleared}
use Rattle.write_laws.specs.Indexed.{Indexed, own_rows}
use Rattle.write_laws.specs.Keeping.{with_definition}
use Rattle.write_laws.specs.Sound.{Firm, IsDefined}
use Rattle.write_laws.proofs.Defined.{names_apart, not_objects, not_same}
use Rattle.write_laws.proofs.Elsewhere.{is_table, table_is, untouched}
use Rattle.write_laws.proofs.Erased.{AreNoTables, all_of_objects, erased_all, erased_own, firm_all, firm_erased, no_table, stay_all, still_none}
use Rattle.write_laws.proofs.Indexed.{indexed_dropped, indexed_erased, parts_elsewhere}
use Rattle.write_laws.proofs.Owned.{firm_own}

-- ---- what is defined as no table is erased

trigger_alone : (trigger : TriggerTree) (of : TableTree) → Trigger trigger ≡ Table of → ⊥
trigger_alone trigger of is = cc

no_tables : (db : Database) (firm : Firm db) (name : List ℕ) (list : List Definition) → AllByRecursion (λ definition. IsDefined db (defined_name definition) definition) list → AreNoTables db (triggers_of name list)
no_tables db firm name [] all = tt
no_tables db firm name (Table of ∷ rest) all = no_tables db firm name rest all.1
no_tables db firm name (Procedure of ∷ rest) all = no_tables db firm name rest all.1
no_tables db firm name (Trigger of ∷ rest) all = by_test (same_units of.table name) (no_tables db firm name rest all.1)
  where
    by_test : (b : Bool) → AreNoTables db (triggers_of name rest) → AreNoTables db (cons_option (if b then Some of.name else None) (triggers_of name rest))
    by_test true others = (no_table db firm of.name (Trigger of) all.0 (trigger_alone of), others)
    by_test false others = others

indexed_all : (names : List (List ℕ)) (db : Database) → Firm (own_rows db) → Indexed db → AreNoTables db names → Indexed (behind db (erased_all names))
indexed_all [] db firm indexed none = indexed
indexed_all (name ∷ names) db firm indexed none =
    indexed_all names (behind db (definition_erased name ∷ [])) (firm_own db (definition_erased name ∷ []) (refl, tt) (firm_erased (own_rows db) name firm none.0)) (indexed_erased db name firm indexed none.0)
    (still_none db name names none.1)

-- ---- in whichever order

-- of a table whose rows are the same the same changes make the same
agree : (changes : List Planned) (one other : Database) (of : TableName) → ((key : List Value) → one of key ≡ other of key) → (key : List Value) → behind one changes of key ≡ behind other changes of key
agree [] one other of same_rows key = same_rows key
agree (change ∷ changes) one other of same_rows key = agree changes (with_change one (change_of change)) (with_change other (change_of change)) of
    (λ key. ap (λ (o : Option (List Value)). if is_eq (table_cmp change.table of) && same change.key key then row_of change.deed else o) (same_rows key)) key

both_of : (d : Database) (xs ys : List Planned) → behind d (xs ++ ys) ≡ behind (behind d xs) ys
both_of d xs ys = ap (With d) (map-append change_of xs ys) ∙ With-append d (map change_of xs) (map change_of ys)

module _ (db : Database) (definitions : List Definition) (shape : TableTree) (changes : List Planned) (firm : Firm (own_rows db)) (indexed : Indexed db)
    (defined : AllByRecursion (λ definition. IsDefined db (defined_name definition) definition) definitions) (emptied : AreEmptied db shape changes) where
  abbrev fired : List (List ℕ)
  fired = triggers_of shape.name definitions

  abbrev left : Database
  left = behind db (erased_all fired)

  none : AreNoTables db fired
  none = no_tables (own_rows db) firm shape.name definitions defined

  other_name : same_units shape.name objects_name ≡ false
  other_name = names_apart shape.name objects_name (not_same shape.name objects_name (not_objects (own_rows db) firm shape.name (Table shape) emptied.defined))

  -- other tables than `objects` are as they were
  left_there : (of : TableName) → is_table objects_name of ≡ false → (key : List Value) → left of key ≡ db of key
  left_there of other key = untouched objects_name of other (erased_all fired) (all_of_objects fired) db key

  -- the table's parts are none of them
  part_other : (of : TableName) → of.object ≡ shape.name → is_table objects_name of ≡ false
  part_other of named = by_test (is_table objects_name of) refl
    where
      by_test : (b : Bool) → is_table objects_name of ≡ b → b ≡ false
      by_test true own = absurd (not_same shape.name objects_name other_name (sym named ∙ ap (λ (t : TableName). t.object) (table_is objects_name of own)))
      by_test false other = refl

  left_emptied : AreEmptied left shape changes
  left_emptied = record {
    defined = stay_all fired db none shape emptied.defined;
    of_parts = emptied.of_parts;
    erases = emptied.erases;
    whole = λ of key named some. emptied.whole of key named (subst (λ (o : Option (List Value)). IsSome o) (left_there of (part_other of named) key) some);
  }

  left_firm : Firm (own_rows left)
  left_firm = firm_own db (erased_all fired) (erased_own fired) (firm_all fired (own_rows db) firm none)

  swapped : (of : TableName) (key : List Value) → behind (behind db changes) (erased_all fired) of key ≡ behind left changes of key
  swapped of key = by_test (is_table objects_name of) refl
    where
      elsewhere : is_table objects_name of ≡ true → same_units shape.name of.object ≡ false
      elsewhere own = ap (λ (t : TableName). same_units shape.name t.object) (table_is objects_name of own) ∙ other_name

      by_test : (b : Bool) → is_table objects_name of ≡ b → behind (behind db changes) (erased_all fired) of key ≡ behind left changes of key
      by_test true own =
          agree (erased_all fired) (behind db changes) db of (parts_elsewhere shape.name of (elsewhere own) changes emptied.of_parts db) key
          ∙ sym (parts_elsewhere shape.name of (elsewhere own) changes emptied.of_parts left key)
      by_test false other =
          untouched objects_name of other (erased_all fired) (all_of_objects fired) (behind db changes) key
          ∙ sym (agree changes left db of (left_there of other) key)

  in_order : behind left (with_definition shape.name changes) ≡ behind db (with_definitions definitions shape.name changes)
  in_order =
      both_of left changes (definition_erased shape.name ∷ [])
      ∙ ap (λ (d : Database). behind d (definition_erased shape.name ∷ [])) (λ i of key. sym (swapped of key) i)
      ∙ sym (both_of (behind db changes) (erased_all fired) (definition_erased shape.name ∷ []))
      ∙ sym (both_of db changes (erased_all fired ++ definition_erased shape.name ∷ []))

pub indexed_cleared : IndexedCleared
indexed_cleared db definitions shape changes firm indexed defined emptied =
    subst Indexed (in_order db definitions shape changes firm indexed defined emptied)
    (indexed_dropped (left db definitions shape changes firm indexed defined emptied) shape changes (left_firm db definitions shape changes firm indexed defined emptied)
    (indexed_all (triggers_of shape.name definitions) db firm indexed (none db definitions shape changes firm indexed defined emptied)) (left_emptied db definitions shape changes firm indexed defined emptied))
