-- A write of a table: what is defined stays, and all tables keep their constraints.
use Rattle.std.proofs.Common.{◌≡◌, refl, sym, ap, ◌∙◌, subst, inl, inr, ℕ, Bool, true, false, List, [], ◌∷◌, length, Some, IsSome, Ok, if◌then◌else◌}
use Rattle.std.specs.List.{AllByRecursion}
use Rattle.value_types.specs.declared.table_name.TableName.{TableName}
use Rattle.value_types.specs.declared.value.Value.{Value}
use Rattle.tsql_tree.specs.declared.definition.Definition.{Definition}
use Rattle.tsql_tree.specs.declared.definition.Definition.TheVariants.{Table, Trigger}
use Rattle.tsql_tree.specs.declared.definition.ForeignTree.{ForeignTree}
use Rattle.tsql_tree.specs.declared.definition.TableTree.{TableTree}
use Rattle.tsql_tree.specs.Places.{key_places}
use Rattle.bound_tree.specs.declared.expr.BoundTest.{BoundTest}
use Rattle.binder.specs.Statements.{bind_checks}
use Rattle.step_model.specs.declared.change.Planned.{Planned}
use Rattle.step_model.specs.Database.{Database}
use Rattle.table_rows.specs.Definitions.{objects_name, object_key}
use Rattle.table_rows.specs.Rows.{is_shape_of, rows_table, shape_of}
use Rattle.constraint_check.specs.Integrity.{AreKept, IsKept}
use Rattle.constraint_check.specs.Laws.{behind}
use Rattle.constraint_check.proofs.Behind.{one_behind}
use Rattle.constraint_check.proofs.Lists.{all_more}
use Rattle.write_laws.specs.Reads.{HasParent}
use Rattle.write_laws.specs.Keeping.{AreTables, FirmWritten, TablesReady, UntriggeredWritten, tests_in, tests_of}
use Rattle.write_laws.specs.Sound.{HasParentTable, HasParentTables, IsDefined, IsKnown, IsTableOf, Keeps, Firm}
use Rattle.write_laws.proofs.Defined.{defined_by, not_objects, table_there}
use Rattle.write_laws.proofs.Elsewhere.{is_table, table_is, tables_apart, untouched}

-- ---- tables that are given

-- what is so of all is so of the one that is found
pub of_found : (P : TableTree → Type 0) (table : TableName) (shapes : List TableTree) (shape : TableTree) → shape_of table shapes ≡ Some shape → AllByRecursion P shapes → P shape
of_found P table [] shape is all = cc
of_found P table (first ∷ rest) shape is all = by_test (is_shape_of table first) is (λ is. of_found P table rest shape is all.1)
  where
    by_test : (b : Bool) → (if b then Some first else shape_of table rest) ≡ Some shape → (shape_of table rest ≡ Some shape → P shape) → P shape
    by_test true is further = let same : first ≡ shape = cc in subst P same all.0
    by_test false is further = further is

bound_so : (shape : TableTree) (tests : List BoundTest) → bind_checks shape ≡ Ok tests → tests ≡ tests_of shape
bound_so shape tests is = sym (ap tests_in is)

module _ (db : Database) (firm : Firm db) where
  -- a table that is defined is bound to its tests, and keeps them
  pub tests_bound : (shape : TableTree) → IsTableOf db shape → bind_checks shape ≡ Ok (tests_of shape)
  tests_bound shape is = let keeps = firm.kept shape is in keeps.1 ∙ ap Ok (bound_so shape keeps.0 keeps.1)

  tests_kept : (shape : TableTree) → IsTableOf db shape → IsKept db shape (tests_of shape)
  tests_kept shape is = let keeps = firm.kept shape is in subst (IsKept db shape) (bound_so shape keeps.0 keeps.1) keeps.2

module _ (db : Database) (shapes : List TableTree) (firm : Firm db) (tables : AreTables db shapes) where
  -- its parent is among them
  refers_known : (shape : TableTree) (foreign : ForeignTree) → HasParentTable db shape foreign → HasParent shapes shape foreign
  refers_known shape foreign has =
      let found : shape_of (rows_table foreign.parent) shapes ≡ Some has.0 = sym (ap (λ (n : List ℕ). shape_of (rows_table n) shapes) has.2.0) ∙ tables.found has.0 has.1 in
      (subst (λ o. IsSome o) (sym found) refl, has.2.1 ∙ ap (λ o. length (key_places o)) (sym found))

  parents_of : (shape : TableTree) → IsTableOf db shape → AllByRecursion (HasParent shapes shape) shape.foreigns
  parents_of shape is = all_more (HasParentTable db shape) (HasParent shapes shape) (refers_known shape) shape.foreigns (firm.parents shape is)

pub tables_ready : TablesReady
tables_ready db shapes shape firm tables is = record {
  kept = all_more (IsTableOf db) (λ of. IsKept db of (tests_of of)) (tests_kept db firm) shapes tables.defined;
  one_name = all_more (IsTableOf db) (λ of. shape_of (rows_table of.name) shapes ≡ Some of) tables.found shapes tables.defined;
  known = tables.found shape is;
  parents = all_more (IsTableOf db) (λ of. AllByRecursion (HasParent shapes of) of.foreigns) (parents_of db shapes firm tables) shapes tables.defined;
  parents_known = all_more (HasParent shapes shape) (λ foreign. IsSome (shape_of (rows_table foreign.parent) shapes)) (λ foreign has. has.0) shape.foreigns (parents_of db shapes firm tables shape is);
  bound = tests_bound db firm shape is;
  other = not_objects db firm shape.name (Table shape) is;
}

-- ---- behind the changes

module _ (db : Database) (shape : TableTree) (planned : List Planned) (firm : Firm db) (is : IsTableOf db shape) (of_table : AllByRecursion (λ change. change.table ≡ rows_table shape.name) planned) where
  abbrev after : Database
  after = behind db planned

  objects_stay : (key : List Value) → after (rows_table objects_name) key ≡ db (rows_table objects_name) key
  objects_stay key = untouched shape.name (rows_table objects_name) (tables_apart shape.name objects_name (not_objects db firm shape.name (Table shape) is)) planned of_table db key

  -- what is defined was, and stays
  pub was : (name : List ℕ) (definition : Definition) → IsDefined after name definition → IsDefined db name definition
  was name definition now = defined_by after db name definition (sym (objects_stay (object_key name))) now

  pub stays : (of : TableTree) → IsTableOf db of → IsTableOf after of
  stays of before = defined_by db after of.name (Table of) (objects_stay (object_key of.name)) before

  known_stays : (table : TableName) → IsKnown db table → IsKnown after table
  known_stays table (inl own) = inl own
  known_stays table (inr of) = inr (of.0, stays of.0 of.1, of.2)

  all_known : (table : TableName) (key row : List Value) → after table key ≡ Some row → IsKnown after table
  all_known table key row stands = by_test (is_table shape.name table) refl
    where
      by_test : (b : Bool) → is_table shape.name table ≡ b → IsKnown after table
      by_test true own = inr (shape, stays shape is, table_is shape.name table own)
      by_test false apart = known_stays table (firm.known table key row (sym (untouched shape.name table apart planned of_table db key) ∙ stands))

  all_keep : (shapes : List TableTree) → AreTables db shapes → AreKept after tests_of shapes → (of : TableTree) → IsTableOf after of → Keeps after of
  all_keep shapes tables kept of now =
      let before = was of.name (Table of) now in
      (tests_of of, tests_bound db firm of before, of_found (λ of. IsKept after of (tests_of of)) (rows_table of.name) shapes of (tables.found of before) kept)

  parents_stay : (of : TableTree) → IsTableOf after of → HasParentTables after of
  parents_stay of now = all_more (HasParentTable db of) (HasParentTable after of) (λ foreign has. (has.0, stays has.0 has.1, has.2)) of.foreigns (firm.parents of (was of.name (Table of) now))

pub firm_written : FirmWritten
firm_written db shapes shape planned firm tables is of_table kept = record {
  one_key = one_behind planned db firm.one_key;
  definitions = λ key row stands. firm.definitions key row (sym (objects_stay db shape planned firm is of_table key) ∙ stands);
  known = all_known db shape planned firm is of_table;
  few = λ of now. firm.few of (was db shape planned firm is of_table of.name (Table of) now);
  kept = all_keep db shape planned firm is of_table shapes tables kept;
  parents = parents_stay db shape planned firm is of_table;
  triggers = λ name trigger now. table_there db (behind db planned) (stays db shape planned firm is of_table) trigger.table (firm.triggers name trigger (was db shape planned firm is of_table name _ now));
}

pub untriggered_written : UntriggeredWritten
untriggered_written db shape planned firm is of_table none name trigger now = none name trigger (was db shape planned firm is of_table name (Trigger trigger) now)
