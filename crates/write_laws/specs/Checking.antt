-- Own: what is asked of a database whose rows are read for checks, and that what passes of its index parts, as it is read, passes of all
-- rows, as it is meant.
use Rattle.std.specs.Prelude.{◌≡◌, ℕ, suc, List, [], ◌∷◌, Some}
use Rattle.std.specs.List.{AllByRecursion}
use Rattle.tsql_tree.specs.declared.definition.ForeignTree.{ForeignTree}
use Rattle.tsql_tree.specs.declared.definition.KeyTree.{KeyTree}
use Rattle.tsql_tree.specs.declared.definition.TableTree.{TableTree}
use Rattle.step_model.specs.declared.change.Planned.{Planned}
use Rattle.step_model.specs.Database.{Database}
use Rattle.index_laws.specs.Parts.{IsExact}
use Rattle.table_rows.specs.Rows.{index_part, index_places, part_places, rows_table, values_at}
use Rattle.constraint_check.specs.Laws.{Passes}
use Rattle.constraint_check.specs.Meant.{reads_meant}
use Rattle.constraint_check.specs.Reads.{first_foreign, reads_for}
use Rattle.write_laws.specs.Planning.{AreOneEach}
use Rattle.write_laws.specs.Reads.{HaveParents, RowsFit}

-- ---- what is asked

-- the constraint on these columns has the index part of this number, with exactly the index rows of the table's rows
abbrev pub IsPart : Database → TableTree → ℕ → List (List ℕ) → Type 0
IsPart db shape part columns = (part_places shape part ≡ Some (index_places shape columns)) × IsExact (values_at (index_places shape columns)) (db (rows_table shape.name)) (db (index_part shape part))

-- each of these constraints has one, from this number on
abbrev pub ArePartsFrom : {A : Type 0} → Database → TableTree → (A → List (List ℕ)) → ℕ → List A → Type 0
ArePartsFrom {A} db shape columns part [] = Unit {0}
ArePartsFrom {A} db shape columns part (x ∷ xs) = IsPart db shape part (columns x) × ArePartsFrom db shape columns (suc part) xs

-- Each UNIQUE and each FOREIGN KEY of a table has its part.
pub record HasParts (db : Database) (shape : TableTree) : Type 0 where
  pub uniques : ArePartsFrom db shape (λ (key : KeyTree). key.columns) 1 shape.uniques
  pub foreigns : ArePartsFrom db shape (λ (foreign : ForeignTree). foreign.columns) (first_foreign shape) shape.foreigns

-- Rows of these tables can be read for checks: no two have one name, all rows of each fit it, its constraints have their parts, and each
-- FOREIGN KEY its parent.
pub record CanCheck (db : Database) (shapes : List TableTree) : Type 0 where
  pub each : AreOneEach shapes
  pub rows : AllByRecursion (RowsFit db) shapes
  pub parts : AllByRecursion (HasParts db) shapes
  pub parents : HaveParents shapes

-- ---- the law

abbrev pub PartsPass : Type 0
PartsPass = (db : Database) (shapes : List TableTree) (changes : List Planned) → CanCheck db shapes
    → AllByRecursion (Passes db) (reads_for changes shapes) → AllByRecursion (Passes db) (reads_meant changes shapes)
