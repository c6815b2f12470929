-- Own: a write as rows that change, each as it was and as it is to be. What it plans is what is done at each of their keys, and of those of their index rows. The
-- rows that it takes are some of its target's image, in their order: so each was told by a fetch that keeps it, and no two are at one key.
use Rattle.std.specs.Prelude.{◌≡◌, ◌⊎◌, ℕ, false, true, List, [], ◌∷◌, length, Ok, Some}
use Rattle.std.specs.List.{AllByRecursion}
use Rattle.lock_modes.specs.declared.KeyPart.{KeyPart}
use Rattle.lock_modes.specs.declared.KeyPart.TheVariants.{U}
use Rattle.value_types.specs.declared.table_name.TableName.{TableName}
use Rattle.value_types.specs.declared.value.Value.{Value}
use Rattle.tsql_tree.specs.declared.definition.TableTree.{TableTree}
use Rattle.bound_tree.specs.declared.expr.BoundTest.{BoundTest}
use Rattle.bound_tree.specs.declared.write.BoundWrite.{BoundWrite}
use Rattle.bound_tree.specs.declared.write.BoundWrite.TheVariants as write
use Rattle.step_model.specs.declared.change.Planned.{Planned}
use Rattle.step_model.specs.declared.op.Hold.{Hold}
use Rattle.step_model.specs.declared.range.KeyRange.{KeyRange}
use Rattle.step_model.specs.Exchange.{Exchange}
use Rattle.index_laws.specs.Deeds.{deeds_by}
use Rattle.index_laws.specs.Laws.{OldsApart, itself, never}
use Rattle.table_rows.specs.Rows.{key_of, rows_table, same_key, shape_of, values_at}
use Rattle.dml_exec.specs.declared.refusal.Level.{Level}
use Rattle.dml_exec.specs.declared.rewritten.Rewritten.{Rewritten}
use Rattle.dml_exec.specs.declared.rewritten.Rewritten.TheVariants.{Inserted, Set, Erased}
use Rattle.dml_exec.specs.Filling.{Row}
use Rattle.dml_exec.specs.Planning.{Chg, all_changes, changes_of, row_changes_of, table_written}
use Rattle.dml_exec.specs.Reading.{fits, hold_at}
use Rattle.write_laws.specs.Planning.{target_image}
use Rattle.write_laws.specs.Told.{AreTold, TargetTold, WasTold}

-- ---- the rows that change

-- what is planned of a table's own rows is what is done at each key
abbrev pub ChangesAreDeeds : Type 0
ChangesAreDeeds = (table : TableName) (key : List ℕ) (rows : Rewritten) → changes_of table key rows ≡ deeds_by table (values_at key) itself never (row_changes_of rows)

-- ---- the rows that a write takes

-- as they were
abbrev pub rows_taken : Rewritten → List Row
rows_taken (Inserted rows) = []
rows_taken (Set olds news) = olds
rows_taken (Erased rows) = rows

-- for each row that is set there is one as it is to be
abbrev pub ArePaired : Rewritten → Type 0
ArePaired (Inserted rows) = Unit {0}
ArePaired (Set olds news) = length news ≡ length olds
ArePaired (Erased rows) = Unit {0}

-- those of which a write takes some: its target's image; an INSERT takes none
abbrev pub rows_offered : BoundWrite → List (List Row) → List Row
rows_offered (write.Insert table places given) images = []
rows_offered (write.Update table sets test inner) images = target_image inner images
rows_offered (write.Delete table test inner) images = target_image inner images

-- some of a list, in its order
abbrev pub AreSome : {A : Type 0} → List A → List A → Type 0
AreSome [] all = Unit {0}
AreSome (x ∷ some) [] = ⊥
AreSome (x ∷ some) (y ∷ all) = ((x ≡ y) × AreSome some all) ⊎ AreSome (x ∷ some) all

-- These are the changes of rows, and the rows that are taken are some of those that are offered.
pub record IsPlanOf (shape : TableTree) (of : BoundWrite) (images : List (List Row)) (planned : List Planned) : Type 0 where
  pub rows : Rewritten
  pub changes : planned ≡ all_changes (table_written of) shape rows
  pub paired : ArePaired rows
  pub some : AreSome (rows_taken rows) (rows_offered of images)

abbrev pub PlannedOf : Type 0
PlannedOf = (vars system : List Value) (shape : TableTree) (checks : List BoundTest) (of : BoundWrite) (images : List (List Row)) (planned : List Planned) → Chg vars system shape checks of images ≡ Ok planned → IsPlanOf shape of images planned

-- ---- how they were told

-- the row was told at its own key, by a fetch that holds and locks so
abbrev pub IsTaken : List Exchange → KeyRange → Hold → KeyPart → TableTree → Row → Type 0
IsTaken part range hold lock shape row = (at : List Value × List Value) × (at.1 ≡ row) × (same_key (key_of shape row) at.0 ≡ true) × WasTold part range.table range.stop hold lock at

-- no two of them are at one key
abbrev pub AreApart : TableTree → List Row → Type 0
AreApart shape [] = Unit {0}
AreApart shape (row ∷ rows) = AllByRecursion (λ other. same_key (key_of shape other) (key_of shape row) ≡ false) rows × AreApart shape rows

-- so it is of some of the rows of an image
abbrev pub TakenTold : Type 0
TakenTold = (part : List Exchange) (range : KeyRange) (hold : Hold) (lock : KeyPart) (shape : TableTree) (image rows : List Row) → AreTold part (fits (Some shape) 0) range hold lock image → AreSome rows image
    → AllByRecursion (IsTaken part range hold lock shape) rows × AreApart shape rows

-- then no two changes take rows of one key
abbrev pub TakenApart : Type 0
TakenApart = (shape : TableTree) (rows : Rewritten) → AreApart shape (rows_taken rows) → OldsApart (key_of shape) (row_changes_of rows)

-- ---- of a plan

-- The rows that are taken are those of a range of their table; each was told with U, and held as the level says.
pub record AreTaken (part : List Exchange) (level : Level) (shape : TableTree) (rows : Rewritten) : Type 0 where
  pub range : KeyRange
  pub table : range.table ≡ rows_table shape.name
  pub told : AllByRecursion (IsTaken part range (hold_at level) U shape) (rows_taken rows)
  pub apart : AreApart shape (rows_taken rows)

-- so they are where the rows of the target were told
abbrev pub PlanTaken : Type 0
PlanTaken = (vars : List Value) (shapes : List TableTree) (level : Level) (shape : TableTree) (of : BoundWrite) (images : List (List Row)) (planned : List Planned) (part : List Exchange) → shape_of (table_written of) shapes ≡ Some shape
    → (plan : IsPlanOf shape of images planned) → TargetTold vars shapes level of part images → AreTaken part level shape plan.rows
