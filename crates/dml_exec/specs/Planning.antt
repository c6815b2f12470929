-- Transact-SQL reference, "INSERT", "UPDATE" and "DELETE": the changes of a write, or its first error. Inner queries are
-- answered first, on the images in front of the target's. Then the rows are made, in their order: those of VALUES one after
-- another; those of a select once its whole answer is there; of UPDATE and DELETE the rows of the target that are meant are
-- found first, and then each is set, all its columns from the row as it was. Then the new rows are checked by
-- themselves: NULLs of all of them, and then CHECKs. The changes are all erasures in the order of the rows, and then what
-- is written, in that order: a row whose key stays is replaced, one whose key changes is erased and inserted. Own: behind
-- them follow those of the table's index rows, part by part, each in the same order; where an index row is the same unit
-- for unit, it is not changed.
use Rattle.std.specs.Prelude.{ℕ, suc, ℤ, pos, Bool, true, false, not, ◌&&◌, nat_le, if◌then◌else◌, List, [], ◌∷◌, ◌++◌, length, map, filter, Option, Some, None, Result, Ok, Err}
use Rattle.std.specs.Cmp.Lexicographic.{pointwise}
use Rattle.std.specs.List.{flat_map, list_all, zip}
use Rattle.std.specs.Ordering.{int_eq}
use Rattle.value_types.specs.Units.{same_units}
use Rattle.value_types.specs.declared.table_name.TableName.{TableName}
use Rattle.value_types.specs.declared.value.Value.{Value}
use Rattle.value_types.specs.declared.value.Value.TheVariants.{Null, Whole, Bit, Text}
use Rattle.value_types.specs.Order.{key_limit}
use Rattle.tsql_tree.specs.declared.definition.TableTree.{TableTree}
use Rattle.tsql_tree.specs.Places.{key_places}
use Rattle.bound_tree.specs.declared.expr.BoundExpr.{BoundExpr}
use Rattle.bound_tree.specs.declared.expr.BoundTest.{BoundTest}
use Rattle.bound_tree.specs.declared.query.InnerQuery.{InnerQuery}
use Rattle.bound_tree.specs.declared.write.BoundRows.{BoundRows}
use Rattle.bound_tree.specs.declared.write.BoundRows.TheVariants as rows
use Rattle.bound_tree.specs.declared.write.BoundSet.{BoundSet}
use Rattle.bound_tree.specs.declared.write.BoundWrite.{BoundWrite}
use Rattle.bound_tree.specs.declared.write.BoundWrite.TheVariants as write
use Rattle.bound_tree.specs.Meaning.{value}
use Rattle.bound_tree.specs.Outcomes.{Outcome}
use Rattle.bound_tree.specs.Setting.{Setting}
use Rattle.scalar_eval.specs.declared.fault.EvalFault.{EvalFault}
use Rattle.scalar_eval.specs.declared.fault.EvalFault.TheVariants.{Number}
use Rattle.query_eval.specs.Phases.{◌>>=◌, each}
use Rattle.query_eval.specs.Joining.{image_of}
use Rattle.query_eval.specs.Ans.{Ans}
use Rattle.query_eval.specs.Targets.{inner_answers, rows_meant, setting_over}
use Rattle.step_model.specs.declared.change.Deed.{Deed}
use Rattle.step_model.specs.declared.change.Deed.TheVariants.{Erase, Replace, Insert}
use Rattle.step_model.specs.declared.change.Planned.{Planned}
use Rattle.step_model.specs.Own.{is_insert, is_own, own_changes}
use Rattle.index_laws.specs.Parts.{RowChange}
use Rattle.index_laws.specs.Deeds as deeds
use Rattle.index_laws.specs.Whole.{IndexPart, index_of, part_table}
use Rattle.table_rows.specs.Rows.{index_columns, index_places, places_of, same_key, values_at}
use Rattle.constraint_check.specs.Local.{first_local}
use Rattle.constraint_check.specs.Reads.{is_erase}
use Rattle.dml_exec.specs.declared.rewritten.Rewritten.{Rewritten}
use Rattle.dml_exec.specs.declared.rewritten.Rewritten.TheVariants.{Inserted, Set, Erased}
use Rattle.dml_exec.specs.Filling.{Row, Given, filled, null_row}

-- ---- the rows of a write

-- the values of an INSERT's row, for the places of its columns
abbrev pub values_given : Setting → List ℕ → List BoundExpr → List Given
values_given setting places exprs = zip places (map (value setting) exprs)

-- the values of an answer's row
abbrev pub values_selected : List ℕ → Row → List Given
values_selected places row = zip places (map Ok row)

-- what UPDATE sets, all from the row as it was
abbrev pub values_set : Setting → List BoundSet → List Given
values_set setting sets = map (λ set. (set.place, value setting set.expr)) sets

module _ (vars system : List Value) (shape : TableTree) where
  -- the rows that INSERT adds
  abbrev pub rows_added : List ℕ → BoundRows → List (List Row) → Outcome (List Row)
  rows_added places (rows.Values values inner) images = do
    answers ← inner_answers vars system inner images
    each (λ exprs. filled shape.columns (values_given (setting_over vars system answers.0 []) places exprs) (null_row shape.columns)) values
  rows_added places (rows.Query query) images = do
    selected ← Ans vars system query images
    each (λ row. filled shape.columns (values_selected places row) (null_row shape.columns)) selected

  -- a row as UPDATE sets it
  abbrev pub row_set : List (List Row) → List BoundSet → Row → Outcome Row
  row_set inner sets row = filled shape.columns (values_set (setting_over vars system inner row) sets) row

  -- the rows that UPDATE sets, as they were and as they are to be
  abbrev pub rows_updated : List BoundSet → Option BoundTest → List InnerQuery → List (List Row) → Outcome Rewritten
  rows_updated sets test inner images = do
    answers ← inner_answers vars system inner images
    olds ← rows_meant vars system answers.0 (key_places (Some shape)) test (image_of answers.1)
    news ← each (row_set answers.0 sets) olds
    Ok (Set olds news)

  -- the rows that DELETE erases
  abbrev pub rows_deleted : Option BoundTest → List InnerQuery → List (List Row) → Outcome Rewritten
  rows_deleted test inner images = do
    answers ← inner_answers vars system inner images
    olds ← rows_meant vars system answers.0 (key_places (Some shape)) test (image_of answers.1)
    Ok (Erased olds)

  abbrev pub rewritten : BoundWrite → List (List Row) → Outcome Rewritten
  rewritten (write.Insert table places given) images = do
    added ← rows_added places given images
    Ok (Inserted added)
  rewritten (write.Update table sets test inner) images = rows_updated sets test inner images
  rewritten (write.Delete table test inner) images = rows_deleted test inner images

-- ---- changes

-- the rows that the write leaves, in their order
abbrev pub new_rows : Rewritten → List Row
new_rows (Inserted rows) = rows
new_rows (Set olds news) = news
new_rows (Erased rows) = []

abbrev pub erased_at : TableName → List Value → Planned
erased_at table key = record { table = table; key = key; deed = Erase }

-- in a table whose key has the columns of these places
module _ (table : TableName) (key : List ℕ) where
  abbrev pub erasure : Row → Planned
  erasure row = erased_at table (values_at key row)

  abbrev pub insertion : Row → Planned
  insertion row = record { table = table; key = values_at key row; deed = Insert row }

  -- a row, as it was and as it is to be, stays at its key; keys that compare equal are one key
  abbrev pub stays : Row × Row → Bool
  stays pair = same_key (values_at key pair.1) (values_at key pair.0)

  -- what is erased of a row that is set
  abbrev pub moved : Row × Row → List Planned
  moved pair = if stays pair then [] else erasure pair.0 ∷ []

  -- and what is written
  abbrev pub rewrite : Row × Row → Planned
  rewrite pair = if stays pair then (record { table = table; key = values_at key pair.0; deed = Replace pair.1 }) else insertion pair.1

  abbrev pub changes_of : Rewritten → List Planned
  changes_of (Inserted rows) = map insertion rows
  changes_of (Set olds news) = flat_map moved (zip olds news) ++ map rewrite (zip olds news)
  changes_of (Erased rows) = map erasure rows

-- ---- changes of index rows

-- the rows of a write, each as it was and as it is to be
abbrev pub row_changes_of : Rewritten → List RowChange
row_changes_of (Inserted rows) = deeds.rows_added rows
row_changes_of (Set olds news) = deeds.rows_set olds news
row_changes_of (Erased rows) = deeds.rows_gone rows

-- the index parts from this number on, of constraints with these columns
abbrev pub parts_from : TableTree → ℕ → List (List (List ℕ)) → List IndexPart
parts_from shape number [] = []
parts_from shape number (names ∷ rest) = record { number = number; places = places_of shape names } ∷ parts_from shape (suc number) rest

abbrev pub parts_of : TableTree → List IndexPart
parts_of shape = parts_from shape 1 (index_columns shape)

-- the index row of a row, which is its own key
abbrev pub row_in : TableTree → IndexPart → Row → List Value
row_in shape part = index_of (key_places (Some shape)) part

-- with a test whether two index rows are the same
module _ (shape : TableTree) (equal : List Value → List Value → Bool) (changes : List RowChange) where
  -- what is done at each key; where both of a row's index rows are the same nothing is
  abbrev pub part_deeds : IndexPart → List Planned
  part_deeds part = deeds.deeds_by (part_table shape.name part.number) (row_in shape part) (row_in shape part) (λ old new. equal (row_in shape part new) (row_in shape part old)) changes

  abbrev pub index_deeds : List Planned
  index_deeds = flat_map part_deeds (parts_of shape)

-- unit for unit
abbrev pub is_same_value : Value → Value → Bool
is_same_value Null Null = true
is_same_value (Whole a) (Whole b) = int_eq a b
is_same_value (Bit true) (Bit b) = b
is_same_value (Bit false) (Bit b) = not b
is_same_value (Text a) (Text b) = same_units a b
is_same_value a b = false

abbrev pub is_same_row : List Value → List Value → Bool
is_same_row a b = pointwise is_same_value a b

-- the changes of the table's rows, and then those of its index rows
abbrev pub all_changes : TableName → TableTree → Rewritten → List Planned
all_changes table shape rows = changes_of table (key_places (Some shape)) rows ++ index_deeds shape is_same_row (row_changes_of rows)

-- ---- index rows that are asked for

-- one that goes or is replaced is asked for before anything is changed
abbrev pub is_asked : Planned → Bool
is_asked change = not (is_own change) && not (is_insert change.deed)

abbrev pub asked_of : List Planned → List Planned
asked_of changes = filter is_asked changes

-- where none was there it is not erased, and is inserted in the place of being replaced
abbrev pub unless_there : Planned → Deed → List Planned
unless_there change Erase = []
unless_there change (Replace row) = record { table = change.table; key = change.key; deed = Insert row } ∷ []
unless_there change (Insert row) = change ∷ []

abbrev pub as_told : Bool → Planned → List Planned
as_told true change = change ∷ []
as_told false change = unless_there change change.deed

-- The changes by what was answered for those that are asked, one answer each, in their order.
abbrev pub as_found : List Planned → List Bool → List Planned
as_found [] found = []
as_found (change ∷ changes) [] = change ∷ changes
as_found (change ∷ changes) (there ∷ found) = if is_asked change then as_told there change ++ as_found changes found else change ∷ as_found changes (there ∷ found)

-- ---- rows that are told

-- a change that leaves an own row of the table
abbrev pub leaves_row : Planned → Bool
leaves_row change = is_own change && not (is_erase change.deed)

-- how many own rows of its table the statement tells: of DELETE those that go, of the others those that it leaves
abbrev pub rows_told : BoundWrite → List Planned → ℕ
rows_told (write.Insert table places given) changes = length (filter leaves_row changes)
rows_told (write.Update table sets test inner) changes = length (filter leaves_row changes)
rows_told (write.Delete table test inner) changes = length (own_changes changes)

-- ---- the whole

-- the changes, or the first error, which may name a column or a constraint
abbrev pub Plan : Type 0
Plan = Result (List Planned) EvalFault

abbrev pub unless_wrong : Option EvalFault → List Planned → Plan
unless_wrong None changes = Ok changes
unless_wrong (Some fault) changes = Err fault

abbrev pub checked : TableName → TableTree → List BoundTest → Outcome Rewritten → Plan
checked table shape checks (Err number) = Err (Number number)
checked table shape checks (Ok rows) = unless_wrong (first_local (new_rows rows) shape checks) (all_changes table shape rows)

abbrev pub table_written : BoundWrite → TableName
table_written (write.Insert table places given) = table
table_written (write.Update table sets test inner) = table
table_written (write.Delete table test inner) = table

-- a table whose key, or that of an index part, has no column, or too many, is outside the limits: no CREATE TABLE makes one (own)
abbrev pub outside_limits : ℤ
outside_limits = pos 49007

abbrev pub has_key : List ℕ → Bool
has_key key = nat_le 1 (length key) && nat_le (length key) key_limit

-- those of all index parts
abbrev pub have_keys : TableTree → Bool
have_keys shape = list_all (λ names. has_key (index_places shape names)) (index_columns shape)

abbrev pub has_keys : TableTree → Bool
has_keys shape = has_key (key_places (Some shape)) && have_keys shape

-- The changes of a write, on images of its inner queries and then of its target, by the table's shape and what its CHECKs
-- are bound to.
abbrev pub Chg : List Value → List Value → TableTree → List BoundTest → BoundWrite → List (List Row) → Plan
Chg vars system shape checks of images =
    if has_keys shape then checked (table_written of) shape checks (rewritten vars system shape of images) else Err (Number outside_limits)
