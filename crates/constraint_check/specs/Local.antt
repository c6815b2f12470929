-- Transact-SQL reference, "CREATE TABLE": NOT NULL and CHECK, which say something of a row alone. Of all rows that a
-- statement leaves, first no column that takes no NULL has one; then no CHECK is false. A CHECK that is unknown is
-- kept. The columns of a PRIMARY KEY take no NULL.
use Rattle.std.specs.Prelude.{ℕ, ℤ, pos, Bool, ◌&&◌, ◌||◌, if◌then◌else◌, List, [], ◌∷◌, map, Option, Some, None, Ok, Err}
use Rattle.std.specs.List.{list_any}
use Rattle.std.specs.Option.{option_map, option_or}
use Rattle.value_types.specs.Units.{same_units}
use Rattle.value_types.specs.declared.value.Value.{Value}
use Rattle.value_types.specs.declared.value.Value.TheVariants.{Null}
use Rattle.tsql_tree.specs.declared.definition.CheckTree.{CheckTree}
use Rattle.tsql_tree.specs.declared.definition.ColumnTree.{ColumnTree}
use Rattle.tsql_tree.specs.declared.definition.TableTree.{TableTree}
use Rattle.bound_tree.specs.declared.expr.BoundTest.{BoundTest}
use Rattle.bound_tree.specs.declared.truth.Truth.{Truth}
use Rattle.bound_tree.specs.declared.truth.Truth.TheVariants.{False, Unknown, True}
use Rattle.bound_tree.specs.Meaning.{is_null, truth}
use Rattle.bound_tree.specs.Outcomes.{Outcome}
use Rattle.bound_tree.specs.Setting.{Setting}
use Rattle.bound_tree.specs.Typed.{system_kinds}
use Rattle.scalar_eval.specs.declared.fault.EvalFault.{EvalFault}
use Rattle.scalar_eval.specs.declared.fault.EvalFault.TheVariants.{Number, Named}

-- ---- numbers of errors, whose texts name the column or the constraint

abbrev pub null_refused : ℤ
null_refused = pos 515

abbrev pub conflict : ℤ
conflict = pos 547

-- ---- the first of a list that gives something

abbrev pub first_given : {A B : Type 0} → (A → Option B) → List A → Option B
first_given f [] = None
first_given f (x ∷ xs) = option_or (f x) (first_given f xs)

-- ---- NOT NULL

-- NOT NULL stands, or the column is one of the PRIMARY KEY
abbrev pub is_required : TableTree → ColumnTree → Bool
is_required shape column = column.required || list_any (λ key. list_any (same_units column.name) key.columns) shape.key

-- the first column, in their order, that takes no NULL and has one; what a row lacks is no NULL
abbrev pub null_among : TableTree → List ColumnTree → List Value → Option (List ℕ)
null_among shape [] row = None
null_among shape (column ∷ columns) [] = None
null_among shape (column ∷ columns) (value ∷ row) =
    if is_required shape column && is_null value then Some column.name else null_among shape columns row

-- the name of that column
abbrev pub null_in : TableTree → List Value → Option (List ℕ)
null_in shape row = null_among shape shape.columns row

-- ---- CHECK

-- a CHECK reads the row alone: no variable, no value of the session, no inner query
abbrev pub row_setting : List Value → Setting
row_setting row = record { row = row; vars = []; system = map (λ kind. Null) system_kinds; inner = [] }

-- what comes of a CHECK of this name
abbrev pub check_fault : List ℕ → Outcome Truth → Option EvalFault
check_fault name (Ok False) = Some (Named conflict name)
check_fault name (Ok Unknown) = None
check_fault name (Ok True) = None
check_fault name (Err number) = Some (Number number)

-- the first of the CHECKs that is false, or has no value; each with what it is bound to
abbrev pub broken_among : List CheckTree → List BoundTest → List Value → Option EvalFault
broken_among [] tests row = None
broken_among (check ∷ checks) [] row = None
broken_among (check ∷ checks) (test ∷ tests) row =
    option_or (check_fault check.name (truth (row_setting row) test)) (broken_among checks tests row)

-- ---- the rows that a statement leaves

abbrev pub null_fault : TableTree → List Value → Option EvalFault
null_fault shape row = option_map (Named null_refused) (null_in shape row)

-- the first that is wrong with rows, in their order: a NULL of any of them comes before every CHECK
abbrev pub first_local : List (List Value) → TableTree → List BoundTest → Option EvalFault
first_local rows shape tests = option_or (first_given (null_fault shape) rows) (first_given (broken_among shape.checks tests) rows)
