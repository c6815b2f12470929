-- Transact-SQL reference, "INSERT" and "UPDATE": how a row is filled. Of the values that are given for its columns each is
-- evaluated, converted to its column's type and stored, before the next is looked at; the first error stands. A text that is
-- longer than its column is refused, where CAST would cut it.
use Rattle.std.specs.Prelude.{ℕ, List, [], ◌∷◌, map, slice_get, slice_set, Option, Some, None, Result, Ok, Err}
use Rattle.value_types.specs.declared.sql_type.SqlType.{SqlType}
use Rattle.value_types.specs.declared.value.Value.{Value}
use Rattle.value_types.specs.declared.value.Value.TheVariants.{Null}
use Rattle.value_types.specs.Types.{type_of}
use Rattle.convert_rules.specs.declared.fault.ConvertFault.{ConvertFault}
use Rattle.convert_rules.specs.Conversion.{converted}
use Rattle.convert_rules.specs.Errors.{error_of}
use Rattle.tsql_tree.specs.declared.definition.ColumnTree.{ColumnTree}
use Rattle.bound_tree.specs.Conversions.{error_outcome}
use Rattle.bound_tree.specs.Outcomes.{Outcome}
use Rattle.query_eval.specs.Phases.{◌>>=◌}

abbrev pub Row : Type 0
Row = List Value

-- ---- a value as one of a column's type

-- what the table of conversions gives, with its fault as the error of its number
abbrev pub stored_as : SqlType → Value → Result Value ConvertFault → Outcome Value
stored_as kind x (Ok y) = Ok y
stored_as kind x (Err fault) = error_outcome (error_of fault (type_of x) kind)

abbrev pub stored : SqlType → Value → Outcome Value
stored kind x = stored_as kind x (converted x kind)

-- at the place of a column; where no column is, nothing is converted
abbrev pub stored_at : Option ColumnTree → Value → Outcome Value
stored_at None x = Ok x
stored_at (Some column) x = stored column.kind x

-- ---- rows

-- a place of a row, and what comes of the value that is given for it
abbrev pub Given : Type 0
Given = ℕ × Outcome Value

module _ (columns : List ColumnTree) where
  -- the row in which nothing is given
  abbrev pub null_row : Row
  null_row = map (λ column. Null) columns

  -- a row with this value stored
  abbrev pub with_given : Given → Row → Outcome Row
  with_given given row = do
    x ← given.1
    y ← stored_at (slice_get columns given.0) x
    Ok (slice_set row given.0 y)

  -- with all of them, one after another
  abbrev pub filled : List Given → Row → Outcome Row
  filled [] row = Ok row
  filled (given ∷ rest) row = do
    more ← with_given given row
    filled rest more
