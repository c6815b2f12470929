-- Own: what an expression reads beside its own tree. A place that isn't there is NULL. That an inner query
-- that stands as a value has one row at most is the promise of the caller, who answers the inner queries
-- first, also those whose value is not needed here, and refuses there what has more rows.
use Rattle.std.specs.Prelude.{ℕ, List, [], ◌∷◌, get_or, Ok, Err}
use Rattle.value_types.specs.declared.value.Value.{Value}
use Rattle.value_types.specs.declared.value.Value.TheVariants.{Null}
use Rattle.bound_tree.specs.declared.system.SystemValue.{SystemValue}
use Rattle.bound_tree.specs.declared.system.SystemValue.TheVariants.{TranCount, Error, RowCount, FetchStatus, XactState, ErrorNumber, ErrorSeverity, ErrorState, ErrorLine, ErrorMessage, ErrorProcedure}
use Rattle.bound_tree.specs.Outcomes.{Outcome, several_rows}

-- the row; the values of the variables and of the session; and the rows of the inner queries' answers
pub record Setting : Type 0 where
  pub row : List Value
  pub vars : List Value
  pub system : List Value
  pub inner : List (List (List Value))

abbrev pub system_place : SystemValue → ℕ
system_place TranCount = 0
system_place Error = 1
system_place RowCount = 2
system_place FetchStatus = 3
system_place XactState = 4
system_place ErrorNumber = 5
system_place ErrorSeverity = 6
system_place ErrorState = 7
system_place ErrorLine = 8
system_place ErrorMessage = 9
system_place ErrorProcedure = 10

abbrev pub value_at : List Value → ℕ → Value
value_at values place = get_or values place Null

-- the rows that an inner query gave
abbrev pub rows_at : List (List (List Value)) → ℕ → List (List Value)
rows_at inner place = get_or inner place []

-- the value of a row of one column
abbrev pub only_of : List Value → Value
only_of row = value_at row 0

-- the rows as one value: NULL where there is none. Who answers an inner query that stands as a value comes
-- first and gives this error there, so it comes here only where that promise is broken.
abbrev pub scalar_of : List (List Value) → Outcome Value
scalar_of [] = Ok Null
scalar_of (row ∷ []) = Ok (only_of row)
scalar_of (row ∷ other ∷ rest) = Err several_rows
