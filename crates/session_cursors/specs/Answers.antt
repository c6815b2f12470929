-- Transact-SQL reference, "OPEN" and "FETCH": what is left of the answer of an open cursor. The cursor is static: the rows are those
-- that its query had when it was opened.
use Rattle.std.specs.Prelude.{List, [], ◌∷◌}
use Rattle.value_types.specs.declared.sql_type.SqlType.{SqlType}
use Rattle.value_types.specs.declared.value.Value.{Value}
use Rattle.value_types.specs.Types.{IsOf}

-- the types of the columns, and the rows that are still to come
pub record AnswerLeft : Type 0 where
  pub kinds : List SqlType
  pub rows : List (List Value)

-- a value for each type, NULL or of it, and no more
abbrev pub HasKinds : List SqlType → List Value → Type 0
HasKinds [] [] = Unit {0}
HasKinds [] (value ∷ row) = ⊥
HasKinds (kind ∷ kinds) [] = ⊥
HasKinds (kind ∷ kinds) (value ∷ row) = IsOf kind value × HasKinds kinds row
