-- Transact-SQL reference, "INSERT", "UPDATE" and "DELETE": what they are bound to. INSERT's columns come first, then the
-- number of values of each row, then the expressions, or the select and then the number of its items. UPDATE's WHERE
-- comes before what is set, though it stands behind it in the text, by whose order inner queries are numbered.
use Rattle.std.specs.Prelude.{ℕ, zero, suc, min, ℤ, pos, Bool, false, ◌||◌, nat_eq, if◌then◌else◌, List, [], ◌∷◌, ◌++◌, length, map, Option, Some, None, Ok, Err}
use Rattle.std.specs.List.{list_any, list_all}
use Rattle.value_types.specs.Units.{same_units}
use Rattle.value_types.specs.declared.table_name.TableName.{TableName}
use Rattle.session_vars.specs.declared.Variable.{Variable}
use Rattle.tsql_tree.specs.declared.definition.ColumnTree.{ColumnTree}
use Rattle.tsql_tree.specs.declared.definition.Definition.{Definition}
use Rattle.tsql_tree.specs.declared.query.Expr.{Expr}
use Rattle.tsql_tree.specs.declared.query.Test.{Test}
use Rattle.tsql_tree.specs.declared.statement.Assignment.{Assignment}
use Rattle.tsql_tree.specs.declared.statement.InsertRows.{InsertRows}
use Rattle.tsql_tree.specs.declared.statement.InsertRows.TheVariants.{Values, Query}
use Rattle.tsql_tree.specs.Places.{max_place, place_in}
use Rattle.bound_tree.specs.declared.expr.BoundExpr.{BoundExpr}
use Rattle.bound_tree.specs.declared.expr.BoundTest.{BoundTest}
use Rattle.bound_tree.specs.declared.query.InnerQuery.{InnerQuery}
use Rattle.bound_tree.specs.declared.write.Bound.TheVariants as bound
use Rattle.bound_tree.specs.declared.write.BoundRows.TheVariants as rows
use Rattle.bound_tree.specs.declared.write.BoundSet.{BoundSet}
use Rattle.bound_tree.specs.declared.write.BoundWrite.TheVariants as write
use Rattle.typed_nodes.specs.Refusals.{Outcome, after, unnamed}
use Rattle.clause_binder.specs.declared.operand.Selected.{Selected}
use Rattle.clause_binder.specs.declared.progress.Progress.{Progress}
use Rattle.clause_binder.specs.Scope.{TableSource, behind, columns_of, invalid_column, max_columns, table_of}
use Rattle.clause_binder.specs.Progress.{Binding, and_then, begin_at, beyond_where, plain, pure}
use Rattle.clause_binder.specs.Operands.{items_of}
use Rattle.clause_binder.specs.Clauses.{set_aside, whole, whole_test}
use Rattle.clause_binder.specs.Bind.{expr_of, query_of, test_of}
use Rattle.binder.specs.declared.made.Made.{Made}
use Rattle.binder.specs.Limits.{made_of}

-- the number of values is not the number of columns
abbrev pub wrong_count : ℤ
wrong_count = pos 213

-- a name stands twice
abbrev pub is_repeated : List (List ℕ) → Bool
is_repeated [] = false
is_repeated (name ∷ rest) = list_any (same_units name) rest || is_repeated rest

-- ---- columns

abbrev pub place_or_refusal : List ℕ → Option ℕ → Outcome ℕ
place_or_refusal name None = Err (invalid_column, name)
place_or_refusal name (Some place) = Ok place

abbrev pub column_place : List ColumnTree → List ℕ → Outcome ℕ
column_place columns name = place_or_refusal name (place_in columns name)

-- the places of columns, behind others
abbrev pub places_onto : List ColumnTree → List ℕ → List (List ℕ) → Outcome (List ℕ)
places_onto columns before [] = Ok before
places_onto columns before (name ∷ rest) = after (column_place columns name) (λ place. places_onto columns (before ++ place ∷ []) rest)

-- ---- INSERT

-- the places below a count
abbrev pub first_places : ℕ → List ℕ
first_places zero = []
first_places (suc count) = first_places count ++ count ∷ []

-- all places in order, as far as a tree can name them
abbrev pub all_places : List ColumnTree → List ℕ
all_places columns = first_places (min max_place (length columns))

-- the columns that are given: those of the list, or all in their order
abbrev pub given_places : List ColumnTree → List (List ℕ) → Outcome (List ℕ)
given_places columns [] = Ok (all_places columns)
given_places columns (name ∷ rest) = places_onto columns [] (name ∷ rest)

-- of more items than an answer has it is only known that they are more (own)
abbrev pub items_counted : ℕ → ℕ
items_counted count = min (suc max_columns) count

abbrev pub whole_table : List ℕ → TableName
whole_table name = record { object = name; part = 0 }

abbrev pub values_inserted : List ℕ → List ℕ → List (List BoundExpr) → Progress → Made
values_inserted table places values done = made_of (bound.Write (write.Insert (whole_table table) places (rows.Values values done.inner))) done

abbrev pub insert_selected : List ℕ → List ℕ → Bool → Selected → Outcome Made
insert_selected table places twice select =
    if nat_eq (items_counted (length (items_of select.query))) (items_counted (length places))
    then Ok (record {
      bound = bound.Write (write.Insert (whole_table table) places (rows.Query select.query));
      beyond = (select.beyond || select.assigns) || twice;
    })
    else unnamed wrong_count

-- ---- UPDATE and DELETE

-- what is set stands in front of WHERE in the text, so its inner queries do
abbrev pub update_made : List ℕ → List BoundSet → Option BoundTest → List InnerQuery → Progress → Made
update_made table sets filter aside done = made_of (bound.Write (write.Update (whole_table table) sets filter (done.inner ++ aside))) done

abbrev pub delete_made : List ℕ → Option BoundTest → Progress → Made
delete_made table filter done = made_of (bound.Write (write.Delete (whole_table table) filter done.inner)) done

abbrev pub is_set_twice : List Assignment → Bool
is_set_twice sets = is_repeated (map (λ set. set.name) sets)

-- ---- what is bound

module _ (definitions : List Definition) (vars : List Variable) where
  abbrev pub value_of : Expr → Binding BoundExpr
  value_of expr = whole (expr_of definitions vars expr).read.bind

  abbrev pub row_onto : List BoundExpr → List Expr → Binding (List BoundExpr)
  row_onto before [] = pure before
  row_onto before (expr ∷ rest) = and_then (value_of expr) (λ a. row_onto (before ++ a ∷ []) rest)

  abbrev pub rows_onto : List (List BoundExpr) → List (List Expr) → Binding (List (List BoundExpr))
  rows_onto before [] = pure before
  rows_onto before (row ∷ rest) = and_then (row_onto [] row) (λ a. rows_onto (before ++ a ∷ []) rest)

  abbrev pub insert_values : List ℕ → List ℕ → Bool → List (List Expr) → Outcome Made
  insert_values table places twice values =
      if list_all (λ row. nat_eq (length row) (length places)) values
      then after (rows_onto [] values (plain []) (beyond_where twice (begin_at 0))) (λ r. Ok (values_inserted table places r.0 r.1))
      else unnamed wrong_count

  abbrev pub insert_rows : List ℕ → List ℕ → Bool → InsertRows → Outcome Made
  insert_rows table places twice (Values values) = insert_values table places twice values
  insert_rows table places twice (Query select) = after (query_of definitions vars select) (insert_selected table places twice)

  abbrev pub insert : List ℕ → List (List ℕ) → InsertRows → Outcome Made
  insert table columns given = after (given_places (columns_of (table_of table definitions)) columns)
      (λ places. insert_rows table places (is_repeated columns) given)

  -- the rows that are written: those of the table, under its own name
  abbrev pub target : List ℕ → TableSource
  target table = record { name = table; columns = columns_of (table_of table definitions) }

  abbrev pub test_whole : Test → Binding BoundTest
  test_whole test = whole_test (test_of definitions vars test).bind

  abbrev pub where_of : Option Test → Binding (Option BoundTest)
  where_of None = pure None
  where_of (Some test) = and_then (test_whole test) (λ a. pure (Some a))

  -- the column before its expression
  abbrev pub set_of : List ColumnTree → Assignment → Binding BoundSet
  set_of columns set at done = after (column_place columns set.name)
      (λ place. after (value_of set.value at done) (λ r. Ok (record { place = place; expr = r.0 }, r.1)))

  abbrev pub sets_onto : List ColumnTree → List BoundSet → List Assignment → Binding (List BoundSet)
  sets_onto columns before [] = pure before
  sets_onto columns before (set ∷ rest) = and_then (set_of columns set) (λ a. sets_onto columns (before ++ a ∷ []) rest)

  -- how many inner queries stand in what is set, behind others
  abbrev pub inners_onto : ℕ → List Assignment → ℕ
  inners_onto before [] = before
  inners_onto before (set ∷ rest) = inners_onto (behind before (expr_of definitions vars set.value).read.inside.inners) rest

  abbrev pub update : List ℕ → List Assignment → Option Test → Outcome Made
  update table sets filter =
      let source = target table in
      after (where_of filter (plain (source ∷ [])) (begin_at (inners_onto 0 sets))) (λ test.
      after (sets_onto source.columns [] sets (plain (source ∷ [])) (set_aside test.1)) (λ set.
      Ok (update_made table set.0 test.0 test.1.inner (beyond_where (is_set_twice sets) set.1))))

  abbrev pub delete : List ℕ → Option Test → Outcome Made
  delete table filter = after (where_of filter (plain (target table ∷ [])) (begin_at 0)) (λ test. Ok (delete_made table test.0 test.1))
