-- What a statement is bound to, what a table's CHECKs are, and the table that CREATE makes, are refused by usual numbers alone.
use Rattle.std.proofs.Common.{refl, ℕ, List, [], ◌∷◌, ◌++◌, Option, Some, None, Bool, true, false, Ok, Err}
use Rattle.std.specs.Prelude.{◌||◌, filter_map, length, nat_eq, is_some}
use Rattle.std.specs.List.{list_all}
use Rattle.session_vars.specs.declared.Variable.{Variable}
use Rattle.tsql_tree.specs.declared.definition.CheckTree.{CheckTree}
use Rattle.tsql_tree.specs.declared.definition.ColumnTree.{ColumnTree}
use Rattle.tsql_tree.specs.declared.definition.Definition.{Definition}
use Rattle.tsql_tree.specs.declared.definition.ForeignTree.{ForeignTree}
use Rattle.tsql_tree.specs.declared.definition.KeyTree.{KeyTree}
use Rattle.tsql_tree.specs.declared.definition.TableTree.{TableTree}
use Rattle.tsql_tree.specs.declared.query.Expr.{Expr}
use Rattle.tsql_tree.specs.declared.query.Test.{Test}
use Rattle.tsql_tree.specs.declared.statement.Assignment.{Assignment}
use Rattle.tsql_tree.specs.declared.statement.Form.{Form-F}
use Rattle.tsql_tree.specs.declared.statement.InsertRows.{InsertRows}
use Rattle.tsql_tree.specs.declared.statement.InsertRows.TheVariants.{Values, Query}
use Rattle.tsql_tree.specs.declared.statement.Statement.{Statement}
use Rattle.tsql_tree.specs.Places.{place_in}
use Rattle.bound_tree.specs.declared.expr.BoundExpr.{BoundExpr}
use Rattle.bound_tree.specs.declared.expr.BoundTest.{BoundTest}
use Rattle.bound_tree.specs.declared.query.Item.{Item}
use Rattle.bound_tree.specs.declared.write.BoundSet.{BoundSet}
use Rattle.table_names.specs.Contents.{Names, distinct_onto}
use Rattle.clause_binder.specs.Scope.{columns_of, table_of}
use Rattle.clause_binder.specs.Progress.{begin_at, beyond_where, plain, pure}
use Rattle.clause_binder.specs.Operands.{items_of}
use Rattle.clause_binder.specs.Clauses.{noted, noted_test, set_aside}
use Rattle.clause_binder.specs.Bind.{expr_of, query_of, test_of}
use Rattle.binder.specs.Limits.{is_beyond, within_limits}
use Rattle.binder.specs.Names.{Layer, all_tables, form_of, table_names}
use Rattle.binder.specs.Statements.{bind, bind_checks, made_by, maybe_expr, names_outside, plain_made, select_made}
use Rattle.binder.specs.Tables.{all_columns, all_foreigns, all_keys, checks_of, checks_onto, create_table, foreign_columns, has_column, is_odd_table, parent_of, row_context}
use Rattle.binder.specs.Values.{one_or_zero, test_onto, test_query, three_query, value_onto, values_made, values_onto, values_query, with_value}
use Rattle.binder.specs.Writes.{column_place, delete, delete_made, given_places, insert, insert_rows, insert_selected, inners_onto, is_repeated, items_counted, place_or_refusal, places_onto, row_onto, rows_onto, set_of, sets_onto, target, test_whole, update, value_of, values_inserted, where_of}
use Rattle.cause_laws.proofs.UsualBinding.{Binds, Bounds, binds_pure, binds_then, bounds_after, bounds_if}
use Rattle.cause_laws.proofs.UsualTrees.{binds_expr, binds_test, bounds_query}

bounds_within : {A : Type 0} (beyond : Bool) (a : A) → Bounds (within_limits beyond a)
bounds_within true a = refl
bounds_within false a = tt

-- ---- names

bounds_tables : (definitions : List Definition) (names : Names) → Bounds (all_tables definitions names)
bounds_tables definitions [] = tt
bounds_tables definitions (name ∷ rest) = bounds_if (is_some (table_of name definitions)) (all_tables definitions rest) (Err _) (bounds_tables definitions rest) refl

bounds_columns : (columns : List ColumnTree) (names : List (List ℕ)) → Bounds (all_columns columns names)
bounds_columns columns [] = tt
bounds_columns columns (name ∷ rest) = bounds_if (has_column columns name) (all_columns columns rest) (Err _) (bounds_columns columns rest) refl

bounds_place : (columns : List ColumnTree) (name : List ℕ) → Bounds (column_place columns name)
bounds_place columns name = by_place (place_in columns name)
  where
    by_place : (place : Option ℕ) → Bounds (place_or_refusal name place)
    by_place None = refl
    by_place (Some place) = tt

bounds_places : (columns : List ColumnTree) (before : List ℕ) (names : List (List ℕ)) → Bounds (places_onto columns before names)
bounds_places columns before [] = tt
bounds_places columns before (name ∷ rest) = bounds_after (column_place columns name) (λ place. places_onto columns (before ++ place ∷ []) rest) (bounds_place columns name) (λ place. bounds_places columns (before ++ place ∷ []) rest)

bounds_given : (columns : List ColumnTree) (names : List (List ℕ)) → Bounds (given_places columns names)
bounds_given columns [] = tt
bounds_given columns (name ∷ rest) = bounds_places columns [] (name ∷ rest)

-- ---- values and tests

module _ (definitions : List Definition) (vars : List Variable) where
  binds_value : (before : List Item) (expr : Expr) → Binds (value_onto definitions vars before expr)
  binds_value before expr at done = bounds_after ((expr_of definitions vars expr).read.bind at done) (λ a. Ok (with_value before a.0 a.1)) (binds_expr definitions vars expr at done) (λ a. tt)

  binds_values : (before : List Item) (exprs : List Expr) → Binds (values_onto definitions vars before exprs)
  binds_values before [] = binds_pure before
  binds_values before (expr ∷ rest) = binds_then (value_onto definitions vars before expr) (λ items. values_onto definitions vars items rest) (binds_value before expr) (λ items. binds_values items rest)

  bounds_values : (exprs : List Expr) → Bounds (values_query definitions vars exprs)
  bounds_values exprs = bounds_after (values_onto definitions vars [] exprs (plain []) (begin_at 0)) (λ r. Ok (values_made r.0 r.1)) (binds_values [] exprs (plain []) (begin_at 0)) (λ r. tt)

  bounds_three : (first second third : Expr) → Bounds (three_query definitions vars first second third)
  unfolding three_query
  bounds_three first second third = bounds_values (first ∷ second ∷ third ∷ [])

  bounds_test : (test : Test) → Bounds (test_query definitions vars test)
  bounds_test test = bounds_after (test_onto definitions vars [] test (plain []) (begin_at 0)) (λ r. Ok (values_made r.0 r.1))
      (bounds_after ((test_of definitions vars test).bind (plain []) (begin_at 0)) (λ a. Ok (with_value [] (one_or_zero a.0) a.1)) (binds_test definitions vars test (plain []) (begin_at 0)) (λ a. tt)) (λ r. tt)

  -- ---- INSERT, UPDATE and DELETE

  binds_whole : (expr : Expr) → Binds (value_of definitions vars expr)
  binds_whole expr at done = bounds_after ((expr_of definitions vars expr).read.bind at done) (λ r. Ok (noted r.0 r.1)) (binds_expr definitions vars expr at done) (λ r. tt)

  binds_whole_test : (test : Test) → Binds (test_whole definitions vars test)
  binds_whole_test test at done = bounds_after ((test_of definitions vars test).bind at done) (λ r. Ok (noted_test r.0 r.1)) (binds_test definitions vars test at done) (λ r. tt)

  binds_row : (before : List BoundExpr) (row : List Expr) → Binds (row_onto definitions vars before row)
  binds_row before [] = binds_pure before
  binds_row before (expr ∷ rest) = binds_then (value_of definitions vars expr) (λ a. row_onto definitions vars (before ++ a ∷ []) rest) (binds_whole expr) (λ a. binds_row (before ++ a ∷ []) rest)

  binds_rows : (before : List (List BoundExpr)) (rows : List (List Expr)) → Binds (rows_onto definitions vars before rows)
  binds_rows before [] = binds_pure before
  binds_rows before (row ∷ rest) = binds_then (row_onto definitions vars [] row) (λ a. rows_onto definitions vars (before ++ a ∷ []) rest) (binds_row [] row) (λ a. binds_rows (before ++ a ∷ []) rest)

  bounds_inserted : (table places : List ℕ) (twice : Bool) (given : InsertRows) → Bounds (insert_rows definitions vars table places twice given)
  bounds_inserted table places twice (Values values) = bounds_if (list_all (λ row. nat_eq (length row) (length places)) values) _ _
      (bounds_after (rows_onto definitions vars [] values (plain []) (beyond_where twice (begin_at 0))) (λ r. Ok (values_inserted table places r.0 r.1)) (binds_rows [] values (plain []) (beyond_where twice (begin_at 0))) (λ r. tt)) refl
  bounds_inserted table places twice (Query select) = bounds_after (query_of definitions vars select) (insert_selected table places twice) (bounds_query definitions vars select)
      (λ s. bounds_if (nat_eq (items_counted (length (items_of s.query))) (items_counted (length places))) _ _ tt refl)

  bounds_insert : (table : List ℕ) (columns : List (List ℕ)) (given : InsertRows) → Bounds (insert definitions vars table columns given)
  bounds_insert table columns given = bounds_after (given_places (columns_of (table_of table definitions)) columns) (λ places. insert_rows definitions vars table places (is_repeated columns) given) (bounds_given (columns_of (table_of table definitions)) columns)
      (λ places. bounds_inserted table places (is_repeated columns) given)

  binds_where : (filter : Option Test) → Binds (where_of definitions vars filter)
  binds_where None = binds_pure {A = Option BoundTest} None
  binds_where (Some test) = binds_then (test_whole definitions vars test) (λ a. pure (Some a)) (binds_whole_test test) (λ a. binds_pure (Some a))

  binds_sets : (columns : List ColumnTree) (before : List BoundSet) (sets : List Assignment) → Binds (sets_onto definitions vars columns before sets)
  binds_sets columns before [] = binds_pure before
  binds_sets columns before (set ∷ rest) = binds_then (set_of definitions vars columns set) (λ a. sets_onto definitions vars columns (before ++ a ∷ []) rest)
      (λ at done. bounds_after (column_place columns set.name) _ (bounds_place columns set.name) (λ place. bounds_after (value_of definitions vars set.value at done) (λ r. Ok (record { place = place; expr = r.0 }, r.1)) (binds_whole set.value at done) (λ r. tt)))
      (λ a. binds_sets columns (before ++ a ∷ []) rest)

  bounds_update : (table : List ℕ) (sets : List Assignment) (filter : Option Test) → Bounds (update definitions vars table sets filter)
  bounds_update table sets filter = bounds_after (where_of definitions vars filter (plain (target definitions vars table ∷ [])) (begin_at (inners_onto definitions vars 0 sets))) _ (binds_where filter (plain (target definitions vars table ∷ [])) (begin_at (inners_onto definitions vars 0 sets)))
      (λ test. bounds_after (sets_onto definitions vars (target definitions vars table).columns [] sets (plain (target definitions vars table ∷ [])) (set_aside test.1)) _ (binds_sets (target definitions vars table).columns [] sets (plain (target definitions vars table ∷ [])) (set_aside test.1)) (λ set. tt))

  bounds_delete : (table : List ℕ) (filter : Option Test) → Bounds (delete definitions vars table filter)
  bounds_delete table filter = bounds_after (where_of definitions vars filter (plain (target definitions vars table ∷ [])) (begin_at 0)) (λ test. Ok (delete_made table test.0 test.1)) (binds_where filter (plain (target definitions vars table ∷ [])) (begin_at 0)) (λ test. tt)

-- ---- tables

binds_checks : (definitions : List Definition) (vars : List Variable) (before : List BoundTest) (checks : List CheckTree) → Binds (checks_onto definitions vars before checks)
binds_checks definitions vars before [] = binds_pure before
binds_checks definitions vars before (check ∷ rest) = binds_then (test_whole definitions vars check.test) (λ a. checks_onto definitions vars (before ++ a ∷ []) rest) (binds_whole_test definitions vars check.test) (λ a. binds_checks definitions vars (before ++ a ∷ []) rest)

bounds_checks_of : (table : TableTree) → Bounds (checks_of table)
bounds_checks_of table = binds_checks [] [] [] table.checks (row_context table) (begin_at 0)

-- what a table's CHECKs are bound to
pub bounds_checks : (table : TableTree) → Bounds (bind_checks table)
bounds_checks table = bounds_after (checks_of table) (λ checks. within_limits (is_beyond checks.1) checks.0) (bounds_checks_of table) (λ checks. bounds_within (is_beyond checks.1) checks.0)

bounds_keys : (columns : List ColumnTree) (keys : List KeyTree) → Bounds (all_keys columns keys)
bounds_keys columns [] = tt
bounds_keys columns (key ∷ rest) = bounds_after (all_columns columns key.columns) (λ known. all_keys columns rest) (bounds_columns columns key.columns) (λ known. bounds_keys columns rest)

bounds_foreigns : (definitions : List Definition) (table : TableTree) (foreigns : List ForeignTree) → Bounds (all_foreigns definitions table foreigns)
bounds_foreigns definitions table [] = tt
bounds_foreigns definitions table (foreign ∷ rest) = bounds_after (foreign_columns definitions table foreign) (λ known. all_foreigns definitions table rest)
    (bounds_after (all_columns table.columns foreign.columns) _ (bounds_columns table.columns foreign.columns) (λ known. bounds_columns (columns_of (parent_of definitions table foreign)) foreign.parent_columns))
    (λ known. bounds_foreigns definitions table rest)

bounds_create : (definitions : List Definition) (table : TableTree) → Bounds (create_table definitions table)
bounds_create definitions table =
    bounds_after (all_keys table.columns table.key) _ (bounds_keys table.columns table.key) (λ keys.
    bounds_after (all_keys table.columns table.uniques) _ (bounds_keys table.columns table.uniques) (λ uniques.
    bounds_after (checks_of table) _ (bounds_checks_of table) (λ checks.
    bounds_after (all_foreigns definitions table table.foreigns) (λ foreigns. Ok (is_beyond checks.1 || is_odd_table definitions table)) (bounds_foreigns definitions table table.foreigns) (λ foreigns. tt))))

-- ---- statements

module _ (definitions : List Definition) (vars : List Variable) where
  bounds_made : (form : Layer) → Bounds (made_by definitions vars form)
  bounds_made (Form-F.Select select) = bounds_after (query_of definitions vars select) (λ s. Ok (select_made s)) (bounds_query definitions vars select) (λ s. tt)
  bounds_made (Form-F.Insert table columns rows) = bounds_insert definitions vars table columns rows
  bounds_made (Form-F.Update table sets filter) = bounds_update definitions vars table sets filter
  bounds_made (Form-F.Delete table filter) = bounds_delete definitions vars table filter
  bounds_made (Form-F.CreateTable table text) = bounds_after (create_table definitions table) (λ beyond. Ok (plain_made beyond)) (bounds_create definitions table) (λ beyond. tt)
  bounds_made (Form-F.If test so otherwise) = bounds_test definitions vars test
  bounds_made (Form-F.While test body) = bounds_test definitions vars test
  bounds_made (Form-F.Print text) = bounds_values definitions vars (text ∷ [])
  bounds_made (Form-F.RaiseError text severity state) = bounds_three definitions vars text severity state
  bounds_made (Form-F.Return value) = bounds_values definitions vars (maybe_expr value)
  bounds_made (Form-F.Throw number text state) = bounds_three definitions vars number text state
  bounds_made (Form-F.Declare declarations) = bounds_values definitions vars (filter_map (λ of. of.initial) declarations)
  bounds_made (Form-F.SetVariable name value) = bounds_values definitions vars (value ∷ [])
  bounds_made form = tt

  -- what a statement is bound to
  pub bounds_statement : (statement : Statement) → Bounds (bind definitions vars statement)
  bounds_statement statement = bounds_after (all_tables definitions (distinct_onto [] (table_names (form_of statement)))) _ (bounds_tables definitions (distinct_onto [] (table_names (form_of statement))))
      (λ known. bounds_after (made_by definitions vars (form_of statement)) _ (bounds_made (form_of statement)) (λ made. bounds_within (made.beyond || names_outside vars (form_of statement)) made.bound))
