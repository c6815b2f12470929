-- Worked rows of the reference's rules, over t (k INT PRIMARY KEY, j INT).
use Rattle.std.proofs.Common.{◌≡◌, false, true, refl, sym, ap, ◌∙◌, ℕ, ℤ, pos, Ok, Err, Some, None, List, [], ◌∷◌, rules}
use Rattle.std.specs.Prelude.{codes, length, ◌==◌}
use Rattle.value_types.specs.declared.sql_type.SqlType.{SqlType}
use Rattle.value_types.specs.declared.sql_type.SqlType.TheVariants.{Int, BigInt}
use Rattle.value_types.specs.declared.value.Value.TheVariants.{Whole}
use Rattle.tsql_tree.specs.declared.definition.ColumnTree.{ColumnTree}
use Rattle.tsql_tree.specs.declared.definition.Definition.{Definition}
use Rattle.tsql_tree.specs.declared.definition.Definition.TheVariants.{Table}
use Rattle.tsql_tree.specs.declared.definition.TableTree.{TableTree}
use Rattle.tsql_tree.specs.declared.query.CompareSign.TheVariants.{Greater}
use Rattle.tsql_tree.specs.declared.query.Expr.{Expr, fold-roll-Expr}
use Rattle.tsql_tree.specs.declared.query.Expr.TheVariants as expr
use Rattle.tsql_tree.specs.declared.query.Expr.TheOpen.{Expr-F, Test-F}
use Rattle.tsql_tree.specs.declared.query.Select.{Select}
use Rattle.tsql_tree.specs.declared.query.Test.{Test, fold-roll-Test}
use Rattle.tsql_tree.specs.declared.query.Test.TheVariants as test
use Rattle.tsql_tree.specs.declared.statement.Assignment.{Assignment}
use Rattle.tsql_tree.specs.declared.statement.InsertRows.{InsertRows}
use Rattle.tsql_tree.specs.declared.statement.InsertRows.TheVariants.{Values}
use Rattle.bound_tree.specs.declared.expr.BoundExpr.TheVariants as bound_expr
use Rattle.bound_tree.specs.declared.expr.BoundTest.TheVariants as bound_test
use Rattle.bound_tree.specs.declared.query.InnerQuery.{roll-InnerQuery}
use Rattle.bound_tree.specs.declared.write.Bound.TheVariants as bound
use Rattle.bound_tree.specs.declared.write.BoundWrite.TheVariants as write
use Rattle.typed_nodes.specs.Refusals.{Refusal, unnamed}
use Rattle.clause_binder.specs.declared.operand.Selected.{Selected}
use Rattle.clause_binder.specs.Bind as bind
use Rattle.clause_binder.specs.Operands.{items_of}
use Rattle.clause_binder.specs.Progress.{begin_at, plain}
use Rattle.clause_binder.specs.Scope.{invalid_column, syntax_error}
use Rattle.binder.specs.Values.{query_of_items, values_query}
use Rattle.binder.specs.Writes.{delete, inners_onto, insert, target, update, where_of, whole_table, wrong_count}
use Rattle.binder.specs.Tables.{create_table}

-- ---- tables

abbrev column : List ℕ → SqlType → ColumnTree
column name kind = record { name = name; kind = kind; required = true }

abbrev t : Definition
t = Table (record {
  name = codes "t";
  columns = column (codes "k") Int ∷ column (codes "j") Int ∷ [];
  key = record { name = codes "pk"; columns = codes "k" ∷ [] } ∷ [];
  uniques = [];
  checks = [];
  foreigns = [];
})

abbrev tables : List Definition
tables = t ∷ []

-- c (a, b) with this CHECK, of which a refers to t
abbrev child : SqlType → Test → TableTree
child kind check = record {
  name = codes "c";
  columns = column (codes "a") kind ∷ column (codes "b") Int ∷ [];
  key = record { name = codes "pk"; columns = codes "a" ∷ [] } ∷ [];
  uniques = [];
  checks = record { name = codes "ck"; test = check } ∷ [];
  foreigns = record { name = codes "fk"; columns = codes "a" ∷ []; parent = codes "t"; parent_columns = [] } ∷ [];
}

-- ---- parts, node by node

column_read : (definitions : List Definition) (name : List ℕ)
    → bind.expr_of definitions [] (expr.Column None name) ≡ bind.expr_step definitions [] (Expr-F.Column None name)
column_read definitions name = ap (bind.expr_of definitions []) (sym (expr.rolls-Column None name)) ∙ search (rules, fold-roll-Expr)

number_read : (definitions : List Definition) (n : ℤ) → bind.expr_of definitions [] (expr.Number n) ≡ bind.expr_step definitions [] (Expr-F.Number n)
number_read definitions n = ap (bind.expr_of definitions []) (sym (expr.rolls-Number n)) ∙ search (rules, fold-roll-Expr)

count_read : bind.expr_of tables [] expr.CountRows ≡ bind.expr_step tables [] Expr-F.CountRows
count_read = ap (bind.expr_of tables []) (sym expr.rolls-CountRows) ∙ search (rules, fold-roll-Expr)

compare_read : (definitions : List Definition) (a b : Expr) → bind.test_of definitions [] (test.Compare a Greater b)
    ≡ bind.test_step definitions [] (Test-F.Compare (bind.expr_of definitions [] a) Greater (bind.expr_of definitions [] b))
compare_read definitions a b = ap (bind.test_of definitions []) (sym (test.rolls-Compare a Greater b)) ∙ search (rules, fold-roll-Test)

exists_read : (select : Select) → bind.test_of tables [] (test.Exists select) ≡ bind.test_step tables [] (Test-F.Exists (bind.query_of tables [] select))
exists_read select = ap (bind.test_of tables []) (sym (test.rolls-Exists select)) ∙ search (rules, fold-roll-Test)

-- ---- INSERT

-- INSERT t VALUES (..): one value for two columns, whatever it is
too_few_values : (value : Expr) → insert tables [] (codes "t") [] (Values ((value ∷ []) ∷ [])) ≡ unnamed wrong_count
too_few_values value = refl

-- INSERT t (x) ..: the columns come before the values
unknown_column : (rows : InsertRows) → insert tables [] (codes "t") (codes "x" ∷ []) rows ≡ Err (invalid_column, codes "x")
unknown_column rows = refl

-- ---- UPDATE

-- what WHERE is refused for stands before all that is set
where_first : (sets : List Assignment) (filter : Test) (refusal : Refusal)
    → where_of tables [] (Some filter) (plain (target tables [] (codes "t") ∷ [])) (begin_at (inners_onto tables [] 0 sets)) ≡ Err refusal
    → update tables [] (codes "t") sets (Some filter) ≡ Err refusal
where_first sets filter refusal is = rw is refl

-- UPDATE t SET x = ..: the column comes before its expression
column_first : (value : Expr) → update tables [] (codes "t") (record { name = codes "x"; value = value } ∷ []) None ≡ Err (invalid_column, codes "x")
column_first value = refl

-- ---- DELETE

-- DELETE t WHERE EXISTS (..)
exists_deleted : (select : Select) (selected : Selected) → bind.query_of tables [] select ≡ Ok selected
    → selected.count ≡ 0 → selected.beyond ≡ false → selected.assigns ≡ false → (length (items_of selected.query) == 0) ≡ false
    → delete tables [] (codes "t") (Some (test.Exists select))
    ≡ Ok (record {
      bound = bound.Write (write.Delete (whole_table (codes "t")) (Some (bound_test.Exists 0)) (roll-InnerQuery (record { query = selected.query; single = false }) ∷ []));
      beyond = false;
    })
exists_deleted select selected is none within reads gives = rw (exists_read select) (rw is (rw none (rw within (rw reads (rw gives refl)))))

-- ---- CREATE TABLE

abbrev positive : List ℕ → Test
positive name = test.Compare (expr.Column None name) Greater (expr.Number (pos 0))

-- c (a INT PRIMARY KEY REFERENCES t CHECK (b > 0), b INT)
check_of_another_column : create_table tables (child Int (positive (codes "b"))) ≡ Ok false
check_of_another_column = rw (compare_read [] (expr.Column None (codes "b")) (expr.Number (pos 0))) (rw (column_read [] (codes "b")) (rw (number_read [] (pos 0)) refl))

check_of_no_column : create_table tables (child Int (positive (codes "x"))) ≡ Err (invalid_column, codes "x")
check_of_no_column = rw (compare_read [] (expr.Column None (codes "x")) (expr.Number (pos 0))) (rw (column_read [] (codes "x")) refl)

-- a BIGINT refers to an INT
key_of_another_type : create_table tables (child BigInt (positive (codes "b"))) ≡ Ok true
key_of_another_type = rw (compare_read [] (expr.Column None (codes "b")) (expr.Number (pos 0))) (rw (column_read [] (codes "b")) (rw (number_read [] (pos 0)) refl))

-- ---- values

-- RETURN 7
returned_value : values_query tables [] (expr.Number (pos 7) ∷ [])
    ≡ Ok (record { bound = bound.Query (query_of_items (record { name = []; kind = Int; expr = bound_expr.Constant (Whole (pos 7)) } ∷ []) []); beyond = false })
returned_value = rw (number_read tables (pos 7)) refl

-- PRINT COUNT(*)
printed_aggregate : values_query tables [] (expr.CountRows ∷ []) ≡ Err (syntax_error, codes "COUNT")
printed_aggregate = rw count_read refl
