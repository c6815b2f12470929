-- Worked rows of the reference's rules, made node by node as the trees of texts are read.
use Rattle.std.proofs.Common.{◌≡◌, true, false, refl, ℕ, pos, negsuc, Ok, Err, Option, Some, None, List, [], ◌∷◌, rules}
use Rattle.std.specs.Prelude.{codes}
use Rattle.value_types.specs.declared.sql_type.SqlType.TheVariants.{Int, BigInt, NText}
use Rattle.value_types.specs.declared.value.Value.TheVariants.{Null, Whole, Text}
use Rattle.tsql_tree.specs.declared.definition.ColumnTree.{ColumnTree}
use Rattle.tsql_tree.specs.declared.definition.Definition.{Definition}
use Rattle.tsql_tree.specs.declared.definition.Definition.TheVariants.{Table}
use Rattle.tsql_tree.specs.declared.query.AddSign.TheVariants.{Plus, Minus}
use Rattle.tsql_tree.specs.declared.query.MultiplySign.TheVariants.{Divide}
use Rattle.tsql_tree.specs.declared.query.CompareSign.TheVariants.{Equal}
use Rattle.tsql_tree.specs.declared.query.TableRef.{TableRef}
use Rattle.tsql_tree.specs.declared.query.Expr.TheOpen.{Expr-F, Item-F, Join-F, Test-F}
use Rattle.bound_tree.specs.declared.expr.BoundExpr.{BoundExpr}
use Rattle.bound_tree.specs.declared.expr.BoundExpr.TheVariants as expr
use Rattle.bound_tree.specs.declared.expr.BoundTest.TheVariants as test
use Rattle.bound_tree.specs.declared.expr.InfixOp.TheVariants as op
use Rattle.bound_tree.specs.declared.expr.CompareOp.TheVariants as by
use Rattle.bound_tree.specs.declared.query.BoundQuery.{roll-BoundQuery, the_lemmas}
use Rattle.bound_tree.specs.declared.query.Item.{Item}
use Rattle.bound_tree.specs.declared.query.JoinKind.TheVariants as joined
use Rattle.bound_tree.specs.declared.query.OrderKey.TheVariants as key
use Rattle.typed_nodes.specs.declared.expr.TypedArm.{TypedArm}
use Rattle.typed_nodes.specs.declared.expr.TypedExpr.{TypedExpr}
use Rattle.typed_nodes.specs.declared.test.TypedTest.{TypedTest}
use Rattle.typed_nodes.specs.Refusals.{Outcome, after}
use Rattle.clause_binder.specs.declared.operand.Selected.{Selected}
use Rattle.clause_binder.specs.Scope.{ambiguous_column, invalid_column, not_grouped, several_items, syntax_error}
use Rattle.clause_binder.specs.Progress.{Read, begin_at, is_deep, plain}
use Rattle.clause_binder.specs.Clauses.{ExprRead, FromRead, ItemRead, JoinRead, OrderRead, settled}
use Rattle.clause_binder.proofs.Sameness.{equal_is_same}
use Rattle.clause_binder.specs.Bind as bind

-- ---- the tables: t (k INT PRIMARY KEY, j INT), and u (k BIGINT)

abbrev pub int_column : List ℕ → ColumnTree
int_column name = record { name = name; kind = Int; required = true }

abbrev pub t : Definition
t = Table (record {
  name = codes "t";
  columns = int_column (codes "k") ∷ int_column (codes "j") ∷ [];
  key = record { name = codes "pk"; columns = codes "k" ∷ [] } ∷ [];
  uniques = [];
  checks = [];
  foreigns = [];
})

abbrev pub u : Definition
u = Table (record {
  name = codes "u";
  columns = record { name = codes "k"; kind = BigInt; required = true } ∷ [];
  key = record { name = codes "pk"; columns = codes "k" ∷ [] } ∷ [];
  uniques = [];
  checks = [];
  foreigns = [];
})

abbrev pub tables : List Definition
tables = t ∷ u ∷ []

-- ---- trees

abbrev pub node : Expr-F ExprRead ItemRead JoinRead (Read TypedTest) (Read TypedArm) bind.TermRead FromRead OrderRead (Outcome Selected) bind.TermRead → ExprRead
node = bind.expr_step tables []

abbrev tested : Test-F ExprRead ItemRead JoinRead (Read TypedTest) (Read TypedArm) bind.TermRead FromRead OrderRead (Outcome Selected) bind.TermRead → Read TypedTest
tested = bind.test_step tables []

abbrev pub number : ℕ → ExprRead
number n = node (Expr-F.Number (pos n))

abbrev text : List ℕ → ExprRead
text units = node (Expr-F.Text units)

abbrev null : ExprRead
null = node Expr-F.Null

abbrev pub column : List ℕ → ExprRead
column name = node (Expr-F.Column None name)

abbrev pub plus_one : ExprRead → ExprRead
plus_one a = node (Expr-F.Sum a (bind.term_step tables [] (record { sign = Plus; operand = number 1 }) ∷ []))

abbrev pub count_rows : ExprRead
count_rows = node Expr-F.CountRows

abbrev pub is_equal : ExprRead → ExprRead → Read TypedTest
is_equal a b = tested (Test-F.Compare a Equal b)

abbrev pub ref : List ℕ → TableRef
ref name = record { name = name; alias = None }

abbrev pub from_t : Option FromRead
from_t = Some (record { first = ref (codes "t"); joins = [] })

abbrev pub item : ExprRead → ItemRead
item a = bind.item_step tables [] (Item-F.Value a None)

abbrev pub item_named : ExprRead → List ℕ → ItemRead
item_named a name = bind.item_step tables [] (Item-F.Value a (Some name))

abbrev pub ordered_by : ExprRead → OrderRead
ordered_by a = bind.order_step tables [] (record { expr = a; descending = false })

abbrev select : List ItemRead → Option FromRead → Option (Read TypedTest) → List ExprRead → List OrderRead → Outcome Selected
select items from filter groups order = bind.select_step tables [] (record {
  distinct = false;
  top = None;
  items = items;
  from = from;
  filter = filter;
  groups = groups;
  having = None;
  order = order;
})

-- what an expression is bound to over the columns of t
abbrev over_t : {A : Type 0} → Read A → Outcome A
over_t a = after (a.bind (plain (record { name = codes "t"; columns = int_column (codes "k") ∷ int_column (codes "j") ∷ [] } ∷ [])) (begin_at 0)) (λ r. Ok r.0)

abbrev expr_over_t : ExprRead → Outcome BoundExpr
expr_over_t a = after (over_t a.read) (λ typed. Ok typed.expr)

abbrev pub one : BoundExpr
one = expr.Constant (Whole (pos 1))

-- ---- expressions

-- -7 / 2: the sign is the literal's
signed_operand : expr_over_t (node (Expr-F.Product (node (Expr-F.Signed (Minus ∷ []) (number 7)))
    (bind.factor_step tables [] (record { sign = Divide; operand = number 2 }) ∷ [])))
    ≡ Ok (expr.Infix op.Divide Int (expr.Constant (Whole (negsuc 6))) (expr.Constant (Whole (pos 2))))
signed_operand = refl

-- k + 1
sum_of_column : expr_over_t (plus_one (column (codes "k"))) ≡ Ok (expr.Infix op.Add Int (expr.Cell 0) one)
sum_of_column = refl

-- N'a' = NULL: a lone NULL is of the text's type, and nothing is converted
null_beside_text : after (over_t (is_equal (text (codes "a")) null)) (λ typed. Ok typed.test)
    ≡ Ok (test.Compare by.Equal (expr.Constant (Text (codes "a"))) (expr.Constant Null))
null_beside_text = refl

-- k IN (1, N'a'): typed pair by pair
types_of_a_list : after (over_t (tested (Test-F.InList (column (codes "k")) false (number 1 ∷ text (codes "a") ∷ [])))) (λ typed. Ok typed.test)
    ≡ Ok (test.InList Int (expr.Cell 0) (record { pair = Int; expr = one }
    ∷ record { pair = Int; expr = expr.Convert (NText 1) Int (expr.Constant (Text (codes "a"))) } ∷ []))
types_of_a_list = refl

-- 207 and 209
no_column : expr_over_t (column (codes "x")) ≡ Err (invalid_column, codes "x")
no_column = refl

two_columns : select (item (column (codes "k")) ∷ [])
    (Some (record { first = ref (codes "t"); joins = bind.join_step tables [] (Join-F.Comma (ref (codes "u"))) ∷ [] })) None [] []
    ≡ Err (ambiguous_column, codes "k")
two_columns = refl

-- ---- selects

abbrev pub column_item : List ℕ → ℕ → Item
column_item name place = record { name = name; kind = Int; expr = expr.Cell place }

-- SELECT 1
select_one : select (item (number 1) ∷ []) None None [] []
    ≡ Ok (record {
      query = roll-BoundQuery (record {
        refs = [];
        filter = None;
        grouped = false;
        groups = [];
        sums = [];
        having = None;
        items = record { name = []; kind = Int; expr = one } ∷ [];
        order = [];
        distinct = false;
        top = None;
        inner = [];
      });
      places = [];
      assigns = false;
      count = 0;
      beyond = false;
    })
select_one = refl

-- SELECT * FROM t
select_all : select (bind.item_step tables [] Item-F.All ∷ []) from_t None [] []
    ≡ Ok (record {
      query = roll-BoundQuery (record {
        refs = record { table = record { object = codes "t"; part = 0 }; width = 2; key = 0 ∷ []; join = joined.Cross; on = None } ∷ [];
        filter = None;
        grouped = false;
        groups = [];
        sums = [];
        having = None;
        items = column_item (codes "k") 0 ∷ column_item (codes "j") 1 ∷ [];
        order = [];
        distinct = false;
        top = None;
        inner = [];
      });
      places = [];
      assigns = false;
      count = 0;
      beyond = false;
    })
select_all = refl

-- SELECT k AS x FROM t ORDER BY x, 1, j: an alias, a number and a column
select_ordered : select (item_named (column (codes "k")) (codes "x") ∷ []) from_t None []
    (ordered_by (column (codes "x")) ∷ ordered_by (number 1) ∷ ordered_by (column (codes "j")) ∷ [])
    ≡ Ok (record {
      query = roll-BoundQuery (record {
        refs = record { table = record { object = codes "t"; part = 0 }; width = 2; key = 0 ∷ []; join = joined.Cross; on = None } ∷ [];
        filter = None;
        grouped = false;
        groups = [];
        sums = [];
        having = None;
        items = column_item (codes "x") 0 ∷ [];
        order = record { key = key.Item 0; descending = false } ∷ record { key = key.Item 0; descending = false }
            ∷ record { key = key.Expr (expr.Cell 1); descending = false } ∷ [];
        distinct = false;
        top = None;
        inner = [];
      });
      places = [];
      assigns = false;
      count = 0;
      beyond = false;
    })
select_ordered = refl

-- SELECT k, COUNT(*) FROM t: k is in no class's row
not_grouped_column : select (item (column (codes "k")) ∷ item count_rows ∷ []) from_t None [] [] ≡ Err (not_grouped, codes "k")
not_grouped_column = refl

-- SELECT 1 FROM t WHERE COUNT(*) = 1
aggregate_in_where : select (item (number 1) ∷ []) from_t (Some (is_equal count_rows (number 1))) [] [] ≡ Err (syntax_error, codes "COUNT")
aggregate_in_where = refl

-- SELECT (SELECT 1, 2)
two_items_of_a_value : select (item (node (Expr-F.Query (select (item (number 1) ∷ item (number 2) ∷ []) None None [] []))) ∷ []) None None [] []
    ≡ Err (several_items, [])
two_items_of_a_value = search (rules, the_lemmas)

-- SELECT k + 1 FROM t GROUP BY k + 1: what is one of GROUP BY's is grouped as a whole
grouped_whole : (a : TypedExpr) → is_deep a.facts ≡ false → settled (a.expr ∷ []) a ≡ record a { facts = record a.facts { loose = None } }
grouped_whole a shallow = rw shallow (rw (equal_is_same a.expr a.expr refl) refl)
