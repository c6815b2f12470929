-- Worked selects: what each clause sees, and which of its columns are grouped.
use Rattle.std.proofs.Common.{◌≡◌, ℕ, true, false, refl, Ok, Err, Option, Some, None, List, [], ◌∷◌, rules}
use Rattle.std.specs.Prelude.{codes}
use Rattle.value_types.specs.declared.sql_type.SqlType.TheVariants.{BigInt, Int}
use Rattle.tsql_tree.specs.declared.query.Expr.TheOpen.{Expr-F, Item-F, Join-F}
use Rattle.bound_tree.specs.declared.expr.BoundExpr.{BoundExpr, the_lemmas}
use Rattle.bound_tree.specs.declared.expr.BoundExpr.TheVariants as expr
use Rattle.bound_tree.specs.declared.expr.InfixOp.TheVariants as op
use Rattle.bound_tree.specs.declared.query.BoundQuery.{roll-BoundQuery}
use Rattle.bound_tree.specs.declared.query.JoinKind.TheVariants as joined
use Rattle.typed_nodes.specs.declared.test.TypedTest.{TypedTest}
use Rattle.typed_nodes.specs.Refusals.{Outcome}
use Rattle.clause_binder.specs.declared.operand.Selected.{Selected}
use Rattle.clause_binder.specs.Scope.{invalid_column, not_grouped}
use Rattle.clause_binder.specs.Progress.{Read}
use Rattle.clause_binder.specs.Clauses.{ExprRead, FromRead, ItemRead, JoinRead, OrderRead}
use Rattle.clause_binder.specs.Bind as bind
use Rattle.clause_binder.proofs.StandardFacts.{column, column_item, count_rows, from_t, is_equal, item, node, number, one, ordered_by, plus_one, ref, tables}

abbrev select : List ItemRead → Option FromRead → List ExprRead → Option (Read TypedTest) → List OrderRead → Outcome Selected
select items from groups having order = bind.select_step tables [] (record {
  distinct = false;
  top = None;
  items = items;
  from = from;
  filter = None;
  groups = groups;
  having = having;
  order = order;
})

abbrev k : ExprRead
k = column (codes "k")

abbrev j : ExprRead
j = column (codes "j")

-- SELECT COUNT(*) FROM t HAVING k = 1: the rows are one class, and k is in no GROUP BY
having_refused : select (item count_rows ∷ []) from_t [] (Some (is_equal k (number 1))) [] ≡ Err (not_grouped, codes "k")
having_refused = refl

-- SELECT COUNT(*) FROM t ORDER BY j
order_refused : select (item count_rows ∷ []) from_t [] None (ordered_by j ∷ []) ≡ Err (not_grouped, codes "j")
order_refused = refl

-- SELECT * FROM t GROUP BY k: each column of a `*` is looked at
star_refused : select (bind.item_step tables [] Item-F.All ∷ []) from_t (k ∷ []) None [] ≡ Err (not_grouped, codes "j")
star_refused = search (rules, the_lemmas)

abbrev from_both : List JoinRead → Option FromRead
from_both joins = Some (record { first = ref (codes "t"); joins = joins })

-- SELECT * FROM t, u: the columns of both, in the order of the tables
all_of_two : select (bind.item_step tables [] Item-F.All ∷ []) (from_both (bind.join_step tables [] (Join-F.Comma (ref (codes "u"))) ∷ [])) [] None []
    ≡ Ok (record {
      query = roll-BoundQuery (record {
        refs = record { table = record { object = codes "t"; part = 0 }; width = 2; key = 0 ∷ []; join = joined.Cross; on = None }
            ∷ record { table = record { object = codes "u"; part = 0 }; width = 1; key = 0 ∷ []; join = joined.Cross; on = None } ∷ [];
        filter = None;
        grouped = false;
        groups = [];
        sums = [];
        having = None;
        items = column_item (codes "k") 0 ∷ column_item (codes "j") 1 ∷ record { name = codes "k"; kind = BigInt; expr = expr.Cell 2 } ∷ [];
        order = [];
        distinct = false;
        top = None;
        inner = [];
      });
      places = [];
      assigns = false;
      count = 0;
      beyond = false;
    })
all_of_two = refl

abbrev named : List ℕ → List ℕ → ExprRead
named table name = node (Expr-F.Column (Some table) name)

-- SELECT 1 FROM t LEFT JOIN t AS a ON u.k = 1, u: an ON sees the tables up to its own
later_table : select (item (number 1) ∷ []) (from_both (
    bind.join_step tables [] (Join-F.Left (record { name = codes "t"; alias = Some (codes "a") }) (is_equal (named (codes "u") (codes "k")) (number 1)))
    ∷ bind.join_step tables [] (Join-F.Comma (ref (codes "u"))) ∷ [])) [] None []
    ≡ Err (invalid_column, codes "k")
later_table = refl

abbrev sum : BoundExpr
sum = expr.Infix op.Add Int (expr.Cell 0) one

-- SELECT k + 1 FROM t GROUP BY k + 1: what is one of GROUP BY's is grouped as a whole
sum_grouped : select (item (plus_one k) ∷ []) from_t (plus_one k ∷ []) None []
    ≡ Ok (record {
      query = roll-BoundQuery (record {
        refs = record { table = record { object = codes "t"; part = 0 }; width = 2; key = 0 ∷ []; join = joined.Cross; on = None } ∷ [];
        filter = None;
        grouped = true;
        groups = sum ∷ [];
        sums = [];
        having = None;
        items = record { name = []; kind = Int; expr = sum } ∷ [];
        order = [];
        distinct = false;
        top = None;
        inner = [];
      });
      places = [];
      assigns = false;
      count = 0;
      beyond = false;
    })
sum_grouped = search (rules, the_lemmas)
