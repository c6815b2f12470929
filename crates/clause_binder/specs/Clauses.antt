-- Transact-SQL reference, "SELECT", "FROM", "GROUP BY", "HAVING" and "ORDER BY": what the clauses of a select are
-- bound to, over what its expressions and tests are bound to. They are bound in the order FROM, WHERE, GROUP BY,
-- HAVING, items, ORDER BY, so that the first refusal in this order stands; inner queries are numbered in the order of the text, in
-- which items come first.
use Rattle.std.specs.Prelude.{ℕ, zero, suc, min, ℤ, pos, negsuc, Bool, true, false, not, ◌&&◌, ◌||◌, ◌==◌, nat_lt, nat_le, is_some, if◌then◌else◌, List, [], ◌∷◌, ◌++◌, length, map, take, position, slice_get, Option, Some, None, Ok, Err}
use Rattle.std.specs.List.{list_any}
use Rattle.session_vars.specs.declared.Variable.{Variable}
use Rattle.tsql_tree.specs.declared.definition.Definition.{Definition}
use Rattle.tsql_tree.specs.declared.definition.ColumnTree.{ColumnTree}
use Rattle.tsql_tree.specs.declared.query.TableRef.{TableRef}
use Rattle.tsql_tree.specs.Places.{key_places, max_place}
use Rattle.bound_tree.specs.declared.expr.BoundExpr.{BoundExpr}
use Rattle.bound_tree.specs.declared.expr.BoundExpr.TheVariants as bound
use Rattle.bound_tree.specs.declared.expr.BoundTest.{BoundTest}
use Rattle.bound_tree.specs.declared.query.BoundOrder.{BoundOrder}
use Rattle.bound_tree.specs.declared.query.BoundQuery.{roll-BoundQuery}
use Rattle.bound_tree.specs.declared.query.InnerQuery.{InnerQuery}
use Rattle.bound_tree.specs.declared.query.Item.{Item}
use Rattle.bound_tree.specs.declared.query.JoinKind.{JoinKind}
use Rattle.bound_tree.specs.declared.query.JoinKind.TheVariants as joined
use Rattle.bound_tree.specs.declared.query.OrderKey.{OrderKey}
use Rattle.bound_tree.specs.declared.query.OrderKey.TheVariants as key
use Rattle.bound_tree.specs.declared.query.Reference.{Reference}
use Rattle.clause_binder.specs.Same.{same_expr}
use Rattle.typed_nodes.specs.declared.facts.Facts.{Facts}
use Rattle.typed_nodes.specs.declared.expr.TypedExpr.{TypedExpr}
use Rattle.typed_nodes.specs.declared.test.TypedTest.{TypedTest}
use Rattle.typed_nodes.specs.Facts.{or_int}
use Rattle.typed_nodes.specs.Refusals.{Outcome, after}
use Rattle.clause_binder.specs.Scope.{TableSource, alias_of, are_beyond, has_name, is_meant, columns_in, columns_of, is_long, behind, max_columns, max_inner, max_sums, name_at, not_grouped, source_of, table_of, width_of}
use Rattle.clause_binder.specs.declared.inside.Inside.{Inside}
use Rattle.clause_binder.specs.declared.operand.Selected.{Selected}
use Rattle.clause_binder.specs.declared.named.NamedItems.{NamedItems}
use Rattle.clause_binder.specs.declared.from.JoinedTables.{JoinedTables}
use Rattle.clause_binder.specs.declared.front.FrontClauses.{FrontClauses}
use Rattle.clause_binder.specs.declared.back.BackClauses.{BackClauses}
use Rattle.clause_binder.specs.declared.shape.Shape.{Shape}
use Rattle.clause_binder.specs.declared.shape.Shape.TheVariants as shape
use Rattle.clause_binder.specs.declared.progress.Progress.{Progress}
use Rattle.clause_binder.specs.Progress.{Binding, Context, Read, all_onto, and_then, begin_at, beyond_where, is_deep, nothing, plain, pure}
use Rattle.clause_binder.specs.Operands.{cell, variable_of}

-- ---- what a clause sees of an expression

-- an expression: what it is, the name of the column that it is, parentheses apart, and what it is bound to
pub record ExprRead : Type 0 where
  pub shape : Shape
  pub called : Option (List ℕ)
  pub read : Read TypedExpr

pub data ItemRead : Type 0 where
  star : ItemRead
  star_of : List ℕ → ItemRead
  assigned : List ℕ → ExprRead → ItemRead
  valued : ExprRead → Option (List ℕ) → ItemRead

pub record JoinRead : Type 0 where
  pub of : TableRef
  pub kind : JoinKind
  pub on : Option (Read TypedTest)

pub record FromRead : Type 0 where
  pub first : TableRef
  pub joins : List JoinRead

pub record OrderRead : Type 0 where
  pub expr : ExprRead
  pub descending : Bool

pub record SelectRead : Type 0 where
  pub distinct : Bool
  pub top : Option ℤ
  pub items : List ItemRead
  pub from : Option FromRead
  pub filter : Option (Read TypedTest)
  pub groups : List ExprRead
  pub having : Option (Read TypedTest)
  pub order : List OrderRead

-- ---- what stands in the items and in ORDER BY

abbrev pub item_inside : ItemRead → Inside
item_inside star = nothing
item_inside (star_of name) = nothing
item_inside (assigned name a) = a.read.inside
item_inside (valued a alias) = a.read.inside

abbrev pub in_items : List ItemRead → Inside
in_items items = all_onto nothing (map item_inside items)

abbrev pub order_inside : OrderRead → Inside
order_inside order = order.expr.read.inside

abbrev pub in_order : List OrderRead → Inside
in_order order = all_onto nothing (map order_inside order)

-- ---- what is too deep

abbrev pub noted : TypedExpr → Progress → BoundExpr × Progress
noted a done = (a.expr, beyond_where (is_deep a.facts) done)

abbrev pub noted_test : TypedTest → Progress → BoundTest × Progress
noted_test a done = (a.test, beyond_where (is_deep a.facts) done)

-- a whole expression or test
abbrev pub whole : Binding TypedExpr → Binding BoundExpr
whole a at done = after (a at done) (λ r. Ok (noted r.0 r.1))

abbrev pub whole_test : Binding TypedTest → Binding BoundTest
whole_test a at done = after (a at done) (λ r. Ok (noted_test r.0 r.1))

-- ON and WHERE
abbrev pub filter_of : Option (Read TypedTest) → Binding (Option BoundTest)
filter_of None at done = Ok (None, done)
filter_of (Some of) at done = after (whole_test of.bind at done) (λ r. Ok (Some r.0, r.1))

-- ---- grouping

-- An expression that is one of GROUP BY's is grouped, whatever its parts are. What is too deep is left out of the
-- tree, so it is none of them (own).
abbrev pub settled : List BoundExpr → TypedExpr → TypedExpr
settled groups a = if not (is_deep a.facts) && list_any (same_expr a.expr) groups then record a { facts = record a.facts { loose = None } } else a

-- What is evaluated for each row that a select gives. In a grouped query rows are classes, in which aggregates stand
-- behind the columns.
abbrev pub class_context : Bool → List TableSource → List BoundExpr → Context
class_context grouped sources groups = record {
  sources = sources;
  groups = groups;
  sums_from = if grouped then Some (width_of sources) else None;
  row_alone = false;
}

abbrev pub loose_refused : List TableSource → Option ℕ → Outcome (Unit {0})
loose_refused sources None = Ok tt
loose_refused sources (Some place) = Err (not_grouped, name_at (slice_get (columns_in sources) place))

-- where rows are classes each column is grouped
abbrev pub grouped_from : Option ℕ → Option ℕ → List TableSource → Outcome (Unit {0})
grouped_from None loose sources = Ok tt
grouped_from (Some from) loose sources = loose_refused sources loose

abbrev pub grouped_or_refused : Facts → Context → Outcome (Unit {0})
grouped_or_refused facts at = grouped_from at.sums_from facts.loose at.sources

-- an item, HAVING or what rows are ordered by is looked at behind what it is bound to
abbrev pub looked_at : Facts → Binding (Unit {0})
looked_at facts at done = after (grouped_or_refused facts at) (λ ok. Ok (ok, beyond_where (is_deep facts) done))

-- ---- FROM

-- tables from left to right, as they are read, and as names mean them
abbrev pub no_tables : JoinedTables
no_tables = record { refs = []; sources = [] }

abbrev pub with_reference : JoinedTables → Reference → JoinedTables
with_reference before of = record before { refs = before.refs ++ of ∷ [] }

abbrev pub is_long_ref : TableRef → Bool
is_long_ref of = is_long (alias_of of)

module _ (definitions : List Definition) where
  abbrev pub reference : TableRef → JoinKind → Option BoundTest → Reference
  reference of kind on = record {
    table = record { object = of.name; part = 0 };
    width = min max_place (length (columns_of (table_of of.name definitions)));
    key = key_places (table_of of.name definitions);
    join = kind;
    on = on;
  }

  -- a table may be named as soon as it is joined
  abbrev pub with_source : JoinedTables → TableRef → JoinedTables
  with_source before of = record before { sources = before.sources ++ source_of definitions of ∷ [] }

  abbrev pub first_table : TableRef → JoinedTables
  first_table of = with_reference (with_source no_tables of) (reference of joined.Cross None)

  -- a table that is read under a test
  abbrev pub table_read : JoinedTables → TableRef → JoinKind → Option BoundTest → Progress → Outcome (JoinedTables × Progress)
  table_read tables of kind on done = Ok (with_reference tables (reference of kind on), beyond_where (is_long_ref of) done)

  -- ON sees the tables up to the one that is joined
  abbrev pub join_onto : JoinedTables → JoinRead → Progress → Outcome (JoinedTables × Progress)
  join_onto before join done = after (filter_of join.on (plain (with_source before join.of).sources) done)
      (λ r. table_read (with_source before join.of) join.of join.kind r.0 r.1)

  abbrev pub joins_onto : JoinedTables → List JoinRead → Progress → Outcome (JoinedTables × Progress)
  joins_onto before [] done = Ok (before, done)
  joins_onto before (join ∷ rest) done = after (join_onto before join done) (λ r. joins_onto r.0 rest r.1)

  abbrev pub from_of : Option FromRead → Progress → Outcome (JoinedTables × Progress)
  from_of None done = Ok (no_tables, done)
  from_of (Some from) done = joins_onto (first_table from.first) from.joins (beyond_where (is_long_ref from.first) done)

-- ---- items

abbrev pub no_items : NamedItems
no_items = record { items = []; aliases = []; places = []; assigns = false }

abbrev pub with_item : NamedItems → Item → Option (List ℕ) → NamedItems
with_item before item alias = record before { items = before.items ++ item ∷ []; aliases = before.aliases ++ alias ∷ [] }

abbrev pub item_of : List ℕ → TypedExpr → Item
item_of name a = record { name = name; kind = or_int a.facts.kind; expr = a.expr }

-- an item, behind what its expression is bound to; a name that is too long is refused in the end
abbrev pub value_item : List ℕ → Option (List ℕ) → NamedItems → TypedExpr → Binding NamedItems
value_item name alias before a at done = after (looked_at a.facts at done) (λ r. Ok (with_item before (item_of name a) alias, beyond_where (is_long name) r.1))

-- more items than an answer has are refused in the end; no column of a `*` is looked at behind them (own)
abbrev pub is_full : NamedItems → Bool
is_full before = nat_lt max_columns (length before.items)

-- a column that is not named, but taken as it comes
abbrev pub grouped_cell : List BoundExpr → ℕ → ColumnTree → TypedExpr
grouped_cell groups place column = settled groups (cell (record { place = place; kind = column.kind }))

-- the columns of a table, counted from a place on, each as an item
abbrev pub column_items : ℕ → List ColumnTree → NamedItems → Binding NamedItems
column_items place [] before at done = Ok (before, done)
column_items place (column ∷ rest) before at done = if is_full before then Ok (before, done) else
    after (value_item column.name None before (grouped_cell at.groups place column) at done) (λ r. column_items (behind place 1) rest r.0 at r.1)

-- those of a table that is meant
abbrev pub table_items : Option (List ℕ) → ℕ → TableSource → NamedItems → Binding NamedItems
table_items qualifier place source before at done = if is_meant qualifier source.name then column_items place source.columns before at done else Ok (before, done)

-- the columns of all tables, or of those of a name
abbrev pub source_items : Option (List ℕ) → ℕ → List TableSource → NamedItems → Binding NamedItems
source_items qualifier place [] before at done = Ok (before, done)
source_items qualifier place (source ∷ rest) before at done = if is_full before then Ok (before, done) else
    after (table_items qualifier place source before at done) (λ r. source_items qualifier (behind place (length source.columns)) rest r.0 at r.1)

abbrev pub is_source : Option (List ℕ) → List TableSource → Bool
is_source qualifier sources = list_any (λ source. is_meant qualifier source.name) sources

-- `*`, which wants a table, or `name.*`, whose name is a table's
abbrev pub star_items : Option (List ℕ) → NamedItems → Binding NamedItems
star_items qualifier before at done = source_items qualifier 0 at.sources before at (beyond_where (not (is_source qualifier at.sources)) done)

abbrev pub place_or : BoundExpr → ℕ
place_or (bound.Variable place) = place
place_or _ = 0

abbrev pub with_place : NamedItems → ℕ → NamedItems
with_place before place = record before { places = before.places ++ place ∷ []; assigns = true }

-- the variable that is assigned
abbrev pub assigned_onto : List Variable → List ℕ → NamedItems → Progress → Outcome (NamedItems × Progress)
assigned_onto vars name before done = after (variable_of vars name) (λ variable. Ok (with_place before (place_or variable.expr), beyond_where (is_deep variable.facts) done))

abbrev pub name_or : Option (List ℕ) → Option (List ℕ) → List ℕ
name_or (Some alias) called = alias
name_or None (Some called) = called
name_or None None = []

abbrev pub is_long_alias : Option (List ℕ) → Bool
is_long_alias None = false
is_long_alias (Some alias) = is_long alias

-- the item of an assignment has no name
abbrev pub item : List Variable → ItemRead → NamedItems → Binding NamedItems
item vars star before at done = star_items None before at done
item vars (star_of name) before at done = star_items (Some name) before at done
item vars (assigned name a) before at done = after (assigned_onto vars name before done) (λ r. and_then a.read.bind (value_item [] None r.0) at r.1)
item vars (valued a alias) before at done = and_then a.read.bind (value_item (name_or alias a.called) alias before) at (beyond_where (is_long_alias alias) done)

abbrev pub items_onto : List Variable → NamedItems → List ItemRead → Binding NamedItems
items_onto vars before [] = pure before
items_onto vars before (a ∷ rest) = and_then (item vars a before) (λ x. items_onto vars x rest)

-- ---- ORDER BY

-- the item of that place; a statement whose items are so many is refused
abbrev pub item_key : ℕ → OrderKey
item_key place = key.Item (min place max_place)

-- the item that is meant: none is outside a limit
abbrev pub key_at : Option ℕ → Progress → OrderKey × Progress
key_at None done = (item_key 0, beyond_where true done)
key_at (Some place) done = (item_key place, done)

-- the item of a number, counted from 1
abbrev pub numbered_place : ℤ → ℕ → Option ℕ
numbered_place (pos zero) count = None
numbered_place (pos (suc place)) count = if nat_lt place count then Some place else None
numbered_place (negsuc n) count = None

-- the item whose expression is bound to the same tree; the items beyond the limit are refused anyway
abbrev pub item_place : BoundExpr → List Item → Option ℕ
item_place a items = position (λ item. same_expr a item.expr) (take max_columns items)

-- with DISTINCT rows are ordered by items alone
abbrev pub key_by : Bool → NamedItems → BoundExpr → Progress → OrderKey × Progress
key_by distinct items a done = if distinct then key_at (item_place a items.items) done else (key.Expr a, done)

-- a key, behind what its expression is bound to
abbrev pub expr_key : Bool → NamedItems → TypedExpr → Binding OrderKey
expr_key distinct items a at done = after (looked_at a.facts at done) (λ r. Ok (key_by distinct items a.expr r.1))

abbrev pub number_of : Shape → Option ℤ
number_of (shape.Number n) = Some n
number_of shape.Null = None
number_of shape.Name = None
number_of shape.Node = None

-- the first item that has that alias
abbrev pub alias_place : Option (List ℕ) → List (Option (List ℕ)) → Option ℕ
alias_place None aliases = None
alias_place (Some name) aliases = position (has_name name) aliases

-- the item of a bare name
abbrev pub named_place : Shape → Option (List ℕ) → NamedItems → Option ℕ
named_place shape.Name called items = alias_place called items.aliases
named_place (shape.Number n) called items = None
named_place shape.Null called items = None
named_place shape.Node called items = None

abbrev pub named_or : Option ℕ → Binding OrderKey → Binding OrderKey
named_or None other = other
named_or (Some place) other = pure (item_key place)

abbrev pub numbered_or : Option ℤ → ℕ → Binding OrderKey → Binding OrderKey
numbered_or None count other at done = other at done
numbered_or (Some n) count other at done = Ok (key_at (numbered_place n count) done)

-- a number counts the items, a bare name is an alias first, and all else is an expression
abbrev pub key_of : Bool → NamedItems → ExprRead → Binding OrderKey
key_of distinct items a = numbered_or (number_of a.shape) (length items.items)
    (named_or (named_place a.shape a.called items) (and_then a.read.bind (expr_key distinct items)))

abbrev pub ordered_by : OrderRead → OrderKey → BoundOrder
ordered_by order key = record { key = key; descending = order.descending }

-- ---- a select

-- above the greatest number that is kept all rows are taken
abbrev pub max_top : ℕ
max_top = 4294967295

abbrev pub top_of : Option ℤ → Option ℕ
top_of None = None
top_of (Some (pos n)) = if nat_le n max_top then Some n else None
top_of (Some (negsuc n)) = None

abbrev pub is_grouped : SelectRead → Bool
is_grouped select = (not (length select.groups == 0) || is_some select.having)
    || ((in_items select.items).summed || (in_order select.order).summed)

-- the items' inner queries have the first places, in a list of their own
abbrev pub set_aside : Progress → Progress
set_aside done = record done { first = 0; inner = [] }

-- behind the items the list of the other clauses' inner queries goes on
abbrev pub taken_up : ℕ → List InnerQuery → Progress → Progress
taken_up first before done = record done { first = first; inner = before }

-- the inner queries of the items come before all others
abbrev pub behind_inner : List InnerQuery → Progress → Progress
behind_inner of_items done = record done { inner = of_items ++ done.inner }

-- HAVING, behind what it is bound to
abbrev pub whole_having : TypedTest → Binding BoundTest
whole_having a at done = after (looked_at a.facts at done) (λ r. Ok (a.test, r.1))

abbrev pub having_of : Option (Read TypedTest) → Binding (Option BoundTest)
having_of None = pure None
having_of (Some of) = and_then (and_then of.bind whole_having) (λ test. pure (Some test))

-- GROUP BY, behind what is bound of it
abbrev pub groups_onto : List BoundExpr → List ExprRead → Binding (List BoundExpr)
groups_onto before [] = pure before
groups_onto before (a ∷ rest) = and_then (whole a.read.bind) (λ x. groups_onto (before ++ x ∷ []) rest)

-- ORDER BY, behind what is bound of it
abbrev pub order_onto : Bool → NamedItems → List BoundOrder → List OrderRead → Binding (List BoundOrder)
order_onto distinct items before [] = pure before
order_onto distinct items before (a ∷ rest) = and_then (key_of distinct items a.expr) (λ key. order_onto distinct items (before ++ ordered_by a key ∷ []) rest)

-- GROUP BY and HAVING, behind WHERE
abbrev pub grouped_of : SelectRead → Bool → List TableSource → Option BoundTest → Progress → Outcome (FrontClauses × Progress)
grouped_of select grouped sources filter done =
    after (groups_onto [] select.groups (plain sources) done) (λ groups.
    after (having_of select.having (class_context grouped sources groups.0) groups.1) (λ having.
    Ok (record { filter = filter; groups = groups.0; having = having.0 }, having.1)))

-- WHERE, GROUP BY and HAVING
abbrev pub front_of : SelectRead → Bool → List TableSource → Progress → Outcome (FrontClauses × Progress)
front_of select grouped sources done =
    after (filter_of select.filter (plain sources) done) (λ filter. grouped_of select grouped sources filter.0 filter.1)

-- items and ORDER BY
abbrev pub back_of : List Variable → SelectRead → Context → Progress → Outcome BackClauses
back_of vars select at done =
    after (items_onto vars no_items select.items at (set_aside done)) (λ items.
    after (order_onto select.distinct items.0 [] select.order at (taken_up done.first done.inner items.1)) (λ order.
    Ok (record { items = items.0; order = order.0; done = behind_inner items.1.inner order.1 })))

-- What is assigned to variables is no answer, so it has no limit of columns, unless its items are put in order or
-- compared (own).
abbrev pub has_limit : SelectRead → NamedItems → Bool
has_limit select items = not items.assigns || (select.distinct || not (length select.order == 0))

abbrev pub is_many : SelectRead → NamedItems → Progress → Bool
is_many select items done = ((has_limit select items && nat_lt max_columns (length items.items)) || nat_lt max_sums (length done.sums)) || nat_lt max_inner done.count

-- a select of clauses that are bound
abbrev pub query_from : SelectRead → Bool → List Reference → FrontClauses → BackClauses → Selected
query_from select grouped refs front back =
    record {
      query = roll-BoundQuery (record {
        refs = refs;
        filter = front.filter;
        grouped = grouped;
        groups = front.groups;
        sums = back.done.sums;
        having = front.having;
        items = back.items.items;
        order = back.order;
        distinct = select.distinct;
        top = top_of select.top;
        inner = back.done.inner;
      });
      places = back.items.places;
      assigns = back.items.assigns;
      count = back.done.count;
      beyond = back.done.beyond || is_many select back.items back.done;
    }

module _ (definitions : List Definition) (vars : List Variable) where
  -- a select, behind its FROM
  abbrev pub select_over : SelectRead → JoinedTables → Progress → Outcome Selected
  select_over select tables done =
      after (front_of select (is_grouped select) tables.sources (beyond_where (are_beyond tables.sources) done)) (λ front.
      after (back_of vars select (class_context (is_grouped select) tables.sources front.0.groups) front.1) (λ back.
      Ok (query_from select (is_grouped select) tables.refs front.0 back)))

  abbrev pub select_of : SelectRead → Outcome Selected
  select_of select = after (from_of definitions select.from (begin_at (in_items select.items).inners)) (λ from. select_over select from.0 from.1)
