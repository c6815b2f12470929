-- Transact-SQL reference, "SELECT": which queries are well formed over the types of the columns of tables and of
-- variables. FROM is as wide as its tables; each clause names what it can read, in the types that are there; a class's
-- row has the columns of its first row and then the aggregates. What such a query answers has a value for each item, of
-- the item's type. Which text is bound to which query, binding says.
use Rattle.std.specs.Prelude.{ℕ, Bool, true, ◌&&◌, nat_eq, nat_lt, if◌then◌else◌, List, [], ◌∷◌, ◌++◌, length, map, option_map, Option, Some, None}
use Rattle.std.specs.List.{flat_map, list_all}
use Rattle.value_types.specs.declared.sql_type.SqlType.{SqlType}
use Rattle.value_types.specs.declared.sql_type.SqlType.TheVariants.{TinyInt, SmallInt, Int, BigInt, Bit as BitType, NText}
use Rattle.value_types.specs.declared.table_name.TableName.{TableName}
use Rattle.bound_tree.specs.declared.expr.BoundExpr.{BoundExpr}
use Rattle.bound_tree.specs.declared.expr.BoundTest.{BoundTest}
use Rattle.bound_tree.specs.declared.query.BoundOrder.{BoundOrder}
use Rattle.bound_tree.specs.declared.query.BoundQuery.{BoundQuery}
use Rattle.bound_tree.specs.declared.query.BoundQuery.TheOpen.{BoundQuery-F, InnerQuery-F}
use Rattle.bound_tree.specs.declared.query.BoundQuery.TheFolds.{fold-BoundQuery, fold-InnerQuery}
use Rattle.bound_tree.specs.declared.query.InnerQuery.{InnerQuery}
use Rattle.bound_tree.specs.declared.query.Item.{Item}
use Rattle.bound_tree.specs.declared.query.OrderKey.{OrderKey}
use Rattle.bound_tree.specs.declared.query.OrderKey.TheVariants as key
use Rattle.bound_tree.specs.declared.query.Reference.{Reference}
use Rattle.bound_tree.specs.declared.query.Sum.{Sum}
use Rattle.bound_tree.specs.declared.query.SumKind.{SumKind}
use Rattle.bound_tree.specs.declared.query.SumKind.TheVariants.{CountRows, Count, Sum as Total, Avg, Min, Max}
use Rattle.bound_tree.specs.Typed.{Found, SettingTypes, found_of, found_where, is_as, is_formed, is_formed_test, is_found, lone_null, system_kinds, typed, unformed}

-- ---- aggregates

-- the type of a total: INT of types up to INT, and BIGINT; a lone NULL is an INT
abbrev pub total_found : Found → Found
total_found unformed = unformed
total_found lone_null = typed Int
total_found (typed TinyInt) = typed Int
total_found (typed SmallInt) = typed Int
total_found (typed Int) = typed Int
total_found (typed BigInt) = typed BigInt
total_found (typed BitType) = unformed
total_found (typed (NText size)) = unformed

-- the type of the least or the greatest: the operand's, but not of bits
abbrev pub extreme_found : Found → Found
extreme_found unformed = unformed
extreme_found lone_null = typed Int
extreme_found (typed TinyInt) = typed TinyInt
extreme_found (typed SmallInt) = typed SmallInt
extreme_found (typed Int) = typed Int
extreme_found (typed BigInt) = typed BigInt
extreme_found (typed BitType) = unformed
extreme_found (typed (NText size)) = typed (NText size)

-- what is found of an aggregate of what is found of its operand
abbrev pub sum_found : SumKind → Option Found → Found
sum_found CountRows None = typed Int
sum_found CountRows (Some a) = unformed
sum_found Count None = unformed
sum_found Count (Some a) = found_where (is_found a) Int
sum_found Total None = unformed
sum_found Total (Some a) = total_found a
sum_found Avg None = unformed
sum_found Avg (Some a) = total_found a
sum_found Min None = unformed
sum_found Min (Some a) = extreme_found a
sum_found Max None = unformed
sum_found Max (Some a) = extreme_found a

-- ---- clauses, over what may be read

abbrev pub is_formed_sum : SettingTypes → Sum → Bool
is_formed_sum types sum = is_as (sum_found sum.kind (option_map (found_of types) sum.of)) sum.to

abbrev pub is_formed_where : SettingTypes → Option BoundTest → Bool
is_formed_where types None = true
is_formed_where types (Some of) = is_formed_test types of

abbrev pub is_formed_group : SettingTypes → BoundExpr → Bool
is_formed_group types expr = is_found (found_of types expr)

abbrev pub is_formed_item : SettingTypes → Item → Bool
is_formed_item types item = is_formed types item.expr item.kind

-- by an item, of so many, or by an expression
abbrev pub is_formed_key : SettingTypes → ℕ → OrderKey → Bool
is_formed_key types items (key.Item place) = nat_lt place items
is_formed_key types items (key.Expr expr) = is_found (found_of types expr)

abbrev pub is_formed_order : SettingTypes → ℕ → BoundOrder → Bool
is_formed_order types items order = is_formed_key types items order.key

-- ---- queries

-- what is found of a query: whether it is well formed, and the types of its items
abbrev pub QueryFound : Type 0
QueryFound = Bool × List SqlType

abbrev pub items_kinds : List Item → List SqlType
items_kinds items = map (λ item. item.kind) items

module _ (tables : TableName → List SqlType) (vars : List SqlType) where
  -- what an expression may read: these cells, the variables, the values of the session, and inner queries
  abbrev pub types_over : List SqlType → List (List SqlType) → SettingTypes
  types_over row inner = record { row = row; vars = vars; system = system_kinds; inner = inner }

  -- the types of a row of references, from left to right
  abbrev pub row_kinds : List Reference → List SqlType
  row_kinds refs = flat_map (λ ref. tables ref.table) refs

  -- as wide as its table, with a key of its own columns
  abbrev pub is_wide : Reference → Bool
  is_wide ref = nat_eq ref.width (length (tables ref.table)) && list_all (λ place. nat_lt place ref.width) ref.key

  -- ON reads the references up to its own
  abbrev pub are_formed_refs : List (List SqlType) → List SqlType → List Reference → Bool
  are_formed_refs inner before [] = true
  are_formed_refs inner before (ref ∷ rest) = (is_wide ref && is_formed_where (types_over (before ++ tables ref.table) inner) ref.on)
      && are_formed_refs inner (before ++ tables ref.table) rest

  -- behind the classes
  abbrev pub class_kinds : Bool → List SqlType → List Sum → List SqlType
  class_kinds grouped row sums = if grouped then row ++ map (λ sum. sum.to) sums else row

  abbrev pub are_formed_clauses : SettingTypes → SettingTypes → BoundQuery-F QueryFound QueryFound → Bool
  are_formed_clauses rows classes query = ((is_formed_where rows query.filter && list_all (is_formed_group rows) query.groups) && list_all (is_formed_sum rows) query.sums)
      && ((is_formed_where classes query.having && list_all (is_formed_item classes) query.items) && list_all (is_formed_order classes (length query.items)) query.order)

  abbrev pub query_step : BoundQuery-F QueryFound QueryFound → QueryFound
  query_step query =
      let inner = map (λ q. q.1) query.inner in
      let row = row_kinds query.refs in (
        (list_all (λ q. q.0) query.inner && are_formed_refs inner [] query.refs)
            && are_formed_clauses (types_over row inner) (types_over (class_kinds query.grouped row query.sums) inner) query,
        items_kinds query.items,
      )

  abbrev pub inner_step : InnerQuery-F QueryFound QueryFound → QueryFound
  inner_step inner = inner.query

  abbrev pub query_found : BoundQuery → QueryFound
  query_found = fold-BoundQuery QueryFound QueryFound query_step inner_step

  abbrev pub inner_found : InnerQuery → QueryFound
  inner_found = fold-InnerQuery QueryFound QueryFound query_step inner_step

  -- the query is well formed
  abbrev pub is_formed_query : BoundQuery → Bool
  is_formed_query query = (query_found query).0
