-- Transact-SQL reference, "INSERT", "UPDATE" and "DELETE": which statements that are bound are well formed, over the tables
-- that are defined and the variables. A query is, as `query_laws` says it. A write names columns of its table; its values and
-- its WHERE are well formed over a row of the table, the variables, the values of the session, and all its inner queries. An
-- INSERT gives a value, or an item of its query, for each column that it names.
use Rattle.std.specs.Prelude.{ℕ, Bool, true, ◌&&◌, nat_eq, nat_lt, List, [], length}
use Rattle.std.specs.List.{list_all}
use Rattle.value_types.specs.declared.sql_type.SqlType.{SqlType}
use Rattle.session_vars.specs.declared.Variable.{Variable}
use Rattle.tsql_tree.specs.declared.definition.Definition.{Definition}
use Rattle.bound_tree.specs.declared.expr.BoundExpr.{BoundExpr}
use Rattle.bound_tree.specs.declared.query.InnerQuery.{InnerQuery}
use Rattle.bound_tree.specs.declared.write.Bound.{Bound}
use Rattle.bound_tree.specs.declared.write.Bound.TheVariants as bound
use Rattle.bound_tree.specs.declared.write.BoundRows.{BoundRows}
use Rattle.bound_tree.specs.declared.write.BoundRows.TheVariants as rows
use Rattle.bound_tree.specs.declared.write.BoundSet.{BoundSet}
use Rattle.bound_tree.specs.declared.write.BoundWrite.{BoundWrite}
use Rattle.bound_tree.specs.declared.write.BoundWrite.TheVariants as write
use Rattle.bound_tree.specs.Typed.{SettingTypes, found_of, is_found}
use Rattle.clause_binder.specs.Operands.{items_of}
use Rattle.query_laws.specs.Formed.{inner_found, is_formed_query, is_formed_where, types_over}
use Rattle.query_laws.specs.Columns.{tables_in, variable_kinds}
use Rattle.query_laws.specs.Parts.{inner_kinds}

-- ---- over what may be read

-- so many values
abbrev pub is_formed_row : ℕ → SettingTypes → List BoundExpr → Bool
is_formed_row width types row = nat_eq (length row) width && list_all (λ expr. is_found (found_of types expr)) row

-- a column of the row, and its new value
abbrev pub is_formed_set : SettingTypes → BoundSet → Bool
is_formed_set types set = nat_lt set.place (length types.row) && is_found (found_of types set.expr)

-- ---- statements

module _ (definitions : List Definition) (vars : List Variable) where
  -- what may be read beside a row, where these inner queries stand
  abbrev pub types_of : List SqlType → List InnerQuery → SettingTypes
  types_of row inner = types_over (tables_in definitions) (variable_kinds vars) row (inner_kinds definitions vars inner)

  abbrev pub is_formed_inner : InnerQuery → Bool
  is_formed_inner q = (inner_found (tables_in definitions) (variable_kinds vars) q).0

  -- what an INSERT adds reads no row
  abbrev pub is_formed_rows : ℕ → BoundRows → Bool
  is_formed_rows width (rows.Values values inner) = list_all is_formed_inner inner && list_all (is_formed_row width (types_of [] inner)) values
  is_formed_rows width (rows.Query query) = is_formed_query (tables_in definitions) (variable_kinds vars) query && nat_eq (length (items_of query)) width

  abbrev pub is_formed_write : BoundWrite → Bool
  is_formed_write (write.Insert table columns given) = list_all (λ place. nat_lt place (length (tables_in definitions table))) columns
      && is_formed_rows (length columns) given
  is_formed_write (write.Update table sets filter inner) = let types = types_of (tables_in definitions table) inner in
      list_all is_formed_inner inner && (list_all (is_formed_set types) sets && is_formed_where types filter)
  is_formed_write (write.Delete table filter inner) = list_all is_formed_inner inner
      && is_formed_where (types_of (tables_in definitions table) inner) filter

  -- what a statement is bound to is well formed
  abbrev pub is_formed_bound : Bound → Bool
  is_formed_bound (bound.Query query) = is_formed_query (tables_in definitions) (variable_kinds vars) query
  is_formed_bound (bound.Assign query places) = is_formed_query (tables_in definitions) (variable_kinds vars) query
      && list_all (λ place. nat_lt place (length vars)) places
  is_formed_bound (bound.Write of) = is_formed_write of
  is_formed_bound bound.Plain = true
