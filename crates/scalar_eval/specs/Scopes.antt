-- Own: what an expression reads, as the meaning of trees has it: of variables their values, and of the
-- inner queries' answers the rows.
use Rattle.std.specs.Prelude.{List, map}
use Rattle.value_types.specs.declared.value.Value.{Value}
use Rattle.session_vars.specs.declared.Variable.{Variable}
use Rattle.bound_tree.specs.declared.table.Table.{Table}
use Rattle.bound_tree.specs.Setting.{Setting}
use Rattle.scalar_eval.specs.declared.scope.Scope.{Scope}

abbrev pub values_of : List Variable → List Value
values_of vars = map (λ variable. variable.value) vars

abbrev pub inner_rows : List Table → List (List (List Value))
inner_rows inner = map (λ table. table.rows) inner

abbrev pub setting_of : Scope → Setting
setting_of scope = record {
  row = scope.row.now;
  vars = values_of scope.vars.now;
  system = scope.system.now;
  inner = inner_rows scope.inner.now;
}
