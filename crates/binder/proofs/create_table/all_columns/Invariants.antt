use Rattle.std.proofs.Common.{◌≡◌, drop}
use Rattle.binder.specs.Tables as spec
use Rattle.binder.proofs.create_table.all_columns.Given as goal

abbrev pub invariant-loop-name : goal.invariant-loop-name
invariant-loop-name l = spec.all_columns l.columns (drop l.name-index l.names) ≡ spec.all_columns l.columns l.names
