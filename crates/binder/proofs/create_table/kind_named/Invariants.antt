use Rattle.std.proofs.Common.{◌≡◌, drop}
use Rattle.binder.specs.Tables as spec
use Rattle.binder.proofs.create_table.kind_named.Given as goal

abbrev pub invariant-loop-column : goal.invariant-loop-column
invariant-loop-column l = spec.kind_named (drop l.column-index l.columns) l.name ≡ spec.kind_named l.columns l.name
