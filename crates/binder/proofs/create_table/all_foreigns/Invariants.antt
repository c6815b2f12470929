use Rattle.std.proofs.Common.{◌≡◌, drop}
use Rattle.binder.specs.Tables as spec
use Rattle.binder.proofs.create_table.all_foreigns.Given as goal

abbrev pub invariant-loop-foreign : goal.invariant-loop-foreign
invariant-loop-foreign l = spec.all_foreigns l.definitions l.table (drop l.foreign-index l.foreigns) ≡ spec.all_foreigns l.definitions l.table l.table.foreigns
