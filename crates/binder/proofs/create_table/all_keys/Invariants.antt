use Rattle.std.proofs.Common.{◌≡◌, drop}
use Rattle.binder.specs.Tables as spec
use Rattle.binder.proofs.create_table.all_keys.Given as goal

abbrev pub invariant-loop-key : goal.invariant-loop-key
invariant-loop-key l = spec.all_keys l.columns (drop l.key-index l.keys) ≡ spec.all_keys l.columns l.keys
