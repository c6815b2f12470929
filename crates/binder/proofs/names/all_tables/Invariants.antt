use Rattle.std.proofs.Common.{◌≡◌, drop}
use Rattle.binder.specs.Names as spec
use Rattle.binder.proofs.names.all_tables.Given as goal

abbrev pub invariant-loop-name : goal.invariant-loop-name
invariant-loop-name l = spec.all_tables l.definitions (drop l.name-index l.names) ≡ spec.all_tables l.definitions l.names
