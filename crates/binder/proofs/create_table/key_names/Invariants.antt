use Rattle.std.proofs.Common.{◌≡◌, ◌++◌, map, drop}
use Rattle.binder.proofs.create_table.key_names.Given as goal

abbrev pub invariant-loop-key : goal.invariant-loop-key
invariant-loop-key l = l.names ++ map (λ key. key.name) (drop l.key-index l.keys) ≡ l.initial.names ++ map (λ key. key.name) l.keys
