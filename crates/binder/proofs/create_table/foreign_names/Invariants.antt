use Rattle.std.proofs.Common.{◌≡◌, ◌++◌, map, drop}
use Rattle.binder.proofs.create_table.foreign_names.Given as goal

abbrev pub invariant-loop-foreign : goal.invariant-loop-foreign
invariant-loop-foreign l = l.names ++ map (λ foreign. foreign.name) (drop l.foreign-index l.foreigns) ≡ l.initial.names ++ map (λ foreign. foreign.name) l.foreigns
