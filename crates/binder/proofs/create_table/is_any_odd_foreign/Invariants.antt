use Rattle.std.proofs.Common.{◌≡◌, drop}
use Rattle.std.specs.List.{list_any}
use Rattle.binder.specs.Tables as spec
use Rattle.binder.proofs.create_table.is_any_odd_foreign.Given as goal

-- none of those before
abbrev pub invariant-loop-foreign : goal.invariant-loop-foreign
invariant-loop-foreign l =
    list_any (spec.is_odd_foreign l.definitions l.table) (drop l.foreign-index l.foreigns)
    ≡ list_any (spec.is_odd_foreign l.definitions l.table) l.table.foreigns
