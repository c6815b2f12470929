use Rattle.std.proofs.Common.{◌≡◌, drop}
use Rattle.std.specs.List.{list_any}
use Rattle.clause_binder.specs.Bind as spec
use Rattle.clause_binder.proofs.signs.has_minus.Given as goal

abbrev pub invariant-loop-sign : goal.invariant-loop-sign
invariant-loop-sign l = list_any spec.is_minus (drop l.sign-index l.signs) ≡ list_any spec.is_minus l.signs
