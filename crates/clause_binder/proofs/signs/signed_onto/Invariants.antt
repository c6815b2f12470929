use Rattle.std.proofs.Common.{◌≡◌, drop}
use Rattle.clause_binder.specs.Bind as spec
use Rattle.clause_binder.proofs.signs.signed_onto.Given as goal

abbrev pub invariant-loop-sign : goal.invariant-loop-sign
invariant-loop-sign l = spec.signed_onto l.groups l.a (drop l.sign-index l.signs) ≡ spec.signed_onto l.groups l.initial.a l.signs
