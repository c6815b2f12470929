use Rattle.std.proofs.Common.{◌≡◌, drop}
use Rattle.clause_binder.specs.Bind as spec
use Rattle.clause_binder.proofs.signs.signed_number.Given as goal

abbrev pub invariant-loop-sign : goal.invariant-loop-sign
invariant-loop-sign l = spec.signed_number (drop l.sign-index l.signs) l.signed ≡ spec.signed_number l.signs l.number
