use Rattle.std.proofs.Common.{◌≡◌, ◌++◌, drop, false}
use Rattle.batch_meaning.specs.Drivers.{declared_from}
use Rattle.batch_forms.proofs.declarations.declared_from.Given as goal

-- what is made, in front of what will be made of the lexemes that are left, is all
abbrev pub invariant-loop-spanned : goal.invariant-loop-spanned
invariant-loop-spanned l = l.declared.items ++ declared_from l.text l.at l.opened (drop l.spanned-index l.lexemes) ≡ declared_from l.text 0 false l.lexemes
