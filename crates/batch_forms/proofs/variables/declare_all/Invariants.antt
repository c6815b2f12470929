use Rattle.std.proofs.Common.{◌≡◌, drop}
use Rattle.batch_meaning.specs.Statements.{declares_all}
use Rattle.batch_forms.proofs.variables.declare_all.Given as goal

-- the declarations that are left lead to the whole
abbrev pub invariant-loop-of : goal.invariant-loop-of
invariant-loop-of l = declares_all (drop l.of-index l.declarations) l.vars ≡ declares_all l.declarations l.initial.vars
