use Rattle.std.proofs.Common.{◌≡◌, drop, map}
use Rattle.batch_meaning.specs.Statements.{in_turn, vars_in}
use Rattle.batch_forms.proofs.variables.+variables.Given as goal

-- the statements that are left lead to the whole
abbrev pub invariant-add_all-loop-statement : goal.invariant-add_all-loop-statement
invariant-add_all-loop-statement l = in_turn (map vars_in (drop l.statement-index l.statements)) l.vars ≡ in_turn (map vars_in l.statements) l.initial.vars
