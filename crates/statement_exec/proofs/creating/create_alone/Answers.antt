use Rattle.std.proofs.Common.{◌≡◌, true, false, sym, ◌∙◌}
use Rattle.batch_meaning.specs.Working.{binds}
use Rattle.batch_meaning.proofs.Composed.{does_bind, does_fail, does_no, does_yes}
use Rattle.statement_exec.proofs.Parts.{does_naming}
use Rattle.statement_exec.proofs.creating.create_alone.Goals as goal

pub returns-in_err-_shapes-clause-does : goal.returns-in_err-_shapes-clause-does
unfolding binds
returns-in_err-_shapes-clause-does g c = does_fail _ _ _ c.from_residual.ensures.0 c.from_residual.ensures.1 c.in_err-_shapes.ensures.does

pub returns-then-is_objects-clause-does : goal.returns-then-is_objects-clause-does
unfolding binds
returns-then-is_objects-clause-does g c = does_bind _ _ c.in_ok-_shapes.ensures.does (does_yes _ _ _ (sym c.if-is_objects.ensures) (does_naming _ _ _ c.naming.ensures))

pub returns-clause-does : goal.returns-clause-does
unfolding binds
returns-clause-does g c = does_bind _ _ c.in_ok-_shapes.ensures.does (does_no _ _ _ (sym c.if-is_objects.ensures) c.create_own.ensures.does)

pub prepare-requires-clause-begun : goal.prepare-requires-clause-begun
prepare-requires-clause-begun g c = λ asks. absurd (let no : false ≡ true = sym c.requires.alone ∙ asks in cc)
