use Rattle.std.proofs.Common.{refl}
use Rattle.batch_meaning.specs.Meaning.{ended_by}
use Rattle.batch_meaning.proofs.Composed.{does_out, does_reads}
use Rattle.batch_exec.proofs.rpc.tell_well.Goals as goal

pub returns-in_err-values-clause-does : goal.returns-in_err-values-clause-does
returns-in_err-values-clause-does g c = does_out _ c.from_residual.ensures.0 refl

pub returns-in_err-tokens-clause-does : goal.returns-in_err-tokens-clause-does
returns-in_err-tokens-clause-does g c = does_out _ c.from_residual-in_err-tokens.ensures.0 refl

pub returns-clause-does : goal.returns-clause-does
unfolding ended_by
returns-clause-does g c = does_reads (rw (c.in_ok-tokens.ensures, c.in_ok-values.ensures.told, c.vars.ensures.vars) at c.tell_returned.ensures.does)
