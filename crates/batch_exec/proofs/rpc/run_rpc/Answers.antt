use Rattle.std.proofs.Common.{sym}
use Rattle.batch_meaning.specs.Rpc.{runs_rpc}
use Rattle.batch_meaning.proofs.Composed.{does_no, does_yes}
use Rattle.batch_exec.proofs.rpc.run_rpc.Goals as goal

pub returns-then-is_too_many-clause-does : goal.returns-then-is_too_many-clause-does
unfolding runs_rpc
returns-then-is_too_many-clause-does g c = does_yes _ _ _ (sym c.if-is_too_many.ensures) c.fail_unread.ensures.does

pub returns-then-skips_place-clause-does : goal.returns-then-skips_place-clause-does
unfolding runs_rpc
returns-then-skips_place-clause-does g c = does_no _ _ _ (sym c.if-is_too_many.ensures) (does_yes _ _ _ (sym c.if-skips_place.ensures) c.fail_unread-then-skips_place.ensures.does)

pub returns-clause-does : goal.returns-clause-does
unfolding runs_rpc
returns-clause-does g c = does_no _ _ _ (sym c.if-is_too_many.ensures) (does_no _ _ _ (sym c.if-skips_place.ensures) c.run_way.ensures.does)
