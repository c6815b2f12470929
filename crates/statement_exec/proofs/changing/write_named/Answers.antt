use Rattle.std.proofs.Common.{Ok, refl, ap, ◌∙◌}
use Rattle.batch_meaning.specs.Selecting.{Effect}
use Rattle.batch_meaning.specs.Doing.{◌then◌}
use Rattle.batch_meaning.specs.Meaning.{writes_in, written_in}
use Rattle.batch_meaning.specs.Working.{asks_any, enters, known_by}
use Rattle.batch_meaning.proofs.Composed.{does_over, does_then}
use Rattle.statement_exec.proofs.Beginning.{did_none, none_binds, none_change, none_enters, none_leaves}
use Rattle.statement_exec.proofs.Firing.{written_fails, written_then}
use Rattle.statement_exec.proofs.Parts.{left_open}
use Rattle.statement_exec.proofs.changing.write_named.Goals as goal

pub write_in-requires : goal.write_in-requires
write_in-requires g c = record { ready = c.in_ok-home.ensures.ready; begun = rw c.asks_any.ensures at c.in_ok-home.ensures.begun; names = c.requires.names }

pub returns-in_err-home-clause-does : goal.returns-in_err-home-clause-does
returns-in_err-home-clause-does g c = λ one. written_fails one c.args.around.now (enters (asks_any (known_by c.args.around.now c.args.statement.now) c.args.names.now) then writes_in one c.args.around.now c.args.statement.now) c.from_residual.result c.from_residual.ensures.0 c.from_residual.ensures.1
    (does_then _ (writes_in one c.args.around.now c.args.statement.now) (rw c.asks_any.ensures at c.in_err-home.ensures.does) (does_over refl))

pub returns-in-Ok-clause-does : goal.returns-in-Ok-clause-does
returns-in-Ok-clause-does g c = λ one. written_then (g.P.Port.past c.done_or_fires.new.port) one c.args.around.now (enters (asks_any (known_by c.args.around.now c.args.statement.now) c.args.names.now)) (writes_in one c.args.around.now c.args.statement.now) (Ok c.done_or_fires.result) c.done_or_fires.new.session (rw c.asks_any.ensures at c.in_ok-home.ensures.does)
    (written_then (g.P.Port.past c.done_or_fires.new.port) one c.args.around.now _ (written_in one c.args.around.now c.in_ok-home.home) (Ok c.done_or_fires.result) c.done_or_fires.new.session c.in-Ok.ensures.does (c.done_or_fires.ensures.does one c.args.around.now))

pub returns-in-Ok-clause-none : goal.returns-in-Ok-clause-none
returns-in-Ok-clause-none g c = ap (λ (effect : Effect). effect.sets) c.done_or_fires.ensures.effect ∙ c.in-Ok.ensures.none

pub returns-in-Err-clause-does : goal.returns-in-Err-clause-does
returns-in-Err-clause-does g c = λ one. does_then (enters (asks_any (known_by c.args.around.now c.args.statement.now) c.args.names.now)) (writes_in one c.args.around.now c.args.statement.now) (rw c.asks_any.ensures at c.in_ok-home.ensures.does)
    (does_then _ (written_in one c.args.around.now c.in_ok-home.home) c.in-Err.ensures.does (does_then _ _ c.leave.ensures.does (does_over refl)))

pub leave-requires : goal.leave-requires
leave-requires g c = record { ready = c.in-Err.ensures.ready; begun = λ some. c.in-Err.ensures.kept ∙ left_open _ _ _ c.in_ok-home.ensures.begun c.in_ok-home.ensures.nowhere some }

pub returns-in_err-home-clause-left : goal.returns-in_err-home-clause-left
returns-in_err-home-clause-left g c = did_none _ (none_enters _) c.in_err-home.ensures.does

pub returns-in-Ok-clause-left : goal.returns-in-Ok-clause-left
returns-in-Ok-clause-left g c = c.done_or_fires.ensures.left ∙ did_none _ (none_binds c.args.around.now c.args.statement.now _ (none_change c.args.around.now)) c.in-Ok.ensures.does ∙ did_none _ (none_enters _) c.in_ok-home.ensures.does

pub returns-in-Err-clause-left : goal.returns-in-Err-clause-left
returns-in-Err-clause-left g c = did_none _ (none_leaves _ _) c.leave.ensures.does ∙ did_none _ (none_binds c.args.around.now c.args.statement.now _ (none_change c.args.around.now)) c.in-Err.ensures.does ∙ did_none _ (none_enters _) c.in_ok-home.ensures.does
