use Rattle.std.proofs.Common.{◌≡◌, to_z, of_z, rules, ◌∙◌}
use Rattle.std.specs.Int.{w32}
use Rattle.batch_meaning.specs.Meaning.{gives_back}
use Rattle.statement_exec.proofs.Parts.{does_read}
use Rattle.batch_exec.proofs.Called.{does_assigned, left_assigned, ready_assigned}
use Rattle.batch_exec.proofs.Runs.{does_concluded}
use Rattle.batch_exec.proofs.returning.give_back.Goals as goal

pub returns-in-Ok-clause-does : goal.returns-in-Ok-clause-does
unfolding gives_back
returns-in-Ok-clause-does g c = λ values.
    let same : to_z w32 (of_z w32 c.args.status) ≡ c.args.status = search rules in
    does_concluded _ _ _ _ (does_read _ _ (rw (c.vars.ensures.vars, same) at c.in-Ok.ensures.came values)) (does_assigned _ _ c.assign_all.ensures (rw same at c.end_call.ensures.does))

pub returns-in-Err-clause-does : goal.returns-in-Err-clause-does
unfolding gives_back
returns-in-Err-clause-does g c = λ values.
    let same : to_z w32 (of_z w32 c.args.status) ≡ c.args.status = search rules in
    does_concluded _ _ _ _ (does_read _ _ (rw (c.vars.ensures.vars, same) at c.in-Err.ensures.came values)) c.fail.ensures.does

pub returns-in-Ok-clause-left : goal.returns-in-Ok-clause-left
returns-in-Ok-clause-left g c = c.end_call.ensures.left ∙ left_assigned c.in-Ok.sets.items c.args.session.now c.assign_all.new.self c.assign_all.ensures

pub end_call-requires : goal.end_call-requires
end_call-requires g c = record { ready = ready_assigned c.in-Ok.sets.items c.args.session.now c.assign_all.new.self c.requires.ready c.assign_all.ensures }
