use Rattle.std.proofs.Common.{◌≡◌, to_z, of_z, rules, ◌∙◌}
use Rattle.std.specs.Int.{w32}
use Rattle.statement_exec.proofs.Beginning.{statuses_left}
use Rattle.session_state.proofs.Stepping.{does_stepped}
use Rattle.batch_exec.proofs.Runs.{does_concluded}
use Rattle.batch_exec.proofs.simple.give.Goals as goal

pub returns-in-Ok-clause-does : goal.returns-in-Ok-clause-does
returns-in-Ok-clause-does g c =
    let same : to_z w32 (of_z w32 c.in-Ok.number) ≡ c.in-Ok.number = search rules in
    does_concluded _ _ _ _ c.in-Ok.ensures.does (does_stepped (rw (c.none.ensures, same) at c.succeed.ensures.came))

pub returns-in-Err-clause-does : goal.returns-in-Err-clause-does
returns-in-Err-clause-does g c = does_concluded _ _ _ _ c.in-Err.ensures.does c.fail.ensures.does

pub returns-in-Ok-clause-left : goal.returns-in-Ok-clause-left
returns-in-Ok-clause-left g c = c.succeed.ensures.left ∙ statuses_left _ _ c.in-Ok.ensures.does

pub returns-in-Err-clause-left : goal.returns-in-Err-clause-left
returns-in-Err-clause-left g c = c.fail.ensures.left ∙ statuses_left _ _ c.in-Err.ensures.does
