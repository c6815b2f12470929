use Rattle.std.proofs.Common.{ap, ◌∙◌}
use Rattle.lock_table.specs.Table.{all_but_last}
use Rattle.lock_table.proofs.Numbers.{all_but_push}
use Rattle.lock_table.proofs.add_lock.Goals as goal

pub returns-in-Err-clause-err_own : goal.returns-in-Err-clause-err_own
returns-in-Err-clause-err_own c = c.pop-lock.ensures.rest ∙ ap all_but_last c.in_ok-push.ensures.ok ∙ all_but_push c.args.own.now c.args.lock
