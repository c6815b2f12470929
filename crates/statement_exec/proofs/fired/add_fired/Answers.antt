use Rattle.std.proofs.Common.{sym}
use Rattle.statement_exec.proofs.Slots.{is_added, passed_over}
use Rattle.statement_exec.proofs.fired.add_fired.Goals as goal

pub returns-then-is_trigger : goal.returns-then-is_trigger
returns-then-is_trigger c = passed_over c.args.around.now c.args.trigger c.args.fires.now.items (sym c.if-is_trigger.ensures)

pub returns : goal.returns
returns c = is_added c.args.around.now c.args.trigger c.args.fires.now.items c.push.new.self.items (sym c.if-is_trigger.ensures) c.in_ok-push.ensures.items
