use Rattle.std.proofs.Common.{ap, sym, ◌∙◌}
use Rattle.step_model.specs.State.{is_open}
use Rattle.engine_core.specs.Transactions.{is_active}
use Rattle.engine_core.proofs.Showing.{open_shown}
use Rattle.engine_core.proofs.parts.Parts.in_transaction.Goals as goal

pub returns : goal.returns
returns c =
    c.is_active.ensures ∙ ap (is_active c.args.session) c.deref.ensures.value
    ∙ sym (open_shown c.self.inside.rows c.self.inside.locks c.self.inside.active.items c.self.inside.log.items c.args.session) ∙ ap (is_open c.args.session) c.self.view_is
