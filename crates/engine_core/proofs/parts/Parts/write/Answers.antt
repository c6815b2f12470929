use Rattle.std.proofs.Common.{ap, ◌∙◌, sym, is_some}
use Rattle.std.specs.Option.{option_copied}
use Rattle.step_model.specs.Entries.{entry_at}
use Rattle.step_model.specs.State.{Engine}
use Rattle.engine_core.proofs.Writes.{write_misses}
use Rattle.engine_core.proofs.parts.Parts.write.Goals as goal

pub returns-then-not-has_entry-clause-step : goal.returns-then-not-has_entry-clause-step
returns-then-not-has_entry-clause-step c =
    write_misses c.args.self.now c.args.session c.args.table.now c.args.key.now (option_copied c.args.row) c.args.manner
    (ap (λ (e : Engine). is_some (entry_at e.entries c.args.table.now c.args.key.now)) (sym c.self.view_is) ∙ sym c.if-not-has_entry.ensures)
