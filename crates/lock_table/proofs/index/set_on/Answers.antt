use Rattle.std.proofs.Common.{sym, ◌∙◌, None}
use Rattle.lock_table.proofs.Finds.{keep_on}
use Rattle.lock_table.proofs.index.set_on.Goals as goal

pub returns-then-write_on : goal.returns-then-write_on
returns-then-write_on c at who =
    keep_on c.write_on.new.tables c.remove-places.new.self c.args.on.now.table None c.remove-places.ensures.updates.0 (λ place other. sym (c.write_on.ensures.empty c.if-write_on.true place other)) at who
    ∙ c.write_on.ensures.written at who
