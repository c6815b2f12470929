use Rattle.std.proofs.Common.{sym, ◌∙◌, None}
use Rattle.lock_table.proofs.Finds.{keep_at}
use Rattle.lock_table.proofs.by_place.set_at.Goals as goal

pub returns-then-write_at : goal.returns-then-write_at
returns-then-write_at c at who =
    keep_at c.write_at.new.keys c.remove-pairs.new.self c.args.key.now None c.remove-pairs.ensures.updates.0 (λ other. sym (c.write_at.ensures.empty c.if-write_at.true other)) at who
    ∙ c.write_at.ensures.written at who
