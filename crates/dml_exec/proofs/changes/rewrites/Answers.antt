use Rattle.std.proofs.Common.{◌∙◌, sym}
use Rattle.std.proofs.lemmas.List.{nil_from_length}
use Rattle.dml_exec.specs.Planning.{rewrite}
use Rattle.dml_exec.proofs.Pairs.{pairs_done}
use Rattle.dml_exec.proofs.changes.rewrites.Goals as goal

pub returns : goal.returns
returns c =
    pairs_done (rewrite c.args.table.now c.args.key.now) c.loop-new.changes.items c.loop-new.rest.now c.loop-new.new-iterator.rest.items _
    (nil_from_length c.loop-new.new-iterator.rest.items (sym c.loop-new.new-iterator.rest.ok.0 ∙ c.in-None.ensures.steps.0)) c.loop-new.invariant
