use Rattle.dml_exec.specs.Planning.{moved}
use Rattle.dml_exec.proofs.Pairs.{flat_done}
use Rattle.dml_exec.proofs.changes.moves.Goals as goal

pub returns : goal.returns
returns c = flat_done (moved c.args.table.now c.args.key.now) c.loop-new.changes.items c.loop-new.rest.now c.args.news.now c.loop-new.new-index _ c.loop-new-test.false c.loop-new.invariant
