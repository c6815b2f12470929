use Rattle.dml_exec.specs.Indexes.{rewritten_of}
use Rattle.dml_exec.proofs.Pairs.{flat_done}
use Rattle.dml_exec.proofs.index.add_rewrites.Goals as goal

pub returns : goal.returns
returns c = flat_done (rewritten_of c.args.table.now c.args.places.now) c.loop-new.changes.items c.loop-new.rest.now c.args.news.now c.loop-new.new-index _ c.loop-new-test.false c.loop-new.invariant
