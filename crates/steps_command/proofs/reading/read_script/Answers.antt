use Rattle.std.proofs.Common.{◌++◌, take}
use Rattle.std.proofs.lemmas.Result.{err_from_is_err_and}
use Rattle.steps_command.proofs.Moved.{takes_more}
use Rattle.steps_command.proofs.reading.read_script.Goals as goal

pub returns-in_err-extend_from_slice-in-Ok-clause-took : goal.returns-in_err-extend_from_slice-in-Ok-clause-took
returns-in_err-extend_from_slice-in-Ok-clause-took g c =
    let p = err_from_is_err_and c.from_residual.result c.from_residual.ensures.1 in
    rw p.1 (
      c.loop-piece.script.items ++ take c.in-Ok.n c.read.new.into,
      takes_more g.S.Source.left g.S.Source.given c.args.source.now c.loop-piece.source c.read.new.self c.loop-piece.script.items (take c.in-Ok.n c.read.new.into) c.loop-piece.invariant.took c.in-Ok.ensures.gives,
      tt,
    )
