use Rattle.std.proofs.Common.{ap, ◌∙◌}
use Rattle.tsqld.specs.Program.{status_of}
use Rattle.tsqld.proofs.Runs.{ends_well}
use Rattle.tsqld.proofs.program.pipe.Goals as goal

pub returns-clause-complete : goal.returns-clause-complete
returns-clause-complete g c = λ read write. ends_well c.args.config.now (g.S.Source.left c.args.input.now) c.serve_joined.result c.status_of.result c.status_of.ensures
    (c.serve_joined.ensures.complete (λ same. read (c.status_of.ensures ∙ ap status_of same)) (λ same. write (c.status_of.ensures ∙ ap status_of same)))

pub returns-clause-full : goal.returns-clause-full
returns-clause-full g c = c.serve_joined.ensures.full
