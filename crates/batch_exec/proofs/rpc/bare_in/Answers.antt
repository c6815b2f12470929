use Rattle.std.proofs.Common.{ap, sym, ◌∙◌}
use Rattle.std.specs.Option.{option_and_then}
use Rattle.batch_meaning.specs.Rpc.{bare_name}
use Rattle.batch_exec.proofs.rpc.bare_in.Goals as goal

pub returns-in-Some : goal.returns-in-Some
returns-in-Some c = c.bare_name.ensures ∙ ap (option_and_then bare_name) (sym c.in-Some.is ∙ c.procedure_in.ensures)

pub returns-in-None : goal.returns-in-None
returns-in-None c = ap (option_and_then bare_name) (sym c.in-None.is ∙ c.procedure_in.ensures)
