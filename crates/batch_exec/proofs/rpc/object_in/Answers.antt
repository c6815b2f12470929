use Rattle.std.proofs.Common.{ap, sym, ◌∙◌}
use Rattle.std.specs.Option.{option_and_then}
use Rattle.batch_meaning.specs.Rpc.{bare_name}
use Rattle.batch_exec.proofs.Requests.{defines_in}
use Rattle.batch_exec.proofs.rpc.object_in.Goals as goal

pub returns-in-Defines : goal.returns-in-Defines
returns-in-Defines c = rw c.in-Defines.is (c.bare_in.ensures ∙ ap (option_and_then bare_name) (sym (defines_in c.in-Defines.field-0 c.in-Defines.of c.in-Defines.field-2)))
