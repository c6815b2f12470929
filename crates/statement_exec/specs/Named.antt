-- Own: what a name stands for where a statement names it, as the code has it.
use Rattle.std.specs.Prelude.{ℕ, List, Option, Some, None}
use Rattle.tsql_tree.specs.declared.definition.Definition.{Definition}
use Rattle.batch_meaning.specs.Working.{table_called}
use Rattle.statement_exec.specs.declared.known.StandsFor.{StandsFor}
use Rattle.statement_exec.specs.declared.known.StandsFor.TheVariants.{LookedUp, Nothing, Given}

abbrev pub known_so : List ℕ → StandsFor → Option (Option Definition)
known_so name LookedUp = None
known_so name Nothing = Some None
known_so name (Given fired) = Some (Some (table_called name fired.now))
