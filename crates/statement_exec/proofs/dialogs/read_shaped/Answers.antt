use Rattle.std.proofs.Common.{ap, option_map, ◌∙◌}
use Rattle.batch_meaning.specs.Working.{trigger_rows}
use Rattle.statement_exec.proofs.dialogs.read_shaped.Goals as goal

pub read_given-came-requires-clause-begun : goal.read_given-came-requires-clause-begun
read_given-came-requires-clause-begun g c = rw (c.as_ref.ensures.value, c.given_tables-tables.ensures) c.requires.begun

pub returns-clause-does : goal.returns-clause-does
returns-clause-does g c = rw (c.as_ref.ensures.value, c.given_tables-tables.ensures) at c.read_given-came.ensures.does

pub returns-clause-fit : goal.returns-clause-fit
returns-clause-fit g c = λ none. c.read_given-came.ensures.fit (c.as_ref.ensures.value ∙ c.given_tables-tables.ensures ∙ ap (option_map trigger_rows) none)
