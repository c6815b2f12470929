use Rattle.statement_exec.proofs.dialogs.fetches.Goals as goal

pub returns : goal.returns
returns c = rw (c.as_ref.ensures.value, c.given_tables-tables.ensures) at c.fetches_any-is_fetched.ensures
