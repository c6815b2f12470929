use Rattle.std.proofs.Common.{sym, ap, ◌∙◌}
use Rattle.std.specs.Option.{option_map}
use Rattle.table_rows.specs.IndexColumns.{columns_named}
use Rattle.table_rows.proofs.IndexRows.{named_none, named_some}
use Rattle.table_rows.proofs.parts.has_named_columns.Goals as goal

pub returns-in-Some : goal.returns-in-Some
returns-in-Some c =
    c.is_empty.ensures ∙ named_some (columns_named c.args.columns.now c.args.names.now) c.args.values.now c.in-Some.rest.now (sym c.values_behind.ensures ∙ ap (option_map (λ rest. rest.now)) c.in-Some.is)

pub returns-in-None : goal.returns-in-None
returns-in-None c = named_none (columns_named c.args.columns.now c.args.names.now) c.args.values.now (sym c.values_behind.ensures ∙ ap (option_map (λ rest. rest.now)) c.in-None.is)
