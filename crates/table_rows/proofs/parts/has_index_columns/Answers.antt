use Rattle.std.proofs.Common.{◌≡◌, ◌∙◌, Some, None, rules}
use Rattle.table_rows.specs.IndexColumns.{columns_named, values_behind}
use Rattle.table_rows.proofs.IndexRows.{index_none, index_some}
use Rattle.table_rows.proofs.parts.has_index_columns.Goals as goal

pub returns-in-Some : goal.returns-in-Some
returns-in-Some c =
    let is : values_behind (columns_named c.args.shape.now.columns c.args.names.now) c.args.values.now ≡ Some c.in-Some.rest.now = search rules in
    c.has_key_columns.ensures ∙ index_some c.args.shape.now c.args.names.now c.args.values.now c.in-Some.rest.now is

pub returns-in-None : goal.returns-in-None
returns-in-None c =
    let is : values_behind (columns_named c.args.shape.now.columns c.args.names.now) c.args.values.now ≡ None = search rules in
    index_none c.args.shape.now c.args.names.now c.args.values.now is
