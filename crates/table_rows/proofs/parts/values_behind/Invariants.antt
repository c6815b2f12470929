use Rattle.std.proofs.Common.{◌≡◌, drop}
use Rattle.table_rows.specs.IndexColumns.{columns_named, values_behind}
use Rattle.table_rows.proofs.parts.values_behind.Given as goal

-- the names and values that are left decide
abbrev pub invariant-loop-name : goal.invariant-loop-name
invariant-loop-name l = values_behind (columns_named l.columns (drop l.name-index l.names)) l.rest ≡ values_behind (columns_named l.columns l.names) l.values
