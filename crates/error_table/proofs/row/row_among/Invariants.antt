use Rattle.std.proofs.Common.{◌≡◌, drop, map}
use Rattle.error_table.specs.Table.{line_of, line_among}
use Rattle.error_table.proofs.row.row_among.Given as goal

-- what is looked for is where it is among the rows from here on
abbrev pub invariant-loop-row : goal.invariant-loop-row
invariant-loop-row l = line_among (map line_of (drop l.row-index l.rows)) l.number ≡ line_among (map line_of l.rows) l.number
