use Rattle.std.proofs.Common.{◌≡◌, ◌++◌}
use Rattle.table_rows.specs.Definitions.{tables_of}
use Rattle.table_rows.proofs.objects.tables_of.Given as goal

-- the tables so far, and those among what is left, are all
abbrev pub invariant-loop-definition : goal.invariant-loop-definition
invariant-loop-definition l = l.tables.items ++ tables_of l.definition-iterator.rest.items ≡ tables_of l.fn.definitions.items
