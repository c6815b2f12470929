use Rattle.std.proofs.Common.{◌≡◌, ◌++◌, filter_map}
use Rattle.statement_exec.specs.Slots.{table_left}
use Rattle.statement_exec.proofs.fired.tables_left.Given as goal

-- the tables so far, and those in the slots that are left, are all
abbrev pub invariant-loop-slot : goal.invariant-loop-slot
invariant-loop-slot l = l.tables.items ++ filter_map table_left l.slot-iterator.rest.items ≡ filter_map table_left l.fn.slots.items
