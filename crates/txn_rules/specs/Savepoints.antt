-- Transact-SQL reference, "SAVE TRANSACTION": the savepoints of a transaction, in the order in which they
-- were set. Several may have one name, and the latest of them counts. The code keeps the mark of the last
-- that it has met.
use Rattle.std.specs.Prelude.{ℕ, Bool, nat_le, ◌==◌, not, if◌then◌else◌, List, [], ◌∷◌, Option, Some, None, filter}
use Rattle.value_types.specs.Units.{same_units}
use Rattle.txn_rules.specs.declared.savepoints.Savepoint.{Savepoint}

-- the mark is that one or an earlier one
abbrev pub is_kept : ℕ → Savepoint → Bool
is_kept mark savepoint = nat_le savepoint.mark mark

-- the savepoints that a return to a mark leaves: those whose mark isn't above it
abbrev pub up_to : ℕ → List Savepoint → List Savepoint
up_to mark savepoints = filter (is_kept mark) savepoints

-- the savepoints of other marks
abbrev pub is_other : ℕ → Savepoint → Bool
is_other mark savepoint = not (savepoint.mark == mark)

abbrev pub without : ℕ → List Savepoint → List Savepoint
without mark savepoints = filter (is_other mark) savepoints

-- the mark of the last of the savepoints that has the name, or this one where none has
abbrev pub mark_behind : Option ℕ → List ℕ → List Savepoint → Option ℕ
mark_behind mark name [] = mark
mark_behind mark name (savepoint ∷ savepoints) =
    mark_behind (if same_units savepoint.name name then Some savepoint.mark else mark) name savepoints

-- the mark of the latest savepoint of a name
abbrev pub mark_of : List ℕ → List Savepoint → Option ℕ
mark_of name savepoints = mark_behind None name savepoints
