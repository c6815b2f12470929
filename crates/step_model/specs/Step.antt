-- Own: one step of the engine, as a relation by cases on plain lists, one case for each operation. A session asks
-- an operation; it is told first that it fell as a victim, if it did; another session's lock stands in its way, and
-- it is refused, or told to wait, or falls; or it passes, and what is asked is done. The code does in place what is
-- said here of whole lists.
use Rattle.std.specs.Prelude.{◌≡◌, ℕ, ◌+◌, List, length, Option, None, Some, if◌then◌else◌}
use Rattle.lock_modes.specs.declared.Pair.{Pair}
use Rattle.value_types.specs.declared.table_name.TableName.{TableName}
use Rattle.value_types.specs.declared.value.Value.{Value}
use Rattle.step_model.specs.declared.edge.Edge.{Edge}
use Rattle.step_model.specs.declared.manner.Manner.{Manner}
use Rattle.step_model.specs.declared.manner.Patience.{Patience}
use Rattle.step_model.specs.declared.manner.Patience.TheVariants.{Refuse, Forever}
use Rattle.step_model.specs.declared.range.Stop.{Stop}
use Rattle.step_model.specs.declared.op.Op.{Op}
use Rattle.step_model.specs.declared.op.Op.TheVariants.{Begin, Fetch, Insert, Replace, Erase, Mark, BackTo, Relax, Commit, Rollback}
use Rattle.step_model.specs.declared.reply.Reply.{Reply}
use Rattle.step_model.specs.declared.reply.Reply.TheVariants.{Began, Row, Gone, End, Done, Exists, Missing, Marked, Ended, Wait, TimedOut, Victim, Memory}
use Rattle.step_model.specs.declared.resource.Resource.{Resource}
use Rattle.step_model.specs.Database.{includes}
use Rattle.step_model.specs.Exchange.{MayLackMemory}
use Rattle.step_model.specs.Entries.{Entry, entry_at, next_entry, seen_by, row_at}
use Rattle.step_model.specs.State.{Engine, made_by, victim_of}
use Rattle.step_model.specs.Moves.{without_wait, without_victim, after_begin, with_pending, with_entry, after_mark, after_back, after_relax, after_commit, after_rollback}
use Rattle.step_model.specs.Claims.{Claim, claim_of, write_claim, IsFoe, Passes, with_claim, new_locks, inherits}
use Rattle.step_model.specs.Deadlocks.{wait_for, Queues, Falls}

-- ---- fetches

-- what a fetch answers of the entry that it finds
abbrev pub entry_reply : Option (List Value) → List Value → ℕ → Reply
entry_reply None key at = Gone key at
entry_reply (Some row) key at = Row key row at

-- what it answers: the first entry at which its range may begin, if the range includes that
abbrev pub fetch_reply : ℕ → Stop → ℕ → Option Entry → Reply
fetch_reply session stop at None = End at
fetch_reply session stop at (Some entry) = if includes stop entry.key then entry_reply (seen_by session entry) entry.key at else End at

-- ---- insertions

-- an insertion at an entry is done where its session sees no row
abbrev pub insert_reply : Option (List Value) → Reply
insert_reply None = Done
insert_reply (Some row) = Exists

-- where the session sees no row at an entry it sets one
abbrev pub insert_at : ℕ → TableName → List Value → List Value → Option (List Value) → Engine → Engine
insert_at session table key row None mid = with_pending session table key (Some row) mid
insert_at session table key row (Some there) mid = mid

-- An insertion: at an entry it sets a row, or finds one; where there is no entry it makes one.
abbrev pub Inserts : ℕ → TableName → List Value → List Value → Option Entry → Engine → Reply → Engine → Type 0
Inserts session table key row (Some entry) mid reply new = (reply ≡ insert_reply (seen_by session entry))
    × (new ≡ insert_at session table key row (seen_by session entry) (with_claim session (claim_of mid (Insert table key row)) mid))
Inserts session table key row None mid reply new = (reply ≡ Done) × (new ≡ with_entry session table key row (new_locks table key (inherits session table key mid)) mid)

-- ---- replacements and erasures

-- a write finds a row that its session sees, or none
abbrev pub write_reply : Option (List Value) → Reply
write_reply None = Missing
write_reply (Some row) = Done

-- where the session sees a row it sets another, or none
abbrev pub write_at : ℕ → TableName → List Value → Option (List Value) → Option (List Value) → Engine → Engine
write_at session table key row None mid = mid
write_at session table key row (Some there) mid = with_pending session table key row mid

-- A replacement, or an erasure: it finds a row that the session sees, or none.
abbrev pub Writes : ℕ → TableName → List Value → Option (List Value) → Engine → Reply → Engine → Type 0
Writes session table key row mid reply new = (reply ≡ write_reply (row_at session mid.entries table key))
    × (new ≡ write_at session table key row (row_at session mid.entries table key) (with_claim session (write_claim (entry_at mid.entries table key)) mid))

-- ---- an operation that passes

-- what it answers, and what it leaves
abbrev pub Does : Engine → ℕ → Op → Reply → Engine → Type 0
Does mid session Begin reply new = (reply ≡ Began) × (new ≡ after_begin session mid)
Does mid session (Fetch table start stop hold part) reply new = (reply ≡ fetch_reply session stop (length mid.log) (next_entry mid.entries table start))
    × (new ≡ with_claim session (claim_of mid (Fetch table start stop hold part)) mid)
Does mid session (Insert table key row) reply new = Inserts session table key row (entry_at mid.entries table key) mid reply new
Does mid session (Replace table key row) reply new = Writes session table key (Some row) mid reply new
Does mid session (Erase table key) reply new = Writes session table key None mid reply new
Does mid session Mark reply new = (reply ≡ Marked (made_by session mid + 1)) × (new ≡ after_mark session mid)
Does mid session (BackTo mark) reply new = (reply ≡ Done) × (new ≡ after_back session mark mid)
Does mid session Relax reply new = (reply ≡ Done) × (new ≡ after_relax session mid)
Does mid session Commit reply new = (reply ≡ Ended (length mid.log)) × (new ≡ after_commit session mid)
Does mid session Rollback reply new = (reply ≡ Ended (length mid.log)) × (new ≡ after_rollback session mid)

-- ---- an operation that does not

-- who is patient waits, and is told the lowest session that stands in the way
abbrev pub Waits : ℕ → Option Claim → Engine → Manner → ℕ → Engine → Type 0
Waits session None mid manner holder new = ⊥
Waits session (Some claim) mid manner holder new = (manner.patience ≡ Forever) × ((held : Pair) × IsFoe session claim.on claim.pair mid holder held)
    × Queues session (wait_for claim manner.priority) mid new

-- or falls at once, as the victim of a cycle that its wait would close
abbrev pub FallsAt : ℕ → Option Claim → Engine → Manner → List Edge → Engine → Type 0
FallsAt session None mid manner cycle new = ⊥
FallsAt session (Some claim) mid manner cycle new = (manner.patience ≡ Forever) × Falls session (wait_for claim manner.priority) mid cycle new

-- who isn't is told also what that has there, and what was asked
abbrev pub TimesOut : ℕ → Option Claim → Engine → Patience → ℕ → Pair → Pair → Resource → Type 0
TimesOut session None mid patience holder held asked on = ⊥
TimesOut session (Some claim) mid patience holder held asked on = (patience ≡ Refuse) × (asked ≡ claim.pair) × (on ≡ claim.on) × IsFoe session claim.on claim.pair mid holder held

-- ---- an operation

-- An operation of a session that waits no more: want of memory and a time-out leave everything as it is; who waits
-- or falls may have others fall; every other reply is that of an operation that passes.
abbrev pub StepFrom : Engine → ℕ → Op → Manner → Reply → Engine → Type 0
StepFrom mid session op manner Memory new = MayLackMemory op × (new ≡ mid)
StepFrom mid session op manner (TimedOut holder held asked on) new = TimesOut session (claim_of mid op) mid manner.patience holder held asked on × (new ≡ mid)
StepFrom mid session op manner (Wait holder) new = Waits session (claim_of mid op) mid manner holder new
StepFrom mid session op manner (Victim cycle) new = FallsAt session (claim_of mid op) mid manner cycle new
StepFrom mid session op manner reply new = Passes session (claim_of mid op) mid × Does mid session op reply new

-- ---- a step

-- the cycle of which a session that is marked as a victim has to be told first, whatever it asks; who rolls back is
-- told nothing, and its mark goes with its transaction
abbrev pub told_first : Op → Option (List Edge) → Option (List Edge)
told_first Rollback victim = None
told_first op victim = victim

-- it hears that alone, and is marked no more; else its operation is answered
abbrev pub Hears : Option (List Edge) → Engine → ℕ → Op → Manner → Reply → Engine → Type 0
Hears (Some cycle) mid session op manner reply new = (reply ≡ Victim cycle) × (new ≡ without_victim session mid)
Hears None mid session op manner reply new = StepFrom mid session op manner reply new

-- From `old`, the engine may give this reply to the operation of a session, and go on to `new`. First the
-- session's standing wait ends.
abbrev pub Step : Engine → ℕ → Op → Manner → Reply → Engine → Type 0
Step old session op manner reply new = Hears (told_first op (victim_of session old)) (without_wait session old) session op manner reply new
