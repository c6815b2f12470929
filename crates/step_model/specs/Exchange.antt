-- Own: one operation with its reply, where an operation may come, and which replies may come to it through a
-- port. It does not speak of the engine behind that.
use Rattle.std.specs.Prelude.{◌≡◌, ℕ, ℤ, ◌≤◌, ◌==◌, pos, negsuc, ◌≤ℤ◌, Bool, true, false, List, IsTrue}
use Rattle.std.specs.List.{list_any}
use Rattle.lock_modes.specs.declared.KeyPart.{KeyPart}
use Rattle.lock_modes.specs.declared.KeyPart.TheVariants.{N, S, U, X}
use Rattle.step_model.specs.declared.manner.Manner.{Manner}
use Rattle.step_model.specs.declared.op.Op.{Op}
use Rattle.step_model.specs.declared.op.Op.TheVariants.{Begin, Fetch, Insert, Replace, Erase, Mark, BackTo, Relax, Commit, Rollback}
use Rattle.step_model.specs.declared.reply.Reply.{Reply}
use Rattle.step_model.specs.declared.reply.Reply.TheVariants.{Began, Row, Gone, End, Done, Exists, Missing, Marked, Ended, TimedOut, Victim, Memory}
use Rattle.step_model.specs.Database.{is_within}

-- an operation, the manner in which it was asked, and the reply
pub record Exchange : Type 0 where
  pub op : Op
  pub manner : Manner
  pub reply : Reply

-- sessions have the numbers from 1 to this one
abbrev pub last_session : ℕ
last_session = 64

-- the numbers of sessions
abbrev pub IsSession : ℕ → Type 0
IsSession session = (1 ≤ session) × (session ≤ last_session)

-- the deadlock priorities
abbrev pub IsPriority : ℤ → Type 0
IsPriority priority = (negsuc 9 ≤ℤ priority) × (priority ≤ℤ pos 10)

-- the parts of the lock on a row that a fetch may ask for
abbrev pub IsPartOfFetch : KeyPart → Type 0
IsPartOfFetch S = Unit {0}
IsPartOfFetch U = Unit {0}
IsPartOfFetch N = ⊥
IsPartOfFetch X = ⊥

-- where a session stands: whether a transaction of it is open, and the marks in that which are live
pub record Standing : Type 0 where
  pub is_open : Bool
  pub marks : List ℕ

-- Where an operation may come: a transaction is begun outside one, everything else is asked inside one, and
-- the way back goes to a live mark.
abbrev pub MayCome : Standing → Op → Type 0
MayCome standing Begin = standing.is_open ≡ false
MayCome standing (Fetch table start stop hold part) = (standing.is_open ≡ true) × IsPartOfFetch part
MayCome standing (BackTo mark) = (standing.is_open ≡ true) × IsTrue (list_any (λ live. live == mark) standing.marks)
MayCome standing op = standing.is_open ≡ true

-- where a session stands so, an operation may be asked in a manner
abbrev pub MayAsk : Standing → Op → Manner → Type 0
MayAsk standing op manner = MayCome standing op × IsPriority manner.priority

-- the operations for which memory may be wanting: all but the way back to a mark, Relax and the two ends
abbrev pub MayLackMemory : Op → Type 0
MayLackMemory (BackTo mark) = ⊥
MayLackMemory Relax = ⊥
MayLackMemory Commit = ⊥
MayLackMemory Rollback = ⊥
MayLackMemory op = Unit {0}

-- the operations that ask for a lock
abbrev pub AsksLock : Op → Type 0
AsksLock (Fetch table start stop hold part) = Unit {0}
AsksLock (Insert table key row) = Unit {0}
AsksLock (Replace table key row) = Unit {0}
AsksLock (Erase table key) = Unit {0}
AsksLock op = ⊥

-- The replies that may come to an operation through a port, which never answers that it is to be asked
-- again. A key that a fetch answers is one of its range.
abbrev pub CanReply : Op → Reply → Type 0
CanReply op Memory = MayLackMemory op
CanReply op (TimedOut holder held asked on) = AsksLock op
CanReply op (Victim cycle) = AsksLock op
CanReply Begin Began = Unit {0}
CanReply (Fetch table start stop hold part) (Row key row at) = IsTrue (is_within start stop key)
CanReply (Fetch table start stop hold part) (Gone key at) = IsTrue (is_within start stop key)
CanReply (Fetch table start stop hold part) (End at) = Unit {0}
CanReply (Insert table key row) Done = Unit {0}
CanReply (Insert table key row) Exists = Unit {0}
CanReply (Replace table key row) Done = Unit {0}
CanReply (Replace table key row) Missing = Unit {0}
CanReply (Erase table key) Done = Unit {0}
CanReply (Erase table key) Missing = Unit {0}
CanReply Mark (Marked mark) = Unit {0}
CanReply (BackTo mark) Done = Unit {0}
CanReply Relax Done = Unit {0}
CanReply Commit (Ended place) = Unit {0}
CanReply Rollback (Ended place) = Unit {0}
CanReply op reply = ⊥
