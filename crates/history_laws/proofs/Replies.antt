-- Which replies a step gives: those that may come through a port, but for the one that tells to wait.
use Rattle.std.proofs.Common.{◌≡◌, ◌⊎◌, inl, inr, ℕ, Bool, true, false, if◌then◌else◌, List, Option, None, Some, length, refl, sym, ◌∙◌}
use Rattle.value_types.specs.declared.table_name.TableName.{TableName}
use Rattle.value_types.specs.declared.value.Value.{Value}
use Rattle.lock_modes.specs.declared.Pair.{Pair}
use Rattle.lock_modes.specs.declared.KeyPart.{KeyPart}
use Rattle.step_model.specs.declared.manner.Manner.{Manner}
use Rattle.step_model.specs.declared.op.Hold.{Hold}
use Rattle.step_model.specs.declared.op.Op.{Op}
use Rattle.step_model.specs.declared.op.Op.TheVariants.{Begin, Fetch, Insert, Replace, Erase, Mark, BackTo, Relax, Commit, Rollback}
use Rattle.step_model.specs.declared.range.Start.{Start}
use Rattle.step_model.specs.declared.range.Stop.{Stop}
use Rattle.step_model.specs.declared.reply.Reply.{Reply}
use Rattle.step_model.specs.declared.reply.Reply.TheVariants.{Began, Row, Gone, End, Done, Exists, Missing, Marked, Ended, Wait, TimedOut, Victim, Memory}
use Rattle.step_model.specs.declared.resource.Resource.{Resource}
use Rattle.step_model.specs.declared.edge.Edge.{Edge}
use Rattle.step_model.specs.Claims.{Claim, claim_of}
use Rattle.step_model.specs.Database.{allows, includes}
use Rattle.step_model.specs.Entries.{Entry, next_entry, entry_at, seen_by, row_at}
use Rattle.step_model.specs.Exchange.{AsksLock, CanReply, MayLackMemory}
use Rattle.step_model.specs.Fits.{is_wait}
use Rattle.step_model.specs.Moves.{without_wait}
use Rattle.step_model.specs.State.{Engine, victim_of}
use Rattle.step_model.specs.Step.{Step, StepFrom, Hears, told_first, Does, Inserts, TimesOut, Waits, FallsAt, fetch_reply, entry_reply, insert_reply, write_reply}
use Rattle.history_laws.proofs.Firsts.{next_allows}
use Rattle.history_laws.proofs.Told.{told_is}

memory_may : (op : Op) → MayLackMemory op → CanReply op Memory
memory_may Begin may = may
memory_may (Fetch table start stop hold part) may = may
memory_may (Insert table key row) may = may
memory_may (Replace table key row) may = may
memory_may (Erase table key) may = may
memory_may Mark may = may
memory_may (BackTo mark) may = may
memory_may Relax may = may
memory_may Commit may = may
memory_may Rollback may = may

-- only what asks for a lock times out
refusal_may : (mid : Engine) (session : ℕ) (op : Op) (manner : Manner) (holder : ℕ) (held asked : Pair) (on : Resource)
    → TimesOut session (claim_of mid op) mid manner.patience holder held asked on → CanReply op (TimedOut holder held asked on)
refusal_may mid session Begin manner holder held asked on out = absurd out
refusal_may mid session (Fetch table start stop hold part) manner holder held asked on out = tt
refusal_may mid session (Insert table key row) manner holder held asked on out = tt
refusal_may mid session (Replace table key row) manner holder held asked on out = tt
refusal_may mid session (Erase table key) manner holder held asked on out = tt
refusal_may mid session Mark manner holder held asked on out = absurd out
refusal_may mid session (BackTo mark) manner holder held asked on out = absurd out
refusal_may mid session Relax manner holder held asked on out = absurd out
refusal_may mid session Commit manner holder held asked on out = absurd out
refusal_may mid session Rollback manner holder held asked on out = absurd out

-- a key that a fetch answers is one of its range
fetch_may : (session at : ℕ) (table : TableName) (start : Start) (stop : Stop) (hold : Hold) (part : KeyPart) (found : Option Entry)
    → ((entry : Entry) → found ≡ Some entry → allows start entry.key ≡ true)
    → CanReply (Fetch table start stop hold part) (fetch_reply session stop at found)
fetch_may session at table start stop hold part None starts = tt
fetch_may session at table start stop hold part (Some entry) starts = by_stop (includes stop entry.key) refl
  where
    by_row : (row : Option (List Value)) → includes stop entry.key ≡ true
        → CanReply (Fetch table start stop hold part) (entry_reply row entry.key at)
    by_row None inside = rw (starts entry refl, inside) refl
    by_row (Some row) inside = rw (starts entry refl, inside) refl

    by_stop : (b : Bool) → includes stop entry.key ≡ b
        → CanReply (Fetch table start stop hold part) (if b then entry_reply (seen_by session entry) entry.key at else End at)
    by_stop true inside = by_row (seen_by session entry) inside
    by_stop false inside = tt

insert_may : (mid new : Engine) (session : ℕ) (table : TableName) (key row : List Value) (reply : Reply) (found : Option Entry)
    → Inserts session table key row found mid reply new → CanReply (Insert table key row) reply
insert_may mid new session table key row reply None does = rw does.0 tt
insert_may mid new session table key row reply (Some entry) does = rw does.0 (by_row (seen_by session entry))
  where
    by_row : (seen : Option (List Value)) → CanReply (Insert table key row) (insert_reply seen)
    by_row None = tt
    by_row (Some there) = tt

replace_may : (table : TableName) (key row : List Value) (seen : Option (List Value)) → CanReply (Replace table key row) (write_reply seen)
replace_may table key row None = tt
replace_may table key row (Some there) = tt

erase_may : (table : TableName) (key : List Value) (seen : Option (List Value)) → CanReply (Erase table key) (write_reply seen)
erase_may table key None = tt
erase_may table key (Some there) = tt

does_may : (mid new : Engine) (session : ℕ) (op : Op) (reply : Reply) → Does mid session op reply new → CanReply op reply
does_may mid new session Begin reply does = rw does.0 tt
does_may mid new session (Fetch table start stop hold part) reply does =
    rw does.0 (fetch_may session (length mid.log) table start stop hold part (next_entry mid.entries table start)
    (λ entry found. next_allows table start mid.entries entry found))
does_may mid new session (Insert table key row) reply does = insert_may mid new session table key row reply (entry_at mid.entries table key) does
does_may mid new session (Replace table key row) reply does = rw does.0 (replace_may table key row (row_at session mid.entries table key))
does_may mid new session (Erase table key) reply does = rw does.0 (erase_may table key (row_at session mid.entries table key))
does_may mid new session Mark reply does = rw does.0 tt
does_may mid new session (BackTo mark) reply does = rw does.0 tt
does_may mid new session Relax reply does = rw does.0 tt
does_may mid new session Commit reply does = rw does.0 tt
does_may mid new session Rollback reply does = rw does.0 tt

-- a claim is only of what asks for a lock
claim_asks : (mid : Engine) (op : Op) (claim : Claim) → claim_of mid op ≡ Some claim → AsksLock op
claim_asks mid Begin claim is = cc
claim_asks mid (Fetch table start stop hold part) claim is = tt
claim_asks mid (Insert table key row) claim is = tt
claim_asks mid (Replace table key row) claim is = tt
claim_asks mid (Erase table key) claim is = tt
claim_asks mid Mark claim is = cc
claim_asks mid (BackTo mark) claim is = cc
claim_asks mid Relax claim is = cc
claim_asks mid Commit claim is = cc
claim_asks mid Rollback claim is = cc

falls_asks : (mid new : Engine) (session : ℕ) (op : Op) (manner : Manner) (cycle : List Edge) (claim : Option Claim) → claim_of mid op ≡ claim
    → FallsAt session claim mid manner cycle new → AsksLock op
falls_asks mid new session op manner cycle None is falls = absurd falls
falls_asks mid new session op manner cycle (Some claim) is falls = claim_asks mid op claim is

-- only what asks for a lock waits
pub waits_asks : (mid new : Engine) (session : ℕ) (op : Op) (manner : Manner) (holder : ℕ) (claim : Option Claim) → claim_of mid op ≡ claim
    → Waits session claim mid manner holder new → AsksLock op
waits_asks mid new session op manner holder None is waits = absurd waits
waits_asks mid new session op manner holder (Some claim) is waits = claim_asks mid op claim is

victim_may : (op : Op) (cycle : List Edge) → AsksLock op → CanReply op (Victim cycle)
victim_may Begin cycle asks = asks
victim_may (Fetch table start stop hold part) cycle asks = tt
victim_may (Insert table key row) cycle asks = tt
victim_may (Replace table key row) cycle asks = tt
victim_may (Erase table key) cycle asks = tt
victim_may Mark cycle asks = asks
victim_may (BackTo mark) cycle asks = asks
victim_may Relax cycle asks = asks
victim_may Commit cycle asks = asks
victim_may Rollback cycle asks = asks

step_may : (mid new : Engine) (session : ℕ) (op : Op) (manner : Manner) (reply : Reply) → StepFrom mid session op manner reply new
    → is_wait reply ≡ false → CanReply op reply
step_may mid new session op manner (Victim cycle) step going = victim_may op cycle (falls_asks mid new session op manner cycle (claim_of mid op) refl step)
step_may mid new session op manner Memory step going = memory_may op step.0
step_may mid new session op manner (TimedOut holder held asked on) step going = refusal_may mid session op manner holder held asked on step.0
step_may mid new session op manner (Wait holder) step going = cc
step_may mid new session op manner Began step going = does_may mid new session op Began step.1
step_may mid new session op manner (Row key row at) step going = does_may mid new session op (Row key row at) step.1
step_may mid new session op manner (Gone key at) step going = does_may mid new session op (Gone key at) step.1
step_may mid new session op manner (End at) step going = does_may mid new session op (End at) step.1
step_may mid new session op manner Done step going = does_may mid new session op Done step.1
step_may mid new session op manner Exists step going = does_may mid new session op Exists step.1
step_may mid new session op manner Missing step going = does_may mid new session op Missing step.1
step_may mid new session op manner (Marked mark) step going = does_may mid new session op (Marked mark) step.1
step_may mid new session op manner (Ended place) step going = does_may mid new session op (Ended place) step.1

-- a step's reply may come to its operation, where a mark as a victim meets only what asks for a lock
pub step_can_reply : (old new : Engine) (session : ℕ) (op : Op) (manner : Manner) (reply : Reply) → (victim_of session old ≡ None) ⊎ AsksLock op
    → Step old session op manner reply new → is_wait reply ≡ false → CanReply op reply
step_can_reply old new session op manner reply heard step going = by_told (told_first op (victim_of session old)) refl step
  where
    by_heard : (cycle : List Edge) → told_first op (victim_of session old) ≡ Some cycle → (victim_of session old ≡ None) ⊎ AsksLock op → CanReply op (Victim cycle)
    by_heard cycle is (inl none) = absurd (let h : None ≡ Some cycle = sym none ∙ told_is op (victim_of session old) cycle is in cc)
    by_heard cycle is (inr asks) = victim_may op cycle asks

    by_told : (told : Option (List Edge)) → told_first op (victim_of session old) ≡ told → Hears told (without_wait session old) session op manner reply new → CanReply op reply
    by_told None is step = step_may (without_wait session old) new session op manner reply step going
    by_told (Some cycle) is step = rw step.0 (by_heard cycle is heard)
