-- The numbers that a step tells: each is the length of the log that it found.
use Rattle.std.proofs.Common.{◌≡◌, ℕ, Bool, true, false, if◌then◌else◌, List, length, Option, None, Some, refl}
use Rattle.std.specs.List.{AllByRecursion}
use Rattle.value_types.specs.declared.table_name.TableName.{TableName}
use Rattle.value_types.specs.declared.value.Value.{Value}
use Rattle.step_model.specs.declared.edge.Edge.{Edge}
use Rattle.step_model.specs.declared.manner.Manner.{Manner}
use Rattle.step_model.specs.declared.op.Op.{Op}
use Rattle.step_model.specs.declared.op.Op.TheVariants.{Begin, Fetch, Insert, Replace, Erase, Mark, BackTo, Relax, Commit, Rollback}
use Rattle.step_model.specs.declared.range.Stop.{Stop}
use Rattle.step_model.specs.declared.reply.Reply.{Reply}
use Rattle.step_model.specs.declared.reply.Reply.TheVariants.{Row, Gone, End as Over, Ended}
use Rattle.step_model.specs.Database.{includes}
use Rattle.step_model.specs.Entries.{Entry, entry_at, next_entry, row_at, seen_by}
use Rattle.step_model.specs.Fits.{numbers_of}
use Rattle.step_model.specs.Moves.{without_wait}
use Rattle.step_model.specs.State.{Engine, victim_of}
use Rattle.step_model.specs.Step.{Step, StepFrom, Hears, Does, Inserts, entry_reply, fetch_reply, insert_reply, write_reply, told_first}

-- all numbers of a reply are this one
abbrev AreAll : ℕ → Reply → Type 0
AreAll n reply = AllByRecursion (λ number. number ≡ n) (numbers_of reply)

fetch_numbers : (session : ℕ) (stop : Stop) (at : ℕ) (found : Option Entry) → AreAll at (fetch_reply session stop at found)
fetch_numbers session stop at None = (refl, tt)
fetch_numbers session stop at (Some entry) = by_stop (includes stop entry.key) (seen_by session entry)
  where
    by_stop : (b : Bool) (row : Option (List Value)) → AreAll at (if b then entry_reply row entry.key at else Over at)
    by_stop true None = (refl, tt)
    by_stop true (Some row) = (refl, tt)
    by_stop false row = (refl, tt)

insert_numbers : (n : ℕ) (seen : Option (List Value)) → AreAll n (insert_reply seen)
insert_numbers n None = tt
insert_numbers n (Some row) = tt

write_numbers : (n : ℕ) (seen : Option (List Value)) → AreAll n (write_reply seen)
write_numbers n None = tt
write_numbers n (Some row) = tt

module _ (session : ℕ) (mid new : Engine) where
  inserts_numbers : (table : TableName) (key row : List Value) (reply : Reply) (found : Option Entry) → Inserts session table key row found mid reply new → AreAll (length mid.log) reply
  inserts_numbers table key row reply None does = rw does.0 tt
  inserts_numbers table key row reply (Some entry) does = rw does.0 (insert_numbers (length mid.log) (seen_by session entry))

  does_numbers : (op : Op) (reply : Reply) → Does mid session op reply new → AreAll (length mid.log) reply
  does_numbers Begin reply does = rw does.0 tt
  does_numbers (Fetch table start stop hold part) reply does = rw does.0 (fetch_numbers session stop (length mid.log) (next_entry mid.entries table start))
  does_numbers (Insert table key row) reply does = inserts_numbers table key row reply (entry_at mid.entries table key) does
  does_numbers (Replace table key row) reply does = rw does.0 (write_numbers (length mid.log) (row_at session mid.entries table key))
  does_numbers (Erase table key) reply does = rw does.0 (write_numbers (length mid.log) (row_at session mid.entries table key))
  does_numbers Mark reply does = rw does.0 tt
  does_numbers (BackTo mark) reply does = rw does.0 tt
  does_numbers Relax reply does = rw does.0 tt
  does_numbers Commit reply does = rw does.0 (refl, tt)
  does_numbers Rollback reply does = rw does.0 (refl, tt)

  from_numbers : (op : Op) (manner : Manner) (reply : Reply) → StepFrom mid session op manner reply new → AreAll (length mid.log) reply
  from_numbers op manner (Row key row at) step = does_numbers op (Row key row at) step.1
  from_numbers op manner (Gone key at) step = does_numbers op (Gone key at) step.1
  from_numbers op manner (Over at) step = does_numbers op (Over at) step.1
  from_numbers op manner (Ended place) step = does_numbers op (Ended place) step.1
  from_numbers op manner reply step = tt

  hears_numbers : (op : Op) (manner : Manner) (reply : Reply) (told : Option (List Edge)) → Hears told mid session op manner reply new → AreAll (length mid.log) reply
  hears_numbers op manner reply None step = from_numbers op manner reply step
  hears_numbers op manner reply (Some cycle) step = rw step.0 tt

pub step_numbers : (old new : Engine) (session : ℕ) (op : Op) (manner : Manner) (reply : Reply) → Step old session op manner reply new
    → AllByRecursion (λ number. number ≡ length old.log) (numbers_of reply)
step_numbers old new session op manner reply step = hears_numbers session (without_wait session old) new op manner reply (told_first op (victim_of session old)) step
