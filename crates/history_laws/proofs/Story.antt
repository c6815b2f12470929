-- The log only grows: by nothing, or at a commit by what that writes.
use Rattle.std.proofs.Common.{◌≡◌, List, [], ◌∷◌, ◌++◌, Option, None, Some, ℕ, refl, sym, ap, ◌∙◌, append-nil}
use Rattle.value_types.specs.declared.table_name.TableName.{TableName}
use Rattle.value_types.specs.declared.value.Value.{Value}
use Rattle.step_model.specs.declared.change.Change.{Change}
use Rattle.step_model.specs.declared.manner.Manner.{Manner}
use Rattle.step_model.specs.declared.op.Op.{Op}
use Rattle.step_model.specs.declared.op.Op.TheVariants as op
use Rattle.step_model.specs.declared.reply.Reply.{Reply}
use Rattle.step_model.specs.declared.reply.Reply.TheVariants as reply
use Rattle.step_model.specs.Claims.{claim_of, write_claim, with_claim}
use Rattle.step_model.specs.Entries.{Entry, changes_by, entry_at, row_at, seen_by}
use Rattle.step_model.specs.Log.{Commit as Logged}
use Rattle.step_model.specs.Moves.{log_with, with_session, without_wait}
use Rattle.history_laws.proofs.StepMoves.{AllShifts, unshifted, shifted, wait_shifts, fall_shifts}
use Rattle.step_model.specs.State.{Engine, victim_of}
use Rattle.step_model.specs.declared.edge.Edge.{Edge}
use Rattle.step_model.specs.Step.{Step, StepFrom, Hears, told_first, Does, Inserts, Writes, insert_at, write_at}

-- the log of an engine begins with another one
abbrev Grows : Engine → Engine → Type 0
Grows old new = (later : List Logged) × (new.log ≡ old.log ++ later)

grows_by_none : (old new : Engine) → new.log ≡ old.log → Grows old new
grows_by_none old new is = ([], is ∙ sym (append-nil old.log))

log_of : {a b : Engine} → a ≡ b → a.log ≡ b.log
log_of is = ap (λ (e : Engine). e.log) is

insert_keeps : (session : ℕ) (table : TableName) (key row : List Value) (there : Option (List Value)) (mid : Engine)
    → (insert_at session table key row there mid).log ≡ mid.log
insert_keeps session table key row None mid = refl
insert_keeps session table key row (Some other) mid = refl

write_keeps : (session : ℕ) (table : TableName) (key : List Value) (row there : Option (List Value)) (mid : Engine)
    → (write_at session table key row there mid).log ≡ mid.log
write_keeps session table key row None mid = refl
write_keeps session table key row (Some other) mid = refl

inserts_grow : (session : ℕ) (table : TableName) (key row : List Value) (found : Option Entry) (mid new : Engine) (answer : Reply)
    → Inserts session table key row found mid answer new → Grows mid new
inserts_grow session table key row None mid new answer did = grows_by_none mid new (log_of did.1)
inserts_grow session table key row (Some entry) mid new answer did =
    grows_by_none mid new (log_of did.1 ∙ insert_keeps session table key row (seen_by session entry) (with_claim session (claim_of mid (op.Insert table key row)) mid))

writes_grow : (session : ℕ) (table : TableName) (key : List Value) (row : Option (List Value)) (mid new : Engine) (answer : Reply)
    → Writes session table key row mid answer new → Grows mid new
writes_grow session table key row mid new answer did =
    grows_by_none mid new (log_of did.1 ∙ write_keeps session table key row (row_at session mid.entries table key) (with_claim session (write_claim (entry_at mid.entries table key)) mid))

log_grows : (log : List Logged) (session : ℕ) (changes : List Change) → (later : List Logged) × (log_with log session changes ≡ log ++ later)
log_grows log session [] = ([], sym (append-nil log))
log_grows log session (change ∷ changes) = (record { session = session; changes = change ∷ changes } ∷ [], refl)

does_grow : (session : ℕ) (mid new : Engine) (asked : Op) (answer : Reply) → Does mid session asked answer new → Grows mid new
does_grow session mid new op.Begin answer did = grows_by_none mid new (log_of did.1)
does_grow session mid new (op.Fetch table start stop hold part) answer did = grows_by_none mid new (log_of did.1)
does_grow session mid new (op.Insert table key row) answer did = inserts_grow session table key row (entry_at mid.entries table key) mid new answer did
does_grow session mid new (op.Replace table key row) answer did = writes_grow session table key (Some row) mid new answer did
does_grow session mid new (op.Erase table key) answer did = writes_grow session table key None mid new answer did
does_grow session mid new op.Mark answer did = grows_by_none mid new (log_of did.1)
does_grow session mid new (op.BackTo mark) answer did = grows_by_none mid new (log_of did.1)
does_grow session mid new op.Relax answer did = grows_by_none mid new (log_of did.1)
does_grow session mid new op.Commit answer did =
    let grown = log_grows mid.log session (changes_by session mid.entries) in (grown.0, log_of did.1 ∙ grown.1)
does_grow session mid new op.Rollback answer did = grows_by_none mid new (log_of did.1)

-- waits and marks leave the log
shifts_log : (old new : Engine) → AllShifts old new → new.log ≡ old.log
shifts_log old new (unshifted is) = log_of is
shifts_log old new (shifted who f shift rest) = shifts_log (with_session who f old) new rest

from_grows : (session : ℕ) (mid new : Engine) (asked : Op) (manner : Manner) (answer : Reply) → StepFrom mid session asked manner answer new → Grows mid new
from_grows session mid new asked manner reply.Memory step = grows_by_none mid new (log_of step.1)
from_grows session mid new asked manner (reply.TimedOut holder held wanted on) step = grows_by_none mid new (log_of step.1)
from_grows session mid new asked manner (reply.Wait holder) step = grows_by_none mid new (shifts_log mid new (wait_shifts session mid new (claim_of mid asked) manner holder step))
from_grows session mid new asked manner (reply.Victim cycle) step = grows_by_none mid new (shifts_log mid new (fall_shifts session mid new (claim_of mid asked) manner cycle step))
from_grows session mid new asked manner answer step = does_grow session mid new asked answer step.1

hears_grow : (session : ℕ) (mid new : Engine) (asked : Op) (manner : Manner) (answer : Reply) (told : Option (List Edge)) → Hears told mid session asked manner answer new → Grows mid new
hears_grow session mid new asked manner answer None step = from_grows session mid new asked manner answer step
hears_grow session mid new asked manner answer (Some cycle) step = grows_by_none mid new (log_of step.1)

pub law_story_grows : (old new : Engine) (session : ℕ) (asked : Op) (manner : Manner) (answer : Reply)
    → Step old session asked manner answer new → Grows old new
law_story_grows old new session asked manner answer step = hears_grow session (without_wait session old) new asked manner answer (told_first asked (victim_of session old)) step
