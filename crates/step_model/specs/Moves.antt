-- Own: what a step is made of. Each move changes a few lists; a step of the engine is one of these or a few.
use Rattle.std.specs.Prelude.{ℕ, ◌+◌, ◌==◌, ◌&&◌, nat_le, not, Bool, List, [], ◌∷◌, ◌++◌, map, filter, Option, None, Some, is_none, if◌then◌else◌}
use Rattle.std.specs.List.{list_any}
use Rattle.value_types.specs.declared.table_name.TableName.{TableName}
use Rattle.value_types.specs.declared.value.Value.{Value}
use Rattle.step_model.specs.declared.change.Change.{Change}
use Rattle.step_model.specs.declared.edge.Edge.{Edge}
use Rattle.step_model.specs.Log.{Commit as LogEntry}
use Rattle.step_model.specs.Locks.{Lock, is_x, is_whole}
use Rattle.step_model.specs.Entries.{Entry, Pending, entry_at, put_entry, entry_on, pending_of, changes_by, change_at, seen_by}
use Rattle.step_model.specs.State.{Engine, Saved, StandingWait, Transaction, has, saved_of, made_by}

-- ---- transactions

abbrev pub with_session_in : ℕ → (Transaction → Transaction) → List Transaction → List Transaction
with_session_in session f active = map {A = Transaction} {B = Transaction} (λ transaction. if transaction.session == session then f transaction else transaction) active

-- the engine where a session's transaction has changed so
abbrev pub with_session : ℕ → (Transaction → Transaction) → Engine → Engine
with_session session f engine = record engine { active = with_session_in session f engine.active }

abbrev pub drop_wait : Transaction → Transaction
drop_wait transaction = record transaction { wait = None }

-- without the session's standing wait
abbrev pub without_wait : ℕ → Engine → Engine
without_wait session engine = with_session session drop_wait engine

abbrev pub set_wait : StandingWait → Transaction → Transaction
set_wait wait transaction = record transaction { wait = Some wait }

-- where the session waits for this
abbrev pub with_wait : ℕ → StandingWait → Engine → Engine
with_wait session wait engine = with_session session (set_wait wait) engine

abbrev pub mark_victim : List Edge → Transaction → Transaction
mark_victim cycle transaction = record transaction { wait = None; victim = Some cycle }

-- where the session waits no more, and is marked as the victim of a cycle
abbrev pub after_fall : ℕ → List Edge → Engine → Engine
after_fall session cycle engine = with_session session (mark_victim cycle) engine

abbrev pub drop_victim : Transaction → Transaction
drop_victim transaction = record transaction { victim = None }

-- where the session is not marked as a victim
abbrev pub without_victim : ℕ → Engine → Engine
without_victim session engine = with_session session drop_victim engine

-- with a new transaction of the session
abbrev pub after_begin : ℕ → Engine → Engine
after_begin session engine = record engine {
  active = record { session = session; made = 0; marks = []; locks = []; wait = None; victim = None } ∷ engine.active;
}

abbrev pub add_locks : List Lock → Transaction → Transaction
add_locks more transaction = record transaction { locks = transaction.locks ++ more }

-- with these locks more of the session
abbrev pub with_locks : ℕ → List Lock → Engine → Engine
with_locks session locks engine = with_session session (add_locks locks) engine

-- ---- rows

abbrev pub with_state : Option Pending → Entry → Entry
with_state pending entry = record entry { pending = pending }

-- the entries where that one, if there is one, has this state
abbrev pub set_at : Option Pending → List Entry → Option Entry → List Entry
set_at pending entries None = entries
set_at pending entries (Some entry) = put_entry (with_state pending entry) entries

-- with this row, or its absence, as the session's pending state at the entry of the key
abbrev pub with_pending : ℕ → TableName → List Value → Option (List Value) → Engine → Engine
with_pending session table key row engine = record engine { entries = set_at (Some (record { owner = session; key = key; row = row })) engine.entries (entry_at engine.entries table key) }

abbrev pub new_entry : ℕ → TableName → List Value → List Value → Entry
new_entry session table key row = record { table = table; key = key; committed = None; pending = Some (record { owner = session; key = key; row = Some row }) }

-- with a new entry, and the session's locks on it
abbrev pub with_entry : ℕ → TableName → List Value → List Value → List Lock → Engine → Engine
with_entry session table key row locks engine = with_locks session locks (record engine { entries = put_entry (new_entry session table key row) engine.entries })

-- ---- marks

abbrev pub with_mark : ℕ → List Change → Transaction → Transaction
with_mark mark pending transaction = record transaction { made = mark; marks = transaction.marks ++ record { mark = mark; pending = pending } ∷ [] }

-- with one mark more, which has the session's pending states as they are
abbrev pub after_mark : ℕ → Engine → Engine
after_mark session engine = with_session session (with_mark (made_by session engine + 1) (pending_of session engine.entries)) engine

-- a pending state that stays when this session's are gone
abbrev pub of_others : ℕ → Option Pending → Option Pending
of_others session None = None
of_others session (Some pending) = if pending.owner == session then None else Some pending

-- the session's state that a change was, else that of others
abbrev pub pending_from : ℕ → Option Change → Option Pending → Option Pending
pending_from session None others = others
pending_from session (Some change) others = Some (record { owner = session; key = change.key; row = change.row })

-- the entry with the session's pending state as it was at a mark
abbrev pub restore : ℕ → List Change → Entry → Entry
restore session saved entry = record entry { pending = pending_from session (change_at saved entry.table entry.key) (of_others session entry.pending) }

-- of a mark and those behind it: the last one with this number
abbrev pub latest_state : List Saved → Saved → ℕ → List Change → List Change
latest_state others saved mark behind = if list_any (λ other. other.mark == mark) others then behind else (if saved.mark == mark then saved.pending else [])

-- the pending states at a mark: those of the latest mark with this number
abbrev pub state_of_mark : ℕ → List Saved → List Change
state_of_mark mark [] = []
state_of_mark mark (saved ∷ others) = latest_state others saved mark (state_of_mark mark others)

-- the marks that stay live: those whose number isn't above it
abbrev pub upto_mark : ℕ → List Saved → List Saved
upto_mark mark saved = filter (λ live. nat_le live.mark mark) saved

abbrev pub cut_marks : ℕ → Transaction → Transaction
cut_marks mark transaction = record transaction { marks = upto_mark mark transaction.marks }

-- back at a mark: no lock is freed, and no entry vanishes
abbrev pub after_back : ℕ → ℕ → Engine → Engine
after_back session mark engine = with_session session (cut_marks mark) (record engine { entries = map (restore session (state_of_mark mark (saved_of session engine))) engine.entries })

-- ---- the end of a statement, and of a transaction

abbrev pub drop_statement : Transaction → Transaction
drop_statement transaction = record transaction { locks = filter (λ lock. is_whole lock.span) transaction.locks }

-- without the session's locks of the statement
abbrev pub after_relax : ℕ → Engine → Engine
after_relax session engine = with_session session drop_statement engine

-- the entry with the session's pending state as its committed row
abbrev pub settle : ℕ → Entry → Entry
settle session entry = record entry { committed = seen_by session entry; pending = of_others session entry.pending }

-- the entry without the session's pending state
abbrev pub drop_pending : ℕ → Entry → Entry
drop_pending session entry = record entry { pending = of_others session entry.pending }

abbrev pub without_session : ℕ → List Transaction → List Transaction
without_session session active = filter (λ transaction. not (transaction.session == session)) active

-- An entry stays, unless the session has X on it and no row is committed there then. The locks are those
-- before the end.
abbrev pub stays : ℕ → Engine → Entry → Bool
stays session engine entry = not (is_none entry.committed && has is_x session (entry_on entry) engine)

-- after the end of the session's transaction: its entries changed so, its marks and locks gone
abbrev pub after_end : ℕ → (Entry → Entry) → List LogEntry → Engine → Engine
after_end session f log engine = record { entries = filter (stays session engine) (map f engine.entries); active = without_session session engine.active; log = log }

-- the log with a commit more; a transaction that changed nothing adds nothing
abbrev pub log_with : List LogEntry → ℕ → List Change → List LogEntry
log_with log session [] = log
log_with log session (change ∷ changes) = log ++ record { session = session; changes = change ∷ changes } ∷ []

-- its changes kept, and written into the log
abbrev pub after_commit : ℕ → Engine → Engine
after_commit session engine = after_end session (settle session) (log_with engine.log session (changes_by session engine.entries)) engine

-- its changes forgotten
abbrev pub after_rollback : ℕ → Engine → Engine
after_rollback session engine = after_end session (drop_pending session) engine.log engine
