-- A step as moves, and what the locks are that it takes.
use Rattle.std.proofs.Common.{◌≡◌, ◌≢◌, ℕ, ◌==◌, Bool, true, false, if◌then◌else◌, List, [], ◌∷◌, Option, None, Some, is_some, refl, sym, ap, subst, ◌∙◌, append-nil}
use Rattle.std.specs.Option.{option_and_then}
use Rattle.std.specs.Cmp.{tied_itself}
use Rattle.value_types.specs.declared.table_name.TableName.{TableName}
use Rattle.value_types.specs.declared.value.Value.{Value}
use Rattle.step_model.specs.declared.resource.Place.{Place}
use Rattle.step_model.specs.declared.resource.Place.TheVariants.{At, End}
use Rattle.step_model.specs.declared.resource.Resource.{Resource}
use Rattle.step_model.specs.declared.resource.Span.TheVariants.{Transaction as Whole}
use Rattle.step_model.specs.Claims.{NoFoe, Claim, fetch_claim, insert_claim, write_claim, claim_of, Passes, with_claim, inside_claim, past_claim}
use Rattle.step_model.specs.Database.{includes}
use Rattle.step_model.specs.Entries.{Entry, entry_at, entry_on, place_at, seen_by, next_entry, resource_of, row_at}
use Rattle.step_model.specs.Exchange.{Exchange, IsPartOfFetch, MayAsk}
use Rattle.step_model.specs.Locks.{Lock, same_place, has_lock, is_x}
use Rattle.step_model.specs.Moves.{without_wait, drop_wait, with_wait, set_wait, after_fall, mark_victim, without_victim, drop_victim, with_session, with_locks, add_locks, with_session_in, set_at, with_pending}
use Rattle.step_model.specs.Runs.{MayStep, standing_of}
use Rattle.step_model.specs.State.{Engine, StandingWait, Transaction, locks_of, has, is_open, victim_of}
use Rattle.step_model.specs.Deadlocks.{Breaks, wait_for}
use Rattle.step_model.specs.Step.{Does, Inserts, insert_at, write_at, Waits, FallsAt, StepFrom, told_first, Hears, Step}
use Rattle.history_laws.specs.Knows.{Accords}
use Rattle.history_laws.specs.Sane.{Sane, Stands}
use Rattle.history_laws.proofs.EntryOrder.{key_cmp_total, table_cmp_total}
use Rattle.history_laws.proofs.Sessions.{locks_granted}
use Rattle.history_laws.proofs.EntryLists.{at_itself}
use Rattle.history_laws.proofs.SaneMoves.{all_saved, MayKeep}
use Rattle.lock_modes.specs.declared.KeyPart.{KeyPart}
use Rattle.lock_modes.specs.declared.KeyPart.TheVariants.{N, S, U, X}
use Rattle.lock_modes.specs.Modes.{exclusive, range_s_s}
use Rattle.step_model.specs.declared.edge.Edge.{Edge}
use Rattle.step_model.specs.declared.manner.Manner.{Manner}
use Rattle.step_model.specs.declared.range.Start.{Start}
use Rattle.step_model.specs.declared.range.Stop.{Stop}
use Rattle.step_model.specs.declared.op.Hold.{Hold}
use Rattle.step_model.specs.declared.op.Hold.TheVariants.{Row as RowAlone, Range}
use Rattle.step_model.specs.declared.op.Op.{Op}
use Rattle.step_model.specs.declared.op.Op.TheVariants.{Begin, Fetch, Insert, Replace, Erase, Mark, BackTo, Relax, Commit, Rollback}
use Rattle.step_model.specs.declared.reply.Reply.{Reply}
use Rattle.step_model.specs.declared.reply.Reply.TheVariants.{Began, Row, Gone, End as Over, Done, Exists, Missing, Marked, Ended, Wait, TimedOut, Victim, Memory}
use Rattle.history_laws.proofs.Firsts.{next_there}
use Rattle.history_laws.proofs.Sessions.{open_changed}
use Rattle.history_laws.proofs.OneMove.{Move, Shifts, shifts, begins, grants, sets, adds, marks, goes_back, relaxes, commits, rolls_back, sane_move, accords_other}
use Rattle.history_laws.proofs.EntryLists.{has_back}

-- ---- the lock that is taken, if any

all_same : (session : ℕ) (ts : List Transaction) → with_session_in session (add_locks []) ts ≡ ts
all_same session [] = refl
all_same session (t ∷ ts) = by_test (t.session == session) (all_same session ts)
  where
    by_test : (b : Bool) → with_session_in session (add_locks []) ts ≡ ts
        → (if b then add_locks [] t else t) ∷ with_session_in session (add_locks []) ts ≡ t ∷ ts
    by_test true rest = ap (λ (us : List Transaction). add_locks [] t ∷ us) rest
        ∙ ap (λ (locks : List Lock). record t { locks = locks } ∷ ts) (append-nil t.locks)
    by_test false rest = ap (λ (us : List Transaction). t ∷ us) rest

pub granted_none : (session : ℕ) (engine : Engine) → with_locks session [] engine ≡ engine
granted_none session engine =
    ap (λ (ts : List Transaction). record engine { active = ts }) (all_same session engine.active)

-- what taking a claim comes to
pub data Taken (session : ℕ) (mid new : Engine) : Type 0 where
  nothing : new ≡ mid → Taken session mid new
  a_lock : (lock : Lock) → NoFoe session lock.on lock.pair mid → MayKeep mid lock
      → new ≡ with_locks session (lock ∷ []) mid → Taken session mid new

-- an entry that was found stands
pub found_stands : (xs : List Entry) (t : TableName) (k : List Value) (e : Entry) → entry_at xs t k ≡ Some e
    → Stands xs (entry_on e)
found_stands xs t k e found = ap is_some (at_itself xs e t k found)

module _ (session : ℕ) (mid : Engine) where
  pub taken_x : (t : TableName) (k : List Value) (e : Entry) → entry_at mid.entries t k ≡ Some e
      → NoFoe session (entry_on e) exclusive mid
      → Taken session mid (with_locks session (record {
        on = entry_on e;
        pair = exclusive;
        span = Whole;
      } ∷ []) mid)
  taken_x t k e found free = a_lock (record {
    on = entry_on e;
    pair = exclusive;
    span = Whole;
  }) free (record {
    shape = refl;
    key = tt;
    stands =
        found_stands mid.entries t k e found;
  }) refl

  taken_inside : (hold : Hold) (part : KeyPart) → IsPartOfFetch part → (e : Entry)
      → Stands mid.entries (entry_on e) → Passes session (Some (inside_claim hold part (entry_on e))) mid
      → Taken session mid (with_claim session (Some (inside_claim hold part (entry_on e))) mid)
  taken_inside RowAlone S may e stands free = nothing (granted_none session mid)
  taken_inside RowAlone U may e stands free =
      a_lock _ free (record { shape = refl; key = tt; stands = stands }) refl
  taken_inside RowAlone N may e stands free = absurd may
  taken_inside RowAlone X may e stands free = absurd may
  taken_inside Range S may e stands free =
      a_lock _ free (record { shape = refl; key = tt; stands = stands }) refl
  taken_inside Range U may e stands free =
      a_lock _ free (record { shape = refl; key = tt; stands = stands }) refl
  taken_inside Range N may e stands free = absurd may
  taken_inside Range X may e stands free = absurd may

  taken_past : (hold : Hold) (on : Resource) → Stands mid.entries on → Passes session (past_claim hold on) mid
      → Taken session mid (with_claim session (past_claim hold on) mid)
  taken_past RowAlone on stands free = nothing (granted_none session mid)
  taken_past Range on stands free =
      a_lock (record { on = on; pair = range_s_s; span = Whole }) free (record {
        shape = refl;
        key = tt;
        stands = stands;
      }) refl

  pub taken_fetch : (hold : Hold) (part : KeyPart) → IsPartOfFetch part
      → (t : TableName) (start : Start) (stop : Stop)
      → Passes session (fetch_claim hold part t stop (next_entry mid.entries t start)) mid
      → Taken session mid
      (with_claim session (fetch_claim hold part t stop (next_entry mid.entries t start)) mid)
  taken_fetch hold part may t start stop free = by_entry (next_entry mid.entries t start) refl free
    where
      by_entry : (o : Option Entry) → next_entry mid.entries t start ≡ o
          → Passes session (fetch_claim hold part t stop o) mid
          → Taken session mid (with_claim session (fetch_claim hold part t stop o) mid)
      by_entry None is free = taken_past hold (resource_of t None) tt free
      by_entry (Some e) is free = by_stop (includes stop e.key) free
        where
          stands : Stands mid.entries (entry_on e)
          stands = found_stands mid.entries t e.key e (next_there t start mid.entries e is)

          by_stop : (b : Bool) → Passes session (if b then Some (inside_claim hold part (entry_on e))
              else past_claim hold (entry_on e)) mid
              → Taken session mid (with_claim session (if b then Some (inside_claim hold part (entry_on e))
              else past_claim hold (entry_on e)) mid)
          by_stop true free = taken_inside hold part may e stands free
          by_stop false free = taken_past hold (entry_on e) stands free

-- ---- moves one after another

pub data Moves (session : ℕ) : Engine → Engine → Type 0 where
  done : {old new : Engine} → new ≡ old → Moves session old new
  next : {old new : Engine} (mid : Engine) → Move session old mid → Moves session mid new
      → Moves session old new

one : (session : ℕ) (old new : Engine) → Move session old new → Moves session old new
one session old new move = next new move (done refl)

pub join : (session : ℕ) (old mid new : Engine) → Moves session old mid → Moves session mid new
    → Moves session old new
join session old mid new (done is) more = rw (← is) more
join session old mid new (next first move rest) more = next first move (join session first mid new rest more)

-- ---- waits and marks

pub wait_shift : Shifts drop_wait
wait_shift = record { session = λ t. refl; locks = λ t. refl; marks = λ t. refl }

set_shift : (wait : StandingWait) → Shifts (set_wait wait)
set_shift wait = record { session = λ t. refl; locks = λ t. refl; marks = λ t. refl }

victim_shift : (cycle : List Edge) → Shifts (mark_victim cycle)
victim_shift cycle = record { session = λ t. refl; locks = λ t. refl; marks = λ t. refl }

victim_gone : Shifts drop_victim
victim_gone = record { session = λ t. refl; locks = λ t. refl; marks = λ t. refl }

-- changes of waits and marks, one after another
pub data AllShifts : Engine → Engine → Type 0 where
  unshifted : {old new : Engine} → new ≡ old → AllShifts old new
  shifted : {old new : Engine} (who : ℕ) (f : Transaction → Transaction) → Shifts f
      → AllShifts (with_session who f old) new → AllShifts old new

shift_moves : (session : ℕ) (old new : Engine) → AllShifts old new → Moves session old new
shift_moves session old new (unshifted is) = done is
shift_moves session old new (shifted who f shift rest) =
    next (with_session who f old) (shifts who f shift refl)
    (shift_moves session (with_session who f old) new rest)

break_shifts : (session : ℕ) (old new : Engine) (broken : List (List Edge)) → Breaks session old broken new
    → AllShifts old new
break_shifts session old new [] is = unshifted is
break_shifts session old new (cycle ∷ more) breaks =
    shifted breaks.0 (mark_victim cycle) (victim_shift cycle)
    (break_shifts session (after_fall breaks.0 cycle old) new more breaks.3)

shifts_end : (old mid new : Engine) → AllShifts old mid → AllShifts mid new → AllShifts old new
shifts_end old mid new (unshifted is) more = rw (← is) more
shifts_end old mid new (shifted who f shift rest) more =
    shifted who f shift (shifts_end (with_session who f old) mid new rest more)

pub wait_shifts : (session : ℕ) (mid new : Engine) (claim : Option Claim) (manner : Manner) (holder : ℕ)
    → Waits session claim mid manner holder new → AllShifts mid new
wait_shifts session mid new None manner holder waits = absurd waits
wait_shifts session mid new (Some claim) manner holder waits =
    shifted session (set_wait (wait_for claim manner.priority)) (set_shift (wait_for claim manner.priority))
    (break_shifts session (with_wait session (wait_for claim manner.priority) mid) new waits.2.broken
    waits.2.breaks)

pub fall_shifts : (session : ℕ) (mid new : Engine) (claim : Option Claim) (manner : Manner) (cycle : List Edge)
    → FallsAt session claim mid manner cycle new → AllShifts mid new
fall_shifts session mid new None manner cycle falls = absurd falls
fall_shifts session mid new (Some claim) manner cycle falls =
    shifted session (set_wait (wait_for claim manner.priority)) (set_shift (wait_for claim manner.priority))
    (shifts_end (with_wait session (wait_for claim manner.priority) mid) falls.1.last new
    (break_shifts session (with_wait session (wait_for claim manner.priority) mid) falls.1.last falls.1.broken
    falls.1.breaks) (shifted session drop_wait wait_shift (unshifted falls.1.left)))

-- a mark that is told
pub told_shifts : (session : ℕ) (mid new : Engine) → new ≡ without_victim session mid → AllShifts mid new
told_shifts session mid new is = shifted session drop_victim victim_gone (unshifted is)

taken_moves : (session : ℕ) (mid new : Engine) → is_open session mid ≡ true → Taken session mid new
    → Moves session mid new
taken_moves session mid new there (nothing is) = done is
taken_moves session mid new there (a_lock lock free may is) =
    one session mid new (grants lock there free may is)

-- with X just taken, a state can be set
pub x_taken : (session : ℕ) (mid : Engine) (on : Resource) → is_open session mid ≡ true
    → has is_x session on (with_locks session (record { on = on; pair = exclusive; span = Whole } ∷ []) mid)
    ≡ true
x_taken session mid on there =
    rw (locks_granted session (record {
      on = on;
      pair = exclusive;
      span = Whole;
    } ∷ []) mid there) (has_back is_x on (locks_of session mid) (record {
      on = on;
      pair =
          exclusive;
      span = Whole;
    } ∷ []) here_is)
  where
    on_place : (place : Place) → same_place place place ≡ true
    on_place End = refl
    on_place (At x) = rw (tied_itself key_cmp_total x) refl

    here_is : has_lock is_x on (record { on = on; pair = exclusive; span = Whole } ∷ []) ≡ true
    here_is = rw (tied_itself table_cmp_total on.table, on_place on.place) refl

module _ (session : ℕ) (mid : Engine) where
  abbrev x_lock : Entry → Lock
  x_lock e = record { on = entry_on e; pair = exclusive; span = Whole }

  set_move : (t : TableName) (k : List Value) (row : Option (List Value)) (e : Entry)
      → is_open session mid ≡ true → entry_at mid.entries t k ≡ Some e
      → NoFoe session (entry_on e) exclusive mid
      → Moves session mid (with_pending session t k row (with_locks session (x_lock e ∷ []) mid))
  set_move t k row e there found free =
      next (with_locks session (x_lock e ∷ []) mid) (grants (x_lock e) there free (record {
        shape = refl;
        key = tt;
        stands = found_stands mid.entries t k e found;
      }) refl)
      (one session (with_locks session (x_lock e ∷ []) mid)
      (with_pending session t k row (with_locks session (x_lock e ∷ []) mid))
      (sets t k row e found (x_taken session mid (entry_on e) there)
      (ap (λ (o : Option Entry). record (with_locks session (x_lock e ∷ []) mid)
      { entries = set_at (Some (record { owner = session; key = k; row = row })) mid.entries o }) found)))

  insert_moves : (t : TableName) (k row : List Value) (o : Option Entry) (reply : Reply) (new : Engine)
      → entry_at mid.entries t k ≡ o → is_open session mid ≡ true
      → NoFoe session (insert_claim t o (place_at mid.entries t k)).on
      (insert_claim t o (place_at mid.entries t k)).pair mid
      → Inserts session t k row o mid reply new → Moves session mid new
  insert_moves t k row None reply new found there free does =
      one session mid new (adds t k row there found free does.1)
  insert_moves t k row (Some e) reply new found there free does = rw does.1 (by_row (seen_by session e))
    where
      claims : claim_of mid (Insert t k row)
          ≡ Some (record { on = entry_on e; pair = exclusive; kept = Some Whole })
      claims = ap (λ (o : Option Entry). Some (insert_claim t o (place_at mid.entries t k))) found

      by_row : (row_seen : Option (List Value))
          → Moves session mid
          (insert_at session t k row row_seen (with_claim session (claim_of mid (Insert t k row)) mid))
      by_row None =
          subst (λ (claim : Option Claim). Moves session mid
          (insert_at session t k row None (with_claim session claim mid))) (sym claims)
          (set_move t k (Some row) e there found free)
      by_row (Some r) =
          subst (λ (claim : Option Claim). Moves session mid
          (insert_at session t k row (Some r) (with_claim session claim mid))) (sym claims)
          (taken_moves session mid (with_locks session (x_lock e ∷ []) mid) there
          (taken_x session mid t k e found free))

  write_moves : (t : TableName) (k : List Value) (row : Option (List Value)) (o : Option Entry) (reply : Reply)
      (new : Engine) → entry_at mid.entries t k ≡ o → is_open session mid ≡ true
      → Passes session (write_claim o) mid
      → (new ≡ write_at session t k row (row_at session mid.entries t k)
      (with_claim session (write_claim o) mid)) → Moves session mid new
  write_moves t k row None reply new found there free is = rw is (by_row (row_at session mid.entries t k) refl)
    where
      none : row_at session mid.entries t k ≡ None
      none = ap (option_and_then (seen_by session)) found

      by_row : (r : Option (List Value)) → row_at session mid.entries t k ≡ r
          → Moves session mid (write_at session t k row r (with_locks session [] mid))
      by_row None seen_by = done (granted_none session mid)
      by_row (Some r) seen_by = absurd (let h : None ≡ Some r = sym none ∙ seen_by in cc)
  write_moves t k row (Some e) reply new found there free is = rw is (by_row (row_at session mid.entries t k))
    where
      by_row : (r : Option (List Value))
          → Moves session mid (write_at session t k row r (with_locks session (x_lock e ∷ []) mid))
      by_row None =
          taken_moves session mid (with_locks session (x_lock e ∷ []) mid) there
          (taken_x session mid t k e found free)
      by_row (Some r) = set_move t k row e there found free

  pub does_moves : (op : Op) (manner : Manner) (reply : Reply) (new : Engine)
      → MayAsk (standing_of session mid) op manner → Passes session (claim_of mid op) mid
      → Does mid session op reply new → Moves session mid new
  does_moves Begin manner reply new may free does = one session mid new (begins may.0 does.1)
  does_moves (Fetch t start stop hold part) manner reply new may free does =
      rw does.1 (taken_moves session mid _ may.0.0
      (taken_fetch session mid hold part may.0.1 t start stop free))
  does_moves (Insert t k row) manner reply new may free does =
      insert_moves t k row (entry_at mid.entries t k) reply new refl may.0 free does
  does_moves (Replace t k row) manner reply new may free does =
      write_moves t k (Some row) (entry_at mid.entries t k) reply new refl may.0 free does.1
  does_moves (Erase t k) manner reply new may free does =
      write_moves t k None (entry_at mid.entries t k) reply new refl may.0 free does.1
  does_moves Mark manner reply new may free does = one session mid new (marks does.1)
  does_moves (BackTo m) manner reply new may free does = one session mid new (goes_back m does.1)
  does_moves Relax manner reply new may free does = one session mid new (relaxes does.1)
  does_moves Commit manner reply new may free does = one session mid new (commits does.1)
  does_moves Rollback manner reply new may free does = one session mid new (rolls_back does.1)

  pub from_moves : (op : Op) (manner : Manner) (reply : Reply) (new : Engine)
      → MayAsk (standing_of session mid) op manner → StepFrom mid session op manner reply new
      → Moves session mid new
  from_moves op manner Memory new may step = done step.1
  from_moves op manner (TimedOut holder holds_range asked on) new may step = done step.1
  from_moves op manner (Wait holder) new may step =
      shift_moves session mid new (wait_shifts session mid new (claim_of mid op) manner holder step)
  from_moves op manner (Victim cycle) new may step =
      shift_moves session mid new (fall_shifts session mid new (claim_of mid op) manner cycle step)
  from_moves op manner Began new may step = does_moves op manner Began new may step.0 step.1
  from_moves op manner (Row key row at) new may step =
      does_moves op manner (Row key row at) new may step.0 step.1
  from_moves op manner (Gone key at) new may step = does_moves op manner (Gone key at) new may step.0 step.1
  from_moves op manner (Over at) new may step = does_moves op manner (Over at) new may step.0 step.1
  from_moves op manner Done new may step = does_moves op manner Done new may step.0 step.1
  from_moves op manner Exists new may step = does_moves op manner Exists new may step.0 step.1
  from_moves op manner Missing new may step = does_moves op manner Missing new may step.0 step.1
  from_moves op manner (Marked mark) new may step = does_moves op manner (Marked mark) new may step.0 step.1
  from_moves op manner (Ended place) new may step = does_moves op manner (Ended place) new may step.0 step.1

-- ---- a whole step

pub calm_open : (session : ℕ) (old : Engine) → is_open session (without_wait session old) ≡ is_open session old
calm_open session old = open_changed session drop_wait (λ t. refl) old

pub calm_standing : (session : ℕ) (old : Engine)
    → standing_of session (without_wait session old) ≡ standing_of session old
calm_standing session old = rw (
  calm_open session old,
  all_saved session drop_wait (λ t. refl) (λ t. refl) old session,
) refl

hears_moves : (session : ℕ) (mid new : Engine) (op : Op) (manner : Manner) (reply : Reply)
    → (told : Option (List Edge)) → MayAsk (standing_of session mid) op manner
    → Hears told mid session op manner reply new → Moves session mid new
hears_moves session mid new op manner reply None may step = from_moves session mid op manner reply new may step
hears_moves session mid new op manner reply (Some cycle) may step =
    shift_moves session mid new (told_shifts session mid new step.1)

pub step_moves : (session : ℕ) (old new : Engine) (op : Op) (manner : Manner) (reply : Reply)
    → MayAsk (standing_of session old) op manner → Step old session op manner reply new → Moves session old new
step_moves session old new op manner reply may step =
    next (without_wait session old) (shifts session drop_wait wait_shift refl)
    (hears_moves session (without_wait session old) new op manner reply (told_first op (victim_of session old))
    (rw (calm_standing session old) may) step)

pub sane_moves : (session : ℕ) (old new : Engine) → Moves session old new → Sane old → Sane new
sane_moves session old new (done is) sane = rw is sane
sane_moves session old new (next mid move rest) sane =
    sane_moves session mid new rest (sane_move session old mid sane move)

-- every step leaves a sane engine
pub step_sane : (session : ℕ) (old new : Engine) (op : Op) (manner : Manner) (reply : Reply)
    → MayAsk (standing_of session old) op manner → Sane old → Step old session op manner reply new → Sane new
step_sane session old new op manner reply may sane step =
    sane_moves session old new (step_moves session old new op manner reply may step) sane

accords_moves : (session t : ℕ) → t ≢ session → (old new : Engine) (steps : List Exchange)
    → Moves session old new → Accords old t steps → Accords new t steps
accords_moves session t differ old new steps (done is) knows = rw is knows
accords_moves session t differ old new steps (next mid move rest) knows =
    accords_moves session t differ mid new steps rest (accords_other session t differ old mid steps move knows)

-- a step of one session keeps what is known of every other
pub other_accords : (old new : Engine) (session t : ℕ) (steps : List Exchange) (op : Op) (manner : Manner)
    (reply : Reply) → Accords old t steps → t ≢ session → MayStep old session op manner
    → Step old session op manner reply new → Accords new t steps
other_accords old new session t steps op manner reply knows differ may step =
    accords_moves session t differ old new steps (step_moves session old new op manner reply may.1 step) knows
