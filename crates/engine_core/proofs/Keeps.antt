-- A lock that passes and is kept leaves the parts well-formed.
use Rattle.std.proofs.Common.{◌≡◌, ◌≢◌, ◌⊎◌, inl, inr, ℕ, ◌==◌, Bool, true, false, ◌&&◌, ◌||◌, if◌then◌else◌, List, [], ◌∷◌, ◌++◌, filter, Option, None, Some, Result, Ok, Err, IfOk, OnOk, OnErr, refl, sym, ap, ◌∙◌, eqb-true, arith}
use Rattle.std.specs.List.{AllByRecursion}
use Rattle.lock_modes.specs.declared.Pair.{Pair}
use Rattle.lock_modes.specs.Agreement.{pairs_agree}
use Rattle.value_types.specs.declared.value.Value.{Value}
use Rattle.step_model.specs.declared.resource.Resource.{Resource}
use Rattle.step_model.specs.declared.resource.Span.{Span}
use Rattle.step_model.specs.Log.{Commit as LogEntry}
use Rattle.step_model.specs.Locks.{Lock, has_lock, is_x, is_key_x, is_whole, same_resource}
use Rattle.step_model.specs.Entries.{Entry, entry_on}
use Rattle.step_model.specs.State.{Engine, locks_of, pair_of, has}
use Rattle.step_model.specs.Claims.{Claim, Passes, locks_for, kept_locks}
use Rattle.history_laws.specs.Sane.{Sane, HasOwner}
use Rattle.history_laws.proofs.Basics.{both}
use Rattle.history_laws.proofs.EntryLists.{has_append, has_filter}
use Rattle.history_laws.proofs.Pairs.{pair_x, pair_same}
use Rattle.history_laws.proofs.Sessions.{same_or_not}
use Rattle.row_store.specs.Rows.{Rows, entries_of}
use Rattle.lock_table.specs.Table.{SessionLock, of_session, ChangesLocks, KeepsLocks}
use Rattle.engine_core.specs.Transactions.{Opened, is_active}
use Rattle.engine_core.specs.Shown.{shown}
use Rattle.engine_core.specs.WellFormed.{IsIdle, IsHeld, AreHeld}
use Rattle.engine_core.proofs.Showing.{locks_shown, idle_changes, idle_same}

-- X beside another's X does not pass
pub x_clashes : (held asked : Pair) → is_key_x held.key ≡ true → is_key_x asked.key ≡ true → pairs_agree held asked ≡ true → ⊥
x_clashes held asked is also agree = grind arith

-- where X is asked and passes, nobody else has it there
pub x_is_own : (session : ℕ) (engine : Engine) (claim : Claim) → is_key_x claim.pair.key ≡ true → Passes session (Some claim) engine
    → (who : ℕ) (on : Resource) → same_resource claim.on on ≡ true → has is_x who on engine ≡ true → who ≡ session
x_is_own session engine claim asked passes who on same has_it = by_same (same_or_not who session)
  where
    there : is_key_x (pair_of who claim.on engine).key ≡ true
    there = rw (pair_same claim.on on (locks_of who engine) same) (pair_x on (locks_of who engine) has_it)

    by_same : (who ≡ session) ⊎ (who ≢ session) → who ≡ session
    by_same (inl is) = is
    by_same (inr differ) = absurd (x_clashes (pair_of who claim.on engine) claim.pair there asked (passes who differ))

-- where X is added on a resource, it was asked there
asked_x : (claim : Claim) (on : Resource) → has_lock is_x on (locks_for (Some claim)) ≡ true → (same_resource claim.on on ≡ true) × (is_key_x claim.pair.key ≡ true)
asked_x claim on = by_kept claim.kept
  where
    by_test : (s k w : Bool) → (s && (k && w)) || false ≡ true → (s ≡ true) × (k ≡ true)
    by_test true true w is = (refl, refl)
    by_test true false w is = cc
    by_test false k w is = cc

    by_kept : (kept : Option Span) → has_lock is_x on (kept_locks claim.on claim.pair kept) ≡ true → (same_resource claim.on on ≡ true) × (is_key_x claim.pair.key ≡ true)
    by_kept None is = cc
    by_kept (Some span) is = by_test (same_resource claim.on on) (is_key_x claim.pair.key) (is_whole span) is

module _ (rows : Rows) (session : ℕ) (old new : List SessionLock) (active : List Opened) (log : List LogEntry) (claim : Claim)
    (idle : IsIdle old active) (passes : Passes session (Some claim) (shown rows old active log))
    (changes : ChangesLocks session (λ locks. locks ++ locks_for (Some claim)) old new) where
  abbrev pub engine : Engine
  engine = shown rows old active log

  -- who has X on an entry is the session, where X is asked there
  owner_is : (on : Resource) (who : ℕ) → has is_x who on engine ≡ true → has_lock is_x on (locks_for (Some claim)) ≡ true → who ≡ session
  owner_is on who has_it added =
      let asked = asked_x claim on added in
      x_is_own session engine claim asked.1 passes who on asked.0 has_it

  same_x : (on : Resource) (owner : ℕ) → has is_x owner on engine ≡ true → (who : ℕ) → has_lock is_x on (of_session who new) ≡ has_lock is_x on (of_session who old)
  same_x on owner has_it who = rw (changes who) (by_test (who == session) refl)
    where
      had : (more : Bool) → has_lock is_x on (locks_for (Some claim)) ≡ more → who ≡ session → has_lock is_x on (of_session who old) || more ≡ has_lock is_x on (of_session who old)
      had true added same =
          let owner_same : owner ≡ who = owner_is on owner has_it added ∙ sym same in
          let mine : has_lock is_x on (of_session who old) ≡ true = ap (has_lock is_x on) (sym (locks_shown rows old active log idle who)) ∙ (rw (← owner_same) has_it) in
          rw mine refl
      had false added same = or_false (has_lock is_x on (of_session who old))
        where
          or_false : (b : Bool) → b || false ≡ b
          or_false true = refl
          or_false false = refl

      by_test : (b : Bool) → (who == session) ≡ b → has_lock is_x on (if b then of_session who old ++ locks_for (Some claim) else of_session who old) ≡ has_lock is_x on (of_session who old)
      by_test true is = has_append is_x on (of_session who old) (locks_for (Some claim)) ∙ had (has_lock is_x on (locks_for (Some claim))) refl (eqb-true who session is)
      by_test false is = refl

  keeps_entry : (e : Entry) (o : Option (List Value)) → HasOwner engine e o → IsHeld rows old e o → IsHeld rows new e o
  keeps_entry e (Some row) owner held = tt
  keeps_entry e None owner held = λ who. held who ∙ sym (same_x (entry_on e) owner.0 owner.1 who)

  pub keeps_held : (es : List Entry) → AllByRecursion (λ e. HasOwner engine e e.committed) es → AreHeld rows old es → AreHeld rows new es
  keeps_held [] owners all = tt
  keeps_held (e ∷ es) owners all = (keeps_entry e e.committed owners.0 all.0, keeps_held es owners.1 all.1)

-- X is had where it was
pub held_alike : (rows : Rows) (old new : List SessionLock) → ((who : ℕ) (on : Resource) → has_lock is_x on (of_session who new) ≡ has_lock is_x on (of_session who old)) → (es : List Entry) → AreHeld rows old es → AreHeld rows new es
held_alike rows old new same [] all = tt
held_alike rows old new same (e ∷ es) all = (by_row e.committed all.0, held_alike rows old new same es all.1)
  where
    by_row : (o : Option (List Value)) → IsHeld rows old e o → IsHeld rows new e o
    by_row None held = λ who. held who ∙ sym (same who (entry_on e))
    by_row (Some row) held = tt

pub held_same : (rows : Rows) (old new : List SessionLock) → KeepsLocks old new → (es : List Entry) → AreHeld rows old es → AreHeld rows new es
held_same rows old new same = held_alike rows old new (λ who on. ap (has_lock is_x on) (same who))

-- whatever comes of it
pub well_kept : {V E : Type 0} (rows : Rows) (session : ℕ) (old new : List SessionLock) (active : List Opened) (log : List LogEntry) (claim : Claim) (result : Result V E) → IsIdle old active → AreHeld rows old (entries_of rows)
    → is_active session active ≡ true → Sane (shown rows old active log) → Passes session (Some claim) (shown rows old active log)
    → OnOk result (ChangesLocks session (λ locks. locks ++ locks_for (Some claim)) old new) → OnErr result (KeepsLocks old new)
    → IsIdle new active × AreHeld rows new (entries_of rows)
well_kept rows session old new active log claim (Ok v) idle held begun sane passes changes same =
    (idle_changes (λ locks. locks ++ locks_for (Some claim)) session old new active begun changes idle, keeps_held rows session old new active log claim idle passes changes (entries_of rows) sane.rowless held)
well_kept rows session old new active log claim (Err e) idle held begun sane passes changes same =
    (idle_same old new active same idle, held_same rows old new same (entries_of rows) held)

pub then_ok : {V E : Type 0} {A B : Type 0} (result : Result V E) → (A → B) → OnOk result A → OnOk result B
then_ok (Ok v) f a = f a
then_ok (Err e) f a = tt

pub on_err : {V E A : Type 0} (result : Result V E) → A → OnErr result A
on_err (Ok v) a = tt
on_err (Err e) a = a

pub if_ok : {V E : Type 0} {P Q : V → Type 0} (result : Result V E) → ((v : V) → P v → Q v) → IfOk result P → IfOk result Q
if_ok (Ok v) f p = f v p
if_ok (Err e) f p = tt

-- the end of a statement frees no X
pub held_relaxed : (rows : Rows) (session : ℕ) (old new : List SessionLock) → ChangesLocks session (filter (λ lock. is_whole lock.span)) old new → (es : List Entry) → AreHeld rows old es → AreHeld rows new es
held_relaxed rows session old new changes = held_alike rows old new same
  where
    stays : (lock : Lock) → is_x lock ≡ true → is_whole lock.span ≡ true
    stays lock is = (both (is_key_x lock.pair.key) (is_whole lock.span) is).1

    same : (who : ℕ) (on : Resource) → has_lock is_x on (of_session who new) ≡ has_lock is_x on (of_session who old)
    same who on = ap (has_lock is_x on) (changes who) ∙ by_test (who == session)
      where
        by_test : (b : Bool) → has_lock is_x on (if b then filter (λ (lock : Lock). is_whole lock.span) (of_session who old) else of_session who old) ≡ has_lock is_x on (of_session who old)
        by_test true = has_filter is_x (λ (lock : Lock). is_whole lock.span) stays on (of_session who old)
        by_test false = refl
