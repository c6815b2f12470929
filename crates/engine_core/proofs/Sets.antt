-- A state that is set at an entry.
use Rattle.std.proofs.Common.{◌≡◌, ℕ, true, List, [], ◌∷◌, ◌++◌, Option, None, Some, Result, Ok, Err, OnOk, OnErr, IfSome, IsSome, refl, sym, ap, ◌∙◌, subst}
use Rattle.std.specs.Ordering.{is_eq}
use Rattle.std.specs.Cmp.{tied_itself}
use Rattle.value_types.specs.declared.table_name.TableName.{TableName}
use Rattle.value_types.specs.declared.value.Value.{Value}
use Rattle.step_model.specs.declared.resource.Place.{Place}
use Rattle.step_model.specs.declared.resource.Place.TheVariants.{At, End}
use Rattle.step_model.specs.declared.resource.Resource.{Resource}
use Rattle.step_model.specs.Log.{Commit as LogEntry}
use Rattle.step_model.specs.Locks.{has_lock, is_x, same_resource, same_place}
use Rattle.step_model.specs.Entries.{Entry, Pending, entry_at, entry_on, place_cmp, place_on, resource_of}
use Rattle.step_model.specs.State.{Engine, has}
use Rattle.step_model.specs.Moves.{with_pending, with_state, set_at}
use Rattle.step_model.specs.Claims.{Passes, locks_for, with_claim, write_claim}
use Rattle.history_laws.specs.Sane.{Sane, IsOwned}
use Rattle.history_laws.proofs.Basics.{find_passes}
use Rattle.history_laws.proofs.EntryOrder.{key_cmp_total, table_cmp_total}
use Rattle.history_laws.proofs.Guards.{all_found}
use Rattle.history_laws.proofs.Places.{place_of_entry}
use Rattle.history_laws.proofs.PutEntry.{all_put}
use Rattle.row_store.specs.Rows.{Rows, entries_of, belongs, pending_state, IsFreeFor, MayWrite, KeepsMakers, KeepsPast, KeepsBelow}
use Rattle.lock_table.specs.Table.{SessionLock, ChangesLocks, KeepsLocks}
use Rattle.engine_core.specs.AtKeys.{claim_x}
use Rattle.engine_core.specs.Transactions.{Opened, is_active, made_in, AreDistinct, AreNumbered}
use Rattle.engine_core.specs.Shown.{shown}
use Rattle.engine_core.specs.WellFormed.{IsIdle, IsHeld, AreHeld, IsReached}
use Rattle.engine_core.proofs.Showing.{locks_shown, granted_shown, idle_changes, idle_same}
use Rattle.engine_core.proofs.Keeps.{x_is_own, keeps_held, held_same}
use Rattle.row_store.proofs.Owners.{belongs_tied}
use Rattle.engine_core.proofs.Makers.{same_key_is, made_rowless}
use Rattle.engine_core.proofs.Past.{upto_made, past_same, reached_set}

-- at an entry's key, X on its place is what a write asks
pub x_on_place : (now : Engine) → Sane now → (t : TableName) (k : List Value) → IsSome (entry_at now.entries t k) → (on : Resource) → on ≡ place_on now.entries t k → Some (claim_x on) ≡ write_claim (entry_at now.entries t k)
x_on_place now sane t k there on on_is = by_found (entry_at now.entries t k) refl there
  where
    by_found : (o : Option Entry) → entry_at now.entries t k ≡ o → IsSome o → Some (claim_x on) ≡ write_claim o
    by_found None found there = cc
    by_found (Some e) found there = ap (λ (at : Resource). Some (claim_x at)) (on_is ∙ ap (resource_of t) (place_of_entry now.entries sane.ordered t k e found))

pub same_itself : (on : Resource) → same_resource on on ≡ true
same_itself on = rw (tied_itself table_cmp_total on.table, by_place on.place) refl
  where
    by_place : (place : Place) → same_place place place ≡ true
    by_place End = refl
    by_place (At x) = rw (tied_itself key_cmp_total x) refl

module _ (rows : Rows) (locks : List SessionLock) (active : List Opened) (log : List LogEntry) (idle : IsIdle locks active) (held : AreHeld rows locks (entries_of rows)) (session : ℕ)
    (sane : Sane (shown rows locks active log)) (t : TableName) (k : List Value) (on : Resource) (on_is : on ≡ place_on (entries_of rows) t k)
    (passes : Passes session (Some (claim_x on)) (shown rows locks active log)) where
  abbrev engine : Engine
  engine = shown rows locks active log

  -- who asks X there and passes may write there
  pub may_write : IsSome (entry_at (entries_of rows) t k) → MayWrite session rows t k
  may_write there = by_found (entry_at (entries_of rows) t k) refl there
    where
      by_found : (o : Option Entry) → entry_at (entries_of rows) t k ≡ o → IsSome o → MayWrite session rows t k
      by_found None found there = cc
      by_found (Some e) found there = record {
        stands = λ none. let h : None ≡ Some e = sym none ∙ found in cc;
        free = subst (λ (o : Option Entry). IfSome o (IsFreeFor session)) (sym found) (by_pending e.pending (all_found (λ e. IsOwned engine e e.pending) (λ e. is_eq (place_cmp t k e)) (entries_of rows) e sane.pending found));
        own = λ who is. x_own who (x_of who is (made_rowless who rows t k e sane.ordered found is));
      }
        where
          here : on ≡ entry_on e
          here = on_is ∙ ap (resource_of t) (place_of_entry (entries_of rows) sane.ordered t k e found)

          x_own : (who : ℕ) → has is_x who (entry_on e) engine ≡ true → who ≡ session
          x_own who = x_is_own session engine (claim_x on) refl passes who (entry_on e) (rw here (same_itself (entry_on e)))

          by_pending : (p : Option Pending) → IsOwned engine e p → IfSome p (λ p. p.owner ≡ session)
          by_pending None owned = tt
          by_pending (Some p) owned = x_own p.owner owned.0

          x_of : (who : ℕ) → belongs who rows t k ≡ true → e.committed ≡ None → has is_x who (entry_on e) engine ≡ true
          x_of who is none =
              let tied = sym (same_key_is t e.table k e.key) ∙ find_passes (λ e. is_eq (place_cmp t k e)) (entries_of rows) e found in
              let owns : IsHeld rows locks e None = subst (IsHeld rows locks e) none (all_found (λ e. IsHeld rows locks e e.committed) (λ e. is_eq (place_cmp t k e)) (entries_of rows) e held found) in
              ap (has_lock is_x (entry_on e)) (locks_shown rows locks active log idle who) ∙ sym (owns who) ∙ sym (belongs_tied who rows t k e.table e.key tied) ∙ is

  module _ (row : Option (List Value)) (begun : is_active session active ≡ true) (newer : Rows) (new : List SessionLock)
      (changes : ChangesLocks session (λ own. own ++ locks_for (Some (claim_x on))) locks new)
      (entries : entries_of newer ≡ set_at (Some (pending_state session k row)) (entries_of rows) (entry_at (entries_of rows) t k))
      (makers : KeepsMakers rows newer) where
    held_rows : (es : List Entry) → AreHeld rows new es → AreHeld newer new es
    held_rows [] all = tt
    held_rows (e ∷ es) all = (by_row e.committed all.0, held_rows es all.1)
      where
        by_row : (o : Option (List Value)) → IsHeld rows new e o → IsHeld newer new e o
        by_row None held = λ who. makers who e.table e.key ∙ held who
        by_row (Some row) held = tt

    held_before : AreHeld newer new (entries_of rows)
    held_before = held_rows (entries_of rows) (keeps_held rows session locks new active log (claim_x on) idle passes changes (entries_of rows) sane.rowless held)

    pub held_set : AreHeld newer new (entries_of newer)
    held_set = subst (AreHeld newer new) (sym entries) (by_found (entry_at (entries_of rows) t k) refl)
      where
        by_found : (o : Option Entry) → entry_at (entries_of rows) t k ≡ o → AreHeld newer new (set_at (Some (pending_state session k row)) (entries_of rows) o)
        by_found None found = held_before
        by_found (Some e) found = all_put (λ e. IsHeld newer new e e.committed) (with_state (Some (pending_state session k row)) e) (entries_of rows)
            (all_found (λ e. IsHeld newer new e e.committed) (λ e. is_eq (place_cmp t k e)) (entries_of rows) e held_before found) held_before

    pub set_shown : (distinct : AreDistinct active) (numbered : AreNumbered active) → KeepsPast session (made_in session active) rows newer
        → shown newer new active log ≡ with_pending session t k row (with_claim session (Some (claim_x on)) engine)
    set_shown distinct numbered past = λ i. record {
      entries = entries i;
      active = (past_same session (made_in session active) rows newer past new active (upto_made session active distinct numbered)
          ∙ ap (λ (e : Engine). e.active) (granted_shown rows session (locks_for (Some (claim_x on))) locks new active log changes)) i;
      log = log;
    }

  -- whatever comes of it
  pub well_set : {V E : Type 0} (result : Result V E) (row : Option (List Value)) (newer : Rows) (new : List SessionLock) → is_active session active ≡ true → IsReached rows active
      → OnOk result (entries_of newer ≡ set_at (Some (pending_state session k row)) (entries_of rows) (entry_at (entries_of rows) t k)) → OnOk result (KeepsMakers rows newer)
      → OnOk result (KeepsBelow session (made_in session active) rows newer) → OnOk result (ChangesLocks session (λ own. own ++ locks_for (Some (claim_x on))) locks new)
      → OnErr result (newer ≡ rows) → OnErr result (KeepsLocks locks new)
      → IsIdle new active × AreHeld newer new (entries_of newer) × IsReached newer active
  well_set (Ok v) row newer new begun reached entries makers below changes same kept = (
    idle_changes (λ own. own ++ locks_for (Some (claim_x on))) session locks new active begun changes idle,
    held_set row begun newer new changes entries makers,
    reached_set session rows newer active begun below reached,
  )
  well_set (Err e) row newer new begun reached entries makers below changes same kept = (
    idle_same locks new active kept idle,
    rw same (held_same rows locks new kept (entries_of rows) held),
    rw same reached,
  )

  pub set_ok : {V E : Type 0} (result : Result V E) (row : Option (List Value)) (newer : Rows) (new : List SessionLock) (now : Engine) → engine ≡ now → is_active session active ≡ true → AreDistinct active → AreNumbered active
      → OnOk result (entries_of newer ≡ set_at (Some (pending_state session k row)) (entries_of rows) (entry_at (entries_of rows) t k)) → OnOk result (KeepsMakers rows newer)
      → OnOk result (KeepsPast session (made_in session active) rows newer) → OnOk result (ChangesLocks session (λ own. own ++ locks_for (Some (claim_x on))) locks new)
      → OnOk result (shown newer new active log ≡ with_pending session t k row (with_claim session (Some (claim_x on)) now))
  set_ok (Ok v) row newer new now is begun distinct numbered entries makers past changes =
      set_shown row begun newer new changes entries makers distinct numbered past ∙ ap (λ (e : Engine). with_pending session t k row (with_claim session (Some (claim_x on)) e)) is
  set_ok (Err e) row newer new now is begun distinct numbered entries makers past changes = tt
