-- A new entry, with its locks.
use Rattle.std.proofs.Common.{◌≡◌, ℕ, ◌==◌, Bool, true, false, ◌||◌, if◌then◌else◌, List, [], ◌∷◌, ◌++◌, Option, None, Some, is_some, Result, Ok, Err, OnOk, OnErr, refl, sym, ap, ◌∙◌, subst}
use Rattle.std.specs.List.{AllByRecursion}
use Rattle.std.specs.Ordering.{is_eq, ordering_reverse}
use Rattle.std.specs.declared.cmp.Ordering.{Ordering}
use Rattle.std.specs.declared.cmp.Ordering.TheVariants.{Less, Equal, Greater}
use Rattle.value_types.specs.declared.table_name.TableName.{TableName}
use Rattle.value_types.specs.declared.value.Value.{Value}
use Rattle.value_types.specs.Order.{key_cmp, table_cmp}
use Rattle.step_model.specs.declared.resource.Resource.{Resource}
use Rattle.step_model.specs.Log.{Commit as LogEntry}
use Rattle.step_model.specs.Locks.{Lock, has_lock, is_x, same_resource, key_on, is_range_s, pair_on}
use Rattle.step_model.specs.Entries.{Entry, entry_at, entry_on, place_cmp, place_on, put_entry}
use Rattle.step_model.specs.State.{Engine, locks_of}
use Rattle.step_model.specs.Moves.{with_locks, with_entry, new_entry}
use Rattle.step_model.specs.Claims.{new_locks, inherits}
use Rattle.history_laws.specs.Sane.{Sane}
use Rattle.history_laws.proofs.EntryOrder.{key_cmp_total, table_cmp_total}
use Rattle.history_laws.proofs.EntryLists.{has_append, stands_at}
use Rattle.history_laws.proofs.SaneMarks.{not_some}
use Rattle.history_laws.proofs.Pairs.{pair_range}
use Rattle.history_laws.proofs.PutEntry.{all_put}
use Rattle.row_store.specs.Rows.{Rows, entries_of, belongs, is_same_key, AddsMaker, KeepsPast, KeepsBelow}
use Rattle.lock_table.specs.Table.{SessionLock, of_session, ChangesLocks, KeepsLocks}
use Rattle.engine_core.specs.Transactions.{Opened, is_active, made_in, AreDistinct, AreNumbered}
use Rattle.engine_core.specs.Shown.{shown}
use Rattle.engine_core.specs.WellFormed.{IsIdle, IsHeld, AreHeld, IsReached}
use Rattle.engine_core.proofs.Showing.{locks_shown, granted_shown, idle_changes, idle_same}
use Rattle.engine_core.proofs.Keeps.{held_same}
use Rattle.engine_core.proofs.Makers.{same_key_is}
use Rattle.engine_core.proofs.Past.{upto_made, past_same, reached_set}
use Rattle.engine_core.proofs.Sets.{same_itself}

-- none of the entries is at the key
all_absent : (t : TableName) (k : List Value) (es : List Entry) → entry_at es t k ≡ None → AllByRecursion (λ e. is_eq (place_cmp t k e) ≡ false) es
all_absent t k [] none = tt
all_absent t k (e ∷ es) none = by_test (is_eq (place_cmp t k e)) refl none (all_absent t k es)
  where
    by_test : (b : Bool) → is_eq (place_cmp t k e) ≡ b → (if b then Some e else entry_at es t k) ≡ None → (entry_at es t k ≡ None → AllByRecursion (λ e. is_eq (place_cmp t k e) ≡ false) es)
        → (b ≡ false) × AllByRecursion (λ e. is_eq (place_cmp t k e) ≡ false) es
    by_test true is none rest = cc
    by_test false is none rest = (refl, rest none)

turned : (o : Ordering) → is_eq (ordering_reverse o) ≡ is_eq o
turned Less = refl
turned Equal = refl
turned Greater = refl

same_key_turned : (t u : TableName) (x y : List Value) → is_same_key t x u y ≡ is_same_key u y t x
same_key_turned t u x y = rw (table_cmp_total.antisymm u t, key_cmp_total.antisymm y x, turned (table_cmp t u), turned (key_cmp x y)) refl

module _ (rows : Rows) (locks : List SessionLock) (active : List Opened) (log : List LogEntry) (idle : IsIdle locks active) (held : AreHeld rows locks (entries_of rows)) (session : ℕ)
    (sane : Sane (shown rows locks active log)) (t : TableName) (k row : List Value) (absent : entry_at (entries_of rows) t k ≡ None) where
  abbrev engine : Engine
  engine = shown rows locks active log

  -- nobody has a lock there
  nobody : (who : ℕ) → has_lock is_x (key_on t k) (of_session who locks) ≡ false
  nobody who = ap (has_lock is_x (key_on t k)) (sym (locks_shown rows locks active log idle who))
      ∙ not_some (has_lock is_x (key_on t k) (locks_of who engine)) (λ is. let h : false ≡ true = sym (ap is_some absent) ∙ stands_at (entries_of rows) (locks_of who engine) t k (sane.stands who) is_x is in cc)

  module _ (b : Bool) (newer : Rows) (new : List SessionLock) (changes : ChangesLocks session (λ own. own ++ new_locks t k b) locks new) (makers : AddsMaker session t k rows newer) where
    x_new : (c : Bool) → has_lock is_x (key_on t k) (new_locks t k c) ≡ true
    x_new true = rw (same_itself (key_on t k)) refl
    x_new false = rw (same_itself (key_on t k)) refl

    no_x : (on : Resource) → same_resource (key_on t k) on ≡ false → (c : Bool) → has_lock is_x on (new_locks t k c) ≡ false
    no_x on differ true = rw differ refl
    no_x on differ false = rw differ refl

    x_elsewhere : (who : ℕ) (on : Resource) → same_resource (key_on t k) on ≡ false → has_lock is_x on (of_session who new) ≡ has_lock is_x on (of_session who locks)
    x_elsewhere who on differ = ap (has_lock is_x on) (changes who) ∙ by_test (who == session)
      where
        or_false : (c : Bool) → c || false ≡ c
        or_false true = refl
        or_false false = refl

        by_test : (c : Bool) → has_lock is_x on (if c then of_session who locks ++ new_locks t k b else of_session who locks) ≡ has_lock is_x on (of_session who locks)
        by_test true = has_append is_x on (of_session who locks) (new_locks t k b) ∙ ap (λ (d : Bool). has_lock is_x on (of_session who locks) || d) (no_x on differ b) ∙ or_false (has_lock is_x on (of_session who locks))
        by_test false = refl

    held_old : (es : List Entry) → AllByRecursion (λ e. is_eq (place_cmp t k e) ≡ false) es → AreHeld rows locks es → AreHeld newer new es
    held_old [] apart all = tt
    held_old (e ∷ es) apart all = (by_row e.committed all.0, held_old es apart.1 all.1)
      where
        differ : is_same_key t k e.table e.key ≡ false
        differ = sym (same_key_is t e.table k e.key) ∙ apart.0

        by_row : (o : Option (List Value)) → IsHeld rows locks e o → IsHeld newer new e o
        by_row None held = λ who.
            makers who e.table e.key ∙ ap (λ (c : Bool). if c then who == session else belongs who rows e.table e.key) (same_key_turned e.table t e.key k ∙ differ)
            ∙ held who ∙ sym (x_elsewhere who (entry_on e) differ)
        by_row (Some r) held = tt

    held_new : IsHeld newer new (new_entry session t k row) None
    held_new who = makers who t k ∙ ap (λ (c : Bool). if c then who == session else belongs who rows t k) (same_itself (key_on t k)) ∙ sym (ap (has_lock is_x (key_on t k)) (changes who) ∙ by_test (who == session))
      where
        or_true : (c : Bool) → c || true ≡ true
        or_true true = refl
        or_true false = refl

        by_test : (c : Bool) → has_lock is_x (key_on t k) (if c then of_session who locks ++ new_locks t k b else of_session who locks) ≡ c
        by_test true = has_append is_x (key_on t k) (of_session who locks) (new_locks t k b) ∙ ap (λ (d : Bool). has_lock is_x (key_on t k) (of_session who locks) || d) (x_new b) ∙ or_true (has_lock is_x (key_on t k) (of_session who locks))
        by_test false = nobody who

    held_added : AreHeld newer new (put_entry (new_entry session t k row) (entries_of rows))
    held_added = all_put (λ e. IsHeld newer new e e.committed) (new_entry session t k row) (entries_of rows) held_new (held_old (entries_of rows) (all_absent t k (entries_of rows) absent) held)

  -- whatever comes of it
  pub well_added : {V E : Type 0} (result : Result V E) (b : Bool) (newer : Rows) (new : List SessionLock) → is_active session active ≡ true → IsReached rows active
      → OnOk result (entries_of newer ≡ put_entry (new_entry session t k row) (entries_of rows)) → OnOk result (AddsMaker session t k rows newer)
      → OnOk result (KeepsBelow session (made_in session active) rows newer) → OnOk result (ChangesLocks session (λ own. own ++ new_locks t k b) locks new)
      → OnErr result (newer ≡ rows) → OnErr result (KeepsLocks locks new)
      → IsIdle new active × AreHeld newer new (entries_of newer) × IsReached newer active
  well_added (Ok v) b newer new begun reached entries makers below changes same kept = (
    idle_changes (λ own. own ++ new_locks t k b) session locks new active begun changes idle,
    subst (AreHeld newer new) (sym entries) (held_added b newer new changes makers),
    reached_set session rows newer active begun below reached,
  )
  well_added (Err e) b newer new begun reached entries makers below changes same kept = (
    idle_same locks new active kept idle,
    rw same (held_same rows locks new kept (entries_of rows) held),
    rw same reached,
  )

  -- what the lock table says of the range above is what the model asks
  module _ (above : Resource) (above_is : above ≡ place_on (entries_of rows) t k) where
    inherits_is : is_range_s (pair_on above (of_session session locks)).range ≡ inherits session t k engine
    inherits_is =
        ap (λ (on : Resource). is_range_s (pair_on on (of_session session locks)).range) above_is
        ∙ ap (λ (ls : List Lock). is_range_s (pair_on (place_on (entries_of rows) t k) ls).range) (sym (locks_shown rows locks active log idle session))
        ∙ (pair_range (locks_of session engine) (place_on (entries_of rows) t k) (locks_of session engine) (sane.shapes session)).1

    pub added_ok : {V E : Type 0} (result : Result V E) (newer : Rows) (new : List SessionLock) (now : Engine) → engine ≡ now → AreDistinct active → AreNumbered active
        → OnOk result (entries_of newer ≡ put_entry (new_entry session t k row) (entries_of rows))
        → OnOk result (KeepsPast session (made_in session active) rows newer) → OnOk result (ChangesLocks session (λ own. own ++ new_locks t k (is_range_s (pair_on above (of_session session locks)).range)) locks new)
        → OnOk result (shown newer new active log ≡ with_entry session t k row (new_locks t k (inherits session t k now)) now)
    added_ok (Ok v) newer new now is distinct numbered entries past changes = grown ∙ ap (λ (e : Engine). with_entry session t k row (new_locks t k (inherits session t k e)) e) is
      where
        grown : shown newer new active log ≡ with_entry session t k row (new_locks t k (inherits session t k engine)) engine
        grown = λ i. record {
          entries = entries i;
          active = (past_same session (made_in session active) rows newer past new active (upto_made session active distinct numbered)
              ∙ ap (λ (e : Engine). e.active) (granted_shown rows session (new_locks t k (is_range_s (pair_on above (of_session session locks)).range)) locks new active log changes
              ∙ ap (λ (c : Bool). with_locks session (new_locks t k c) engine) inherits_is)) i;
          log = log;
        }
    added_ok (Err e) newer new now is distinct numbered entries past changes = tt
