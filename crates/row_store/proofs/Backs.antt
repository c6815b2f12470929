-- What the way back to a mark makes of entries.
use Rattle.std.proofs.Common.{◌≡◌, ℕ, ◌<◌, ◌≤◌, ◌==◌, nat_lt, Bool, true, false, ◌&&◌, ◌||◌, if◌then◌else◌, List, [], ◌∷◌, map, Option, None, Some, refl, sym, ap, ◌∙◌, is_none, eqb-true, eq-eqb, le-ltb, ltb-false, arith}
use Rattle.std.specs.List.{AllByRecursion, cons_option}
use Rattle.std.specs.List.Sorted.{IsStrictlySortedBy}
use Rattle.std.specs.Option.{option_map}
use Rattle.std.specs.declared.cmp.Ordering.TheVariants.{Less}
use Rattle.value_types.specs.declared.table_name.TableName.{TableName}
use Rattle.value_types.specs.declared.value.Value.{Value}
use Rattle.std.proofs.lemmas.Map.Keys.{sorted_head, sorted_tail}
use Rattle.step_model.specs.declared.change.Change.{Change}
use Rattle.step_model.specs.Entries.{Entry, Pending, change_at}
use Rattle.step_model.specs.Moves.{restore, of_others, pending_from}
use Rattle.row_store.specs.Rows.{Stored, State, Work, Rows, stored_cmp, IsWellFormed, AreInOrder, AreSound, IsSound, IsWorkAt, IsStateOf, HasRowOr, entry_of, entries_of, pending_in, latest_of, KeepsMakers, KeepsPast, AreBelow, IsBelow, is_made_by, made_by, is_maker_in, is_same_key, belongs, latest_below, change_below, pending_before}
use Rattle.row_store.specs.Writes.{before_mark, back_work, back_stored}
use Rattle.row_store.proofs.Keys.{IsChangeOf, at_change, same_itself, apart_below, apart_above}

-- ---- states

-- what is below an earlier mark is so among the states that are left
earlier : (mark limit : ℕ) (states : List State) → limit ≤ mark
    → latest_below limit (before_mark mark states) ≡ latest_below limit states
earlier mark limit [] le = refl
earlier mark limit (state ∷ former) le = by_level (nat_lt state.level mark) refl (earlier mark limit former le)
  where
    by_level : (b : Bool) → nat_lt state.level mark ≡ b
        → latest_below limit (before_mark mark former) ≡ latest_below limit former
        → latest_below limit (if b then state ∷ former else before_mark mark former) ≡ latest_below limit (state ∷ former)
    by_level true is rest = refl
    by_level false is rest =
        let above : mark ≤ state.level = ltb-false state.level mark is in
        let skipped : nat_lt state.level limit ≡ false = le-ltb state.level limit (omega (arith, le, above)) in
        rest ∙ sym (ap (λ b. if b then Some state else latest_below limit former) skipped)

-- the states that are left are among those before
all_before : (P : State → Type 0) (mark : ℕ) (states : List State) → AllByRecursion P states
    → AllByRecursion P (before_mark mark states)
all_before P mark [] all = tt
all_before P mark (state ∷ former) all = by_level (nat_lt state.level mark) (all_before P mark former all.1)
  where
    by_level : (b : Bool) → AllByRecursion P (before_mark mark former)
        → AllByRecursion P (if b then state ∷ former else before_mark mark former)
    by_level true rest = all
    by_level false rest = rest

-- the latest state that is left is the latest one before the mark
latest_left : (session mark : ℕ) (states : List State)
    → latest_of session (before_mark mark states)
    ≡ pending_from session (option_map (λ state. state.change) (latest_below mark states)) None
latest_left session mark [] = refl
latest_left session mark (state ∷ former) = by_level (nat_lt state.level mark) (latest_left session mark former)
  where
    by_level : (b : Bool) → latest_of session (before_mark mark former)
        ≡ pending_from session (option_map (λ s. s.change) (latest_below mark former)) None
        → latest_of session (if b then state ∷ former else before_mark mark former)
        ≡ pending_from session (option_map (λ s. s.change) (if b then Some state else latest_below mark former)) None
    by_level true rest = refl
    by_level false rest = rest

-- ---- one entry

module _ (session mark : ℕ) where
  others_own : (states : List State) → of_others session (latest_of session states) ≡ None
  others_own [] = refl
  others_own (state ∷ former) = rw (eq-eqb session session refl) refl

  others_kept : (owner : ℕ) (states : List State) → (owner == session) ≡ false
      → of_others session (latest_of owner states) ≡ latest_of owner states
  others_kept owner [] is = refl
  others_kept owner (state ∷ former) is = rw is refl

  back_pending : (work : Option Work)
      → pending_in (back_work session mark work)
      ≡ pending_from session (change_below session mark work) (of_others session (pending_in work))
  back_pending None = refl
  back_pending (Some work) = by_owner (work.owner == session) refl
    where
      own : work.owner ≡ session
          → latest_of work.owner (before_mark mark work.states)
          ≡ pending_from session (option_map (λ state. state.change) (latest_below mark work.states)) (of_others session (latest_of work.owner work.states))
      own is =
          ap (λ (n : ℕ). latest_of n (before_mark mark work.states)) is
          ∙ latest_left session mark work.states
          ∙ ap (pending_from session (option_map (λ state. state.change) (latest_below mark work.states)))
          (sym (ap (λ (n : ℕ). of_others session (latest_of n work.states)) is ∙ others_own work.states))

      by_owner : (b : Bool) → (work.owner == session) ≡ b
          → pending_in (if b then Some (record work { states = before_mark mark work.states }) else Some work)
          ≡ pending_from session (if b then option_map (λ state. state.change) (latest_below mark work.states) else None) (of_others session (pending_in (Some work)))
      by_owner true is = own (eqb-true work.owner session is)
      by_owner false is = sym (others_kept work.owner work.states is)

  back_past : (who limit : ℕ) → (who ≡ session → limit ≤ mark) → (work : Option Work)
      → change_below who limit (back_work session mark work) ≡ change_below who limit work
  back_past who limit upto None = refl
  back_past who limit upto (Some work) = by_owner (work.owner == session) refl
    where
      by_who : (b : Bool) → (work.owner == who) ≡ b → work.owner ≡ session
          → (if b then option_map (λ state. state.change) (latest_below limit (before_mark mark work.states)) else None)
          ≡ (if b then option_map (λ state. state.change) (latest_below limit work.states) else None)
      by_who true is own =
          ap (option_map (λ (state : State). state.change))
          (earlier mark limit work.states (upto (sym (eqb-true work.owner who is) ∙ own)))
      by_who false is own = refl

      by_owner : (b : Bool) → (work.owner == session) ≡ b
          → change_below who limit (if b then Some (record work { states = before_mark mark work.states }) else Some work)
          ≡ change_below who limit (Some work)
      by_owner true is = by_who (work.owner == who) refl (eqb-true work.owner session is)
      by_owner false is = refl

  back_below : (who limit : ℕ) (work : Option Work) → IsBelow who limit work
      → IsBelow who limit (back_work session mark work)
  back_below who limit None below = tt
  back_below who limit (Some work) below = by_owner (work.owner == session)
    where
      by_owner : (b : Bool)
          → IsBelow who limit (if b then Some (record work { states = before_mark mark work.states }) else Some work)
      by_owner true = λ own. all_before (λ state. state.level < limit) mark work.states (below own)
      by_owner false = below

  back_at : (one : Stored) (work : Option Work) → IsWorkAt one work → IsWorkAt one (back_work session mark work)
  back_at one None at = tt
  back_at one (Some work) at = by_owner (work.owner == session)
    where
      by_owner : (b : Bool)
          → IsWorkAt one (if b then Some (record work { states = before_mark mark work.states }) else Some work)
      by_owner true = all_before (IsStateOf one) mark work.states at
      by_owner false = at

  back_made : (who : ℕ) (one : Stored) → is_made_by who (back_stored session mark one) ≡ is_made_by who one
  back_made who one = ap (λ b. is_none one.committed && b) (by_work one.work)
    where
      by_work : (work : Option Work) → made_by who (back_work session mark work) ≡ made_by who work
      by_work None = refl
      by_work (Some work) = by_owner (work.owner == session)
        where
          by_owner : (b : Bool)
              → made_by who (if b then Some (record work { states = before_mark mark work.states }) else Some work)
              ≡ made_by who (Some work)
          by_owner true = refl
          by_owner false = refl

  back_row : (work : Option Work) (row : Option (List Value)) → HasRowOr work row
      → HasRowOr (back_work session mark work) row
  back_row work (Some row) has = tt
  back_row None None has = has
  back_row (Some work) None has = by_owner (work.owner == session)
    where
      by_owner : (b : Bool)
          → is_maker_in (if b then Some (record work { states = before_mark mark work.states }) else Some work) ≡ true
      by_owner true = has
      by_owner false = has

  -- ---- all entries

  makers_back : (xs : List Stored) → KeepsMakers xs (map (back_stored session mark) xs)
  makers_back [] who t x = refl
  makers_back (one ∷ xs) who t x =
      ap (λ b. b && is_same_key t x one.table one.key || belongs who (map (back_stored session mark) xs) t x) (back_made who one)
      ∙ ap (λ b. is_made_by who one && is_same_key t x one.table one.key || b) (makers_back xs who t x)

  past_back : (xs : List Stored) → KeepsPast session mark xs (map (back_stored session mark) xs)
  past_back [] who limit upto = refl
  past_back (one ∷ xs) who limit upto =
      ap (λ o. cons_option o (pending_before who limit (map (back_stored session mark) xs))) (back_past who limit upto one.work)
      ∙ ap (cons_option (change_below who limit one.work)) (past_back xs who limit upto)

  below_back : (who limit : ℕ) (xs : List Stored) → AreBelow who limit xs
      → AreBelow who limit (map (back_stored session mark) xs)
  below_back who limit [] below = tt
  below_back who limit (one ∷ xs) below =
      (back_below who limit one.work below.0, below_back who limit xs below.1)

  sound_back : (xs : List Stored) → AreSound xs → AreSound (map (back_stored session mark) xs)
  sound_back [] sound = tt
  sound_back (one ∷ xs) sound = (
    (back_row one.work one.committed sound.0.0, back_at one one.work sound.0.1),
    sound_back xs sound.1,
  )

  all_mapped : (x : Stored) (ys : List Stored) → AllByRecursion (λ y. stored_cmp x y ≡ Less) ys
      → AllByRecursion (λ y. stored_cmp (back_stored session mark x) y ≡ Less) (map (back_stored session mark) ys)
  all_mapped x [] all = tt
  all_mapped x (y ∷ ys) all = (all.0, all_mapped x ys all.1)

  ordered_back : (xs : List Stored) → AreInOrder xs → AreInOrder (map (back_stored session mark) xs)
  unfolding IsStrictlySortedBy
  ordered_back [] ordered = tt
  ordered_back (x ∷ xs) ordered = (all_mapped x xs ordered.0, ordered_back xs ordered.1)

-- ---- the change at an entry among what was pending

-- a state's change is of its entry
of_state : (one : Stored) (limit : ℕ) (states : List State) (change : Change) → AllByRecursion (IsStateOf one) states
    → option_map (λ state. state.change) (latest_below limit states) ≡ Some change → IsChangeOf one change
of_state one limit [] change at found = cc
of_state one limit (state ∷ former) change at found =
    by_level (nat_lt state.level limit) found (of_state one limit former change at.1)
  where
    by_level : (b : Bool)
        → option_map (λ s. s.change) (if b then Some state else latest_below limit former) ≡ Some change
        → (option_map (λ s. s.change) (latest_below limit former) ≡ Some change → IsChangeOf one change)
        → IsChangeOf one change
    by_level true found rest =
        let is : state.change ≡ change = cc in
        rw (← is) (record { table = at.0.0; key = at.0.1 })
    by_level false found rest = rest found

change_of : (who limit : ℕ) (one : Stored) (work : Option Work) (change : Change) → IsWorkAt one work
    → change_below who limit work ≡ Some change → IsChangeOf one change
change_of who limit one None change at found = cc
change_of who limit one (Some work) change at found = by_owner (work.owner == who) found
  where
    by_owner : (b : Bool)
        → (if b then option_map (λ state. state.change) (latest_below limit work.states) else None) ≡ Some change
        → IsChangeOf one change
    by_owner true found = of_state one limit work.states change at found
    by_owner false found = cc

module _ (who limit : ℕ) where
  -- what is pending at an entry of another key is no change at this one
  skipped : (one : Stored) (t : TableName) (x : List Value) (rest : List Change) → IsSound one
      → is_same_key one.table one.key t x ≡ false
      → change_at (cons_option (change_below who limit one.work) rest) t x ≡ change_at rest t x
  skipped one t x rest sound apart = by_change (change_below who limit one.work) refl
    where
      by_change : (o : Option Change) → change_below who limit one.work ≡ o
          → change_at (cons_option o rest) t x ≡ change_at rest t x
      by_change None is = refl
      by_change (Some change) is =
          ap (λ b. if b then Some change else change_at rest t x)
          (at_change one change (change_of who limit one one.work change sound.1 is) t x ∙ apart)

  -- above an entry nothing is pending at its key
  none_above : (one : Stored) (xs : List Stored) → AllByRecursion (λ y. stored_cmp one y ≡ Less) xs → AreSound xs
      → change_at (pending_before who limit xs) one.table one.key ≡ None
  none_above one [] above sound = refl
  none_above one (y ∷ xs) above sound =
      skipped y one.table one.key (pending_before who limit xs) sound.0 (apart_above one y above.0)
      ∙ none_above one xs above.1 sound.1

  -- at its key is what is pending there
  first_there : (one : Stored) (xs : List Stored) → AllByRecursion (λ y. stored_cmp one y ≡ Less) xs → AreSound (one ∷ xs)
      → change_at (pending_before who limit (one ∷ xs)) one.table one.key ≡ change_below who limit one.work
  first_there one xs above sound = by_change (change_below who limit one.work) refl
    where
      by_change : (o : Option Change) → change_below who limit one.work ≡ o
          → change_at (cons_option o (pending_before who limit xs)) one.table one.key ≡ o
      by_change None is = none_above one xs above sound.1
      by_change (Some change) is =
          ap (λ b. if b then Some change else change_at (pending_before who limit xs) one.table one.key)
          (at_change one change (change_of who limit one one.work change sound.0.1 is) one.table one.key
          ∙ same_itself one)

  behind : (one : Stored) (xs ys : List Stored) → IsSound one → AllByRecursion (λ y. stored_cmp one y ≡ Less) ys
      → AllByRecursion (λ y. change_at (pending_before who limit xs) y.table y.key ≡ change_below who limit y.work) ys
      → AllByRecursion (λ y. change_at (pending_before who limit (one ∷ xs)) y.table y.key ≡ change_below who limit y.work) ys
  behind one xs [] sound above all = tt
  behind one xs (y ∷ ys) sound above all = (
    skipped one y.table y.key (pending_before who limit xs) sound (apart_below one y above.0) ∙ all.0,
    behind one xs ys sound above.1 all.1,
  )

  all_there : (xs : List Stored) → AreInOrder xs → AreSound xs
      → AllByRecursion (λ y. change_at (pending_before who limit xs) y.table y.key ≡ change_below who limit y.work) xs
  all_there [] ordered sound = tt
  all_there (one ∷ xs) ordered sound =
      let above = sorted_head stored_cmp one xs ordered in (
        first_there one xs above sound,
        behind one xs xs sound.0 above (all_there xs (sorted_tail stored_cmp one xs ordered) sound.1),
      )

-- ---- the entries

restored : (session mark : ℕ) (saved : List Change) (xs : List Stored)
    → AllByRecursion (λ y. change_at saved y.table y.key ≡ change_below session mark y.work) xs
    → entries_of (map (back_stored session mark) xs) ≡ map (restore session saved) (entries_of xs)
restored session mark saved [] all = refl
restored session mark saved (one ∷ xs) all =
    ap (λ (p : Option Pending). record (entry_of one) { pending = p } ∷ entries_of (map (back_stored session mark) xs))
    (back_pending session mark one.work
    ∙ ap (λ (o : Option Change). pending_from session o (of_others session (pending_in one.work))) (sym all.0))
    ∙ ap (λ (es : List Entry). restore session saved (entry_of one) ∷ es) (restored session mark saved xs all.1)

entries_back : (session mark : ℕ) (xs : List Stored) → AreInOrder xs → AreSound xs
    → entries_of (map (back_stored session mark) xs)
    ≡ map (restore session (pending_before session mark xs)) (entries_of xs)
entries_back session mark xs ordered sound =
    restored session mark (pending_before session mark xs) xs (all_there session mark xs ordered sound)

pub record IsBack (session mark : ℕ) (old new : Rows) : Type 0 where
  pub well_formed : IsWellFormed new
  pub entries : entries_of new ≡ map (restore session (pending_before session mark old)) (entries_of old)
  pub makers : KeepsMakers old new
  pub past : KeepsPast session mark old new
  pub below : (who limit : ℕ) → AreBelow who limit old → AreBelow who limit new

pub is_back : (session mark : ℕ) (xs : List Stored) → IsWellFormed xs
    → IsBack session mark xs (map (back_stored session mark) xs)
is_back session mark xs well = record {
  well_formed = record {
    ordered = ordered_back session mark xs well.ordered;
    sound = sound_back session mark xs well.sound;
  };
  entries = entries_back session mark xs well.ordered well.sound;
  makers = makers_back session mark xs;
  past = past_back session mark xs;
  below = λ who limit. below_back session mark who limit xs;
}
