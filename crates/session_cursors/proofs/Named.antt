-- The cursor of a name, by its place among the cursors.
use Rattle.std.proofs.Common.{◌≡◌, ℕ, zero, suc, ◌<◌, ◌≤◌, Bool, true, false, List, [], ◌∷◌, length, get_or, set, nat_lt, cond, Option, Some, None, refl, ap, sym, ◌∙◌, arith}
use Rattle.std.specs.Prelude.{find, position, remove, slice_get}
use Rattle.std.specs.List.{position_or_len, AllByRecursion}
use Rattle.std.proofs.lemmas.List.Folds.{find_at}
use Rattle.std.proofs.lemmas.List.Quantifiers.{position-Some}
use Rattle.session_cursors.specs.declared.cursor.Cursor.{Cursor}
use Rattle.session_cursors.specs.Cursors.{is_named, with_cursor, removed}

past_end : {X : Type 0} (xs : List X) (place : ℕ) → length xs ≤ place → slice_get xs place ≡ None
past_end [] place past = refl
past_end (x ∷ xs) zero past = absurd (omega (arith, past))
past_end (x ∷ xs) (suc place) past = past_end xs place (omega (arith, past))

not_within : (n m : ℕ) (b : Bool) → nat_lt n m ≡ b → cond b (Some n) None ≡ None → m ≤ n
not_within n m true is none = absurd (cc)
not_within n m false is none = grind (arith, is)

module _ {Q : Type 0} (name : List ℕ) where
  -- it stands at the place, and none before it has the name
  abbrev pub IsFirst : List (Cursor Q) → ℕ → Cursor Q → Type 0
  IsFirst [] place cursor = ⊥
  IsFirst (c ∷ rest) zero cursor = (is_named name c ≡ true) × (c ≡ cursor)
  IsFirst (c ∷ rest) (suc place) cursor = (is_named name c ≡ false) × IsFirst rest place cursor

  first_from : (cursors : List (Cursor Q)) (place : ℕ) (cursor : Cursor Q) → place < length cursors → is_named name (get_or cursors place cursor) ≡ true
      → ((k : ℕ) → k < place → is_named name (get_or cursors k cursor) ≡ false) → cursor ≡ get_or cursors place cursor → IsFirst cursors place cursor
  first_from [] place cursor within so before at = absurd (omega (arith, within))
  first_from (c ∷ rest) zero cursor within so before at = (so, sym at)
  first_from (c ∷ rest) (suc place) cursor within so before at =
      (before 0 (omega arith), first_from rest place cursor (omega (arith, within)) so (λ k below. before (suc k) (omega (arith, below))) at)

  pub first_at : (cursors : List (Cursor Q)) (place : ℕ) (cursor : Cursor Q) → position (is_named name) cursors ≡ Some place → cursor ≡ get_or cursors place cursor → IsFirst cursors place cursor
  first_at cursors place cursor found at = let facts = position-Some (is_named name) cursors place cursor found in first_from cursors place cursor facts.0 facts.1 facts.2 at

  -- the cursor at the place that was found, where the list that is kept is the one that is seen
  pub first_in : (items cursors : List (Cursor Q)) (place : ℕ) (cursor : Cursor Q) (found : Option ℕ) → items ≡ cursors → found ≡ position (is_named name) cursors → found ≡ Some place
      → cursor ≡ get_or items place cursor → IsFirst cursors place cursor
  first_in items cursors place cursor found seen is at there =
      first_at cursors place cursor (sym is ∙ at) (there ∙ ap (λ (list : List (Cursor Q)). get_or list place cursor) seen)

  pub is_found : (cursors : List (Cursor Q)) (place : ℕ) (cursor : Cursor Q) → IsFirst cursors place cursor → find (is_named name) cursors ≡ Some cursor
  is_found [] place cursor first = absurd first
  is_found (c ∷ rest) zero cursor first = rw first.0 (ap Some first.1)
  is_found (c ∷ rest) (suc place) cursor first = rw first.0 (is_found rest place cursor first.1)

  pub is_changed : (becomes : Cursor Q → Cursor Q) (cursors : List (Cursor Q)) (place : ℕ) (cursor : Cursor Q) → IsFirst cursors place cursor
      → set cursors place (becomes cursor) ≡ with_cursor becomes name cursors
  is_changed becomes [] place cursor first = absurd first
  is_changed becomes (c ∷ rest) zero cursor first = rw first.0 (ap (λ (one : Cursor Q). becomes one ∷ rest) (sym first.1))
  is_changed becomes (c ∷ rest) (suc place) cursor first = rw first.0 (ap (λ (others : List (Cursor Q)). c ∷ others) (is_changed becomes rest place cursor first.1))

  pub is_changed_in : (becomes : Cursor Q → Cursor Q) (items cursors : List (Cursor Q)) (place : ℕ) (cursor changed : Cursor Q) → IsFirst cursors place cursor → items ≡ cursors → changed ≡ becomes cursor
      → set items place changed ≡ with_cursor becomes name cursors
  is_changed_in becomes items cursors place cursor changed first seen is =
      ap (λ (list : List (Cursor Q)). set list place changed) seen ∙ ap (λ (one : Cursor Q). set cursors place one) is ∙ is_changed becomes cursors place cursor first

  pub is_gone : (cursors : List (Cursor Q)) (place : ℕ) (cursor : Cursor Q) → IsFirst cursors place cursor → remove cursors place ≡ removed name cursors
  is_gone [] place cursor first = absurd first
  is_gone (c ∷ rest) zero cursor first = rw first.0 refl
  is_gone (c ∷ rest) (suc place) cursor first = rw first.0 (ap (λ (others : List (Cursor Q)). c ∷ others) (is_gone rest place cursor first.1))

  -- there is none of the name
  pub is_absent : (cursors : List (Cursor Q)) → position (is_named name) cursors ≡ None → find (is_named name) cursors ≡ None
  is_absent cursors none =
      let n = position_or_len (is_named name) cursors in
      find_at (is_named name) cursors ∙ past_end cursors n (not_within n (length cursors) (nat_lt n (length cursors)) refl none)

  pub stays_so : (becomes : Cursor Q → Cursor Q) (cursors : List (Cursor Q)) → find (is_named name) cursors ≡ None → with_cursor becomes name cursors ≡ cursors
  stays_so becomes [] none = refl
  stays_so becomes (c ∷ rest) none =
      elim (is_named name c) as (λ b. cond b (Some c) (find (is_named name) rest) ≡ None → cond b (becomes c ∷ rest) (c ∷ with_cursor becomes name rest) ≡ c ∷ rest) [
        | true ↦ λ is. absurd (let other = is in cc)
        | false ↦ λ is. ap (λ (others : List (Cursor Q)). c ∷ others) (stays_so becomes rest is)
      ] none

  pub stays : (cursors : List (Cursor Q)) → find (is_named name) cursors ≡ None → removed name cursors ≡ cursors
  stays [] none = refl
  stays (c ∷ rest) none =
      elim (is_named name c) as (λ b. cond b (Some c) (find (is_named name) rest) ≡ None → cond b rest (c ∷ removed name rest) ≡ c ∷ rest) [
        | true ↦ λ is. absurd (let other = is in cc)
        | false ↦ λ is. ap (λ (others : List (Cursor Q)). c ∷ others) (stays rest is)
      ] none

  -- ---- the rows that are to come stay of their types

  pub all_changed : (P : Cursor Q → Type 0) (becomes : Cursor Q → Cursor Q) (cursors : List (Cursor Q)) → ((c : Cursor Q) → P c → P (becomes c)) → AllByRecursion P cursors → AllByRecursion P (with_cursor becomes name cursors)
  all_changed P becomes [] keeps all = tt
  all_changed P becomes (c ∷ rest) keeps all =
      elim (is_named name c) as (λ b. AllByRecursion P (cond b (becomes c ∷ rest) (c ∷ with_cursor becomes name rest))) [
        | true ↦ (keeps c all.0, all.1)
        | false ↦ (all.0, all_changed P becomes rest keeps all.1)
      ]

  pub all_left : (P : Cursor Q → Type 0) (cursors : List (Cursor Q)) → AllByRecursion P cursors → AllByRecursion P (removed name cursors)
  all_left P [] all = tt
  all_left P (c ∷ rest) all =
      elim (is_named name c) as (λ b. AllByRecursion P (cond b rest (c ∷ removed name rest))) [
        | true ↦ all.1
        | false ↦ (all.0, all_left P rest all.1)
      ]
