-- The keys at which changes insert, one change after another.
use Rattle.std.proofs.Common.{◌≡◌, refl, sym, ap, ◌∙◌, ℕ, ◌+◌, ◌<◌, Bool, true, false, ◌&&◌, ◌||◌, cond, List, length, get_or, take}
use Rattle.std.proofs.lemmas.List.Folds.{list_any_more}
use Rattle.std.specs.List.{list_any}
use Rattle.std.specs.declared.cmp.Ordering.{Ordering}
use Rattle.std.specs.declared.cmp.Ordering.TheVariants.{Less, Equal, Greater}
use Rattle.std.specs.Ordering.{is_eq, ordering_then}
use Rattle.std.specs.BTreeSet.{BTreeSet, contains}
use Rattle.value_types.specs.Order.{key_cmp, table_cmp}
use Rattle.value_types.specs.declared.value.Value.{Value}
use Rattle.step_model.specs.declared.change.Deed.{Deed}
use Rattle.step_model.specs.declared.change.Deed.TheVariants.{Erase, Replace, Insert}
use Rattle.step_model.specs.declared.change.Planned.{Planned}
use Rattle.step_model.specs.Database.{is_at}
use Rattle.step_model.specs.Own.{change_of, is_insert}
use Rattle.constraint_check.specs.declared.inserted.Spot.{Spot}
use Rattle.constraint_check.specs.Inserted.{HasSpots, spot_cmp}

-- the change inserts at this key
abbrev inserts_at : Spot → Planned → Bool
inserts_at spot other = is_insert other.deed && is_at (change_of other) spot.table.now spot.key.now

pub is_eq-then : (a b : Ordering) → is_eq (ordering_then a b) ≡ (is_eq a && is_eq b)
is_eq-then Less b = refl
is_eq-then Equal b = refl
is_eq-then Greater b = refl

pub no_insert : (deed : Deed) → ((row : List Value) → deed ≡ Insert row → ⊥) → is_insert deed ≡ false
no_insert Erase other = refl
no_insert (Replace row) other = refl
no_insert (Insert row) other = absurd (other row refl)

or-by : (a b c : Bool) → a ≡ b → cond a true c ≡ (c || b)
or-by a b true same = elim a as (λ a. cond a true true ≡ true) [ true ↦ refl | false ↦ refl ]
or-by a b false same = elim a as (λ a. cond a true false ≡ a) [ true ↦ refl | false ↦ refl ] ∙ same

or-none : (a b : Bool) → b ≡ false → a ≡ (a || b)
or-none true b none = refl
or-none false b none = sym none

module _ (changes : List Planned) (i : ℕ) (change : Planned) (below : i < length changes) (is : change ≡ get_or changes i change) where
  more : (spot : Spot) → list_any (inserts_at spot) (take (i + 1) changes) ≡ (list_any (inserts_at spot) (take i changes) || inserts_at spot change)
  more spot = list_any_more (inserts_at spot) changes i change below ∙ ap (λ other. list_any (inserts_at spot) (take i changes) || inserts_at spot other) (sym is)

  -- a change that inserts
  pub spots_more : (spots new : BTreeSet Spot) (key : Spot) → HasSpots spots (take i changes) → is_insert change.deed ≡ true → key.table.now ≡ change.table → key.key.now ≡ change.key
      → ((q : Spot) → contains spot_cmp new q ≡ cond (is_eq (spot_cmp key q)) true (contains spot_cmp spots q)) → HasSpots new (take (i + 1) changes)
  spots_more spots new key so_far inserts table at adds spot =
      let same : is_eq (spot_cmp key spot) ≡ inserts_at spot change =
      is_eq-then (table_cmp key.table.now spot.table.now) (key_cmp key.key.now spot.key.now)
      ∙ (λ k. is_eq (table_cmp (table k) spot.table.now) && is_eq (key_cmp (at k) spot.key.now))
      ∙ ap (λ b. b && is_at (change_of change) spot.table.now spot.key.now) (sym inserts) in
      adds spot ∙ ap (λ b. cond (is_eq (spot_cmp key spot)) true b) (so_far spot) ∙ or-by (is_eq (spot_cmp key spot)) (inserts_at spot change) (list_any (inserts_at spot) (take i changes)) same ∙ sym (more spot)

  -- another change
  pub spots_same : (spots : BTreeSet Spot) → HasSpots spots (take i changes) → is_insert change.deed ≡ false → HasSpots spots (take (i + 1) changes)
  spots_same spots so_far other spot =
      so_far spot ∙ or-none (list_any (inserts_at spot) (take i changes)) (inserts_at spot change) (ap (λ b. b && is_at (change_of change) spot.table.now spot.key.now) other) ∙ sym (more spot)
