-- One key more of a walk over a session's keys.
use Rattle.std.proofs.Common.{◌≡◌, ℕ, ◌+◌, ◌<◌, ◌≤◌, ◌^◌, Bool, true, false, if◌then◌else◌, List, [], ◌∷◌, ◌++◌, length, Option, Some, None, is_some, refl, sym, ap, ◌∙◌, subst, arith}
use Rattle.std.specs.List.{cons_option, filter_map}
use Rattle.std.specs.List.Sorted.{IsStrictlySortedBy}
use Rattle.std.specs.Option.{option_and_then, option_to_list}
use Rattle.std.proofs.lemmas.List.{append-nil, append_assoc, length-append}
use Rattle.std.proofs.lemmas.Map.Keys.{sorted_head}
use Rattle.step_model.specs.declared.change.Change.{Change}
use Rattle.row_store.specs.declared.owned.Spot.{Spot}
use Rattle.row_store.specs.Rows.{Stored, Rows, AreInOrder, at_key}
use Rattle.row_store.specs.Owned.{spot_cmp, AreReached, IsReachedBy}
use Rattle.row_store.specs.Places.{edit_at}
use Rattle.row_store.specs.Writes.{settled_left, change_in, pending_at}
use Rattle.row_store.proofs.Counts.{pending_among, all_among, none_among, count_first}
use Rattle.row_store.proofs.Steps.{Swept, IsSweep, swept_next, swept_all, told}
use Rattle.row_store.proofs.Sweeping.{nothing_changed}

-- the keys that are left behind the first
pub swept_turn : (f : Stored → Option Stored) → IsSweep f → (p : Spot) (spots rest : List Spot) (old now after : Rows) → spots ≡ p ∷ rest
    → after ≡ edit_at f p.table p.key now → Swept f spots old now → Swept f rest old after
swept_turn f sweep p spots rest old now after is made swept =
    subst (Swept f rest old) (sym made) (swept_next f sweep p rest old now (subst (λ (keys : List Spot). Swept f keys old now) is swept))

-- ---- changes

module _ (session : ℕ) where
  unchanged_left : (spots : List Spot) (xs : Rows) → AreReached (settled_left session) spots xs → IsReachedBy (change_in session) spots xs
  unchanged_left spots [] left = tt
  unchanged_left spots (x ∷ xs) left = ((λ absent. nothing_changed session x x (left.0 absent)), unchanged_left spots xs left.1)

  first_told : (p : Spot) (rest : List Spot) (old now : Rows) → Swept (settled_left session) (p ∷ rest) old now
      → filter_map (change_in session) now
      ≡ option_to_list (option_and_then (change_in session) (at_key now p.table p.key)) ++ filter_map (change_in session) (edit_at (settled_left session) p.table p.key now)
  first_told p rest old now swept =
      told p rest (sorted_head spot_cmp p rest swept.sorted) (change_in session) (change_in session) (settled_left session)
      (λ one left tied is. nothing_changed session one left is) (λ one apart. refl) now swept.ordered (unchanged_left (p ∷ rest) now swept.left)

  pub changes_turn : (p : Spot) (spots rest : List Spot) (old now after : Rows) (changes more total : List Change) → spots ≡ p ∷ rest
      → after ≡ edit_at (settled_left session) p.table p.key now → Swept (settled_left session) spots old now
      → more ≡ changes ++ option_to_list (option_and_then (change_in session) (at_key now p.table p.key))
      → changes ++ filter_map (change_in session) now ≡ total → more ++ filter_map (change_in session) after ≡ total
  changes_turn p spots rest old now after changes more total is made swept grown all =
      let told_now = first_told p rest old now (subst (λ (keys : List Spot). Swept (settled_left session) keys old now) is swept) in
      let first : List Change = option_to_list (option_and_then (change_in session) (at_key now p.table p.key)) in
      ap (λ (xs : Rows). more ++ filter_map (change_in session) xs) made
      ∙ ap (λ (cs : List Change). cs ++ filter_map (change_in session) (edit_at (settled_left session) p.table p.key now)) grown
      ∙ append_assoc changes first (filter_map (change_in session) (edit_at (settled_left session) p.table p.key now))
      ∙ ap (λ (cs : List Change). changes ++ cs) (sym told_now)
      ∙ all

-- one key has one change at most
pub room_turn : (o : Option Change) (changes more : List Change) (p : Spot) (spots rest : List Spot) → spots ≡ p ∷ rest → more ≡ changes ++ option_to_list o
    → length changes + length spots < 2 ^ 63 → length more + length rest < 2 ^ 63
room_turn o changes more p spots rest is grown room =
    let longer : length more ≡ length changes + length (option_to_list o) = ap (λ (cs : List Change). length cs) grown ∙ length-append changes (option_to_list o) in
    let shorter : length spots ≡ 1 + length rest = ap (λ (keys : List Spot). length keys) is ∙ length-append (p ∷ []) rest in
    let one = at_most_one o in
    omega (arith, longer, shorter, one, room)
  where
    at_most_one : (o : Option Change) → length (option_to_list o) ≤ 1
    at_most_one None = omega arith
    at_most_one (Some change) = omega arith

-- ---- counts

module _ (session : ℕ) (rows : Rows) (ordered : AreInOrder rows) where
  pub count_turn : (p : Spot) (spots rest : List Spot) (count total : ℕ) (b : Bool) → spots ≡ p ∷ rest → IsStrictlySortedBy spot_cmp spots
      → b ≡ is_some (option_and_then (pending_at session) (at_key rows p.table p.key))
      → count + length (filter_map (pending_among session spots) rows) ≡ total
      → (if b then count + 1 else count) + length (filter_map (pending_among session rest) rows) ≡ total
  count_turn p spots rest count total b is sorted told_here all =
      let here = subst (λ (keys : List Spot). IsStrictlySortedBy spot_cmp keys) is sorted in
      let first = count_first session p rest (sorted_head spot_cmp p rest here) rows ordered in
      by_test b told_here (sym all ∙ ap (λ (keys : List Spot). count + length (filter_map (pending_among session keys) rows)) is ∙ ap (λ (n : ℕ). count + n) first)
    where
      behind : ℕ
      behind = length (filter_map (pending_among session rest) rows)

      by_test : (c : Bool) → c ≡ is_some (option_and_then (pending_at session) (at_key rows p.table p.key))
          → total ≡ count + ((if is_some (option_and_then (pending_at session) (at_key rows p.table p.key)) then 1 else 0) + behind)
          → (if c then count + 1 else count) + behind ≡ total
      by_test true same goes = let sum : total ≡ count + (1 + behind) = goes ∙ ap (λ d. count + ((if d then 1 else 0) + behind)) (sym same) in omega (arith, sum)
      by_test false same goes = let sum : total ≡ count + (0 + behind) = goes ∙ ap (λ d. count + ((if d then 1 else 0) + behind)) (sym same) in omega (arith, sum)

  pub count_done : (spots : List Spot) (count total : ℕ) → spots ≡ [] → count + length (filter_map (pending_among session spots) rows) ≡ total → count ≡ total
  count_done spots count total is all =
      let nothing : length (filter_map (pending_among session spots) rows) ≡ 0 =
      ap (λ (keys : List Spot). length (filter_map (pending_among session keys) rows)) is ∙ ap (λ (cs : List Change). length cs) (none_among session rows) in
      omega (arith, nothing, all)

  pub count_init : (spots keys : List Spot) → spots ≡ keys → IsReachedBy (pending_at session) keys rows
      → 0 + length (filter_map (pending_among session spots) rows) ≡ length (filter_map (pending_at session) rows)
  count_init spots keys is reached =
      let same : length (filter_map (pending_among session spots) rows) ≡ length (filter_map (pending_at session) rows) =
      ap (λ (some : List Spot). length (filter_map (pending_among session some) rows)) is ∙ ap (λ (cs : List Change). length cs) (all_among session keys rows reached) in
      omega (arith, same)

-- ---- how many keys are left

pub fewer : (p : Spot) (spots rest : List Spot) → spots ≡ p ∷ rest → length spots ≡ 1 + length rest
fewer p spots rest is = ap (λ (keys : List Spot). length keys) is ∙ length-append (p ∷ []) rest

-- ---- the end of a walk

pub swept_done : (f : Stored → Option Stored) (spots : List Spot) (old now : Rows) → spots ≡ [] → Swept f spots old now → now ≡ filter_map f old
swept_done f spots old now is swept = swept_all f old now (subst (λ (keys : List Spot). Swept f keys old now) is swept)

pub changes_done : (session : ℕ) (spots : List Spot) (old now : Rows) (changes total : List Change) → spots ≡ [] → Swept (settled_left session) spots old now
    → changes ++ filter_map (change_in session) now ≡ total → changes ≡ total
changes_done session spots old now changes total is swept all =
    let nothing : filter_map (change_in session) now ≡ [] =
    none_told now (unchanged_left session [] now (subst (λ (keys : List Spot). AreReached (settled_left session) keys now) is swept.left)) in
    sym (append-nil changes) ∙ ap (λ (cs : List Change). changes ++ cs) (sym nothing) ∙ all
  where
    none_told : (xs : Rows) → IsReachedBy (change_in session) [] xs → filter_map (change_in session) xs ≡ []
    none_told [] reached = refl
    none_told (x ∷ xs) reached = ap (λ o. cons_option o (filter_map (change_in session) xs)) (reached.0 refl) ∙ none_told xs reached.1
