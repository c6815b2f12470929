-- At how many keys a session has a state pending.
use Rattle.std.proofs.Common.{◌≡◌, ℕ, ◌+◌, Bool, true, false, ◌||◌, if◌then◌else◌, List, [], ◌∷◌, ◌++◌, length, Option, None, Some, is_some, refl, sym, ap, ◌∙◌}
use Rattle.std.specs.List.{AllByRecursion, cons_option, filter_map}
use Rattle.std.specs.Option.{option_and_then, option_to_list}
use Rattle.std.specs.Ordering.{is_eq, ordering_reverse}
use Rattle.std.specs.declared.cmp.Ordering.TheVariants.{Less, Equal}
use Rattle.std.proofs.lemmas.List.{length-append}
use Rattle.step_model.specs.declared.change.Change.{Change}
use Rattle.step_model.specs.Entries.{place_cmp}
use Rattle.row_store.specs.declared.owned.Spot.{Spot}
use Rattle.row_store.specs.Rows.{Stored, Rows, AreInOrder, entry_of, at_key}
use Rattle.row_store.specs.Owned.{spot_cmp, is_among, IsReachedBy}
use Rattle.row_store.specs.Places.{edit_at}
use Rattle.row_store.specs.Writes.{pending_at}
use Rattle.row_store.proofs.Puts.{place_tied}
use Rattle.row_store.proofs.Steps.{spot_cmp_total, spot_of, turned, among_tied, among_others, ApartFrom, told}

module _ (session : ℕ) where
  -- what is pending at one of these keys
  abbrev pub pending_among : List Spot → Stored → Option Change
  pending_among spots one = if is_among spots one.table one.key then pending_at session one else None

  pub all_among : (spots : List Spot) (xs : Rows) → IsReachedBy (pending_at session) spots xs
      → filter_map (pending_among spots) xs ≡ filter_map (pending_at session) xs
  all_among spots [] reached = refl
  all_among spots (x ∷ xs) reached =
      ap (λ o. cons_option o (filter_map (pending_among spots) xs)) (by_test (is_among spots x.table x.key) reached.0)
      ∙ ap (cons_option (pending_at session x)) (all_among spots xs reached.1)
    where
      by_test : (b : Bool) → (b ≡ false → pending_at session x ≡ None) → (if b then pending_at session x else None) ≡ pending_at session x
      by_test true none = refl
      by_test false none = sym (none refl)

  pub none_among : (xs : Rows) → filter_map (pending_among []) xs ≡ []
  none_among [] = refl
  none_among (x ∷ xs) = none_among xs

  same_rows : (p : Spot) (xs : Rows) → edit_at (λ one. Some one) p.table p.key xs ≡ xs
  same_rows p [] = refl
  same_rows p (x ∷ xs) = by_test (is_eq (place_cmp p.table p.key (entry_of x))) (same_rows p xs)
    where
      by_test : (b : Bool) → edit_at (λ one. Some one) p.table p.key xs ≡ xs
          → (if b then x ∷ xs else x ∷ edit_at (λ one. Some one) p.table p.key xs) ≡ x ∷ xs
      by_test true rest = refl
      by_test false rest = ap (λ (ys : Rows). x ∷ ys) rest

  module _ (p : Spot) (rest : List Spot) (above : AllByRecursion (λ q. spot_cmp p q ≡ Less) rest) where
    silent : (one now : Stored) → spot_cmp p (spot_of one) ≡ Equal → Some one ≡ Some now → pending_among rest now ≡ None
    silent one now tied is =
        let same : now ≡ one = cc in
        ap (pending_among rest) same
        ∙ ap (λ b. if b then pending_at session one else None)
        (among_tied p rest above (spot_of one) (spot_cmp_total.antisymm (spot_of one) p ∙ ap ordering_reverse tied) rest above)

    others : (one : Stored) → ApartFrom p rest above one → pending_among rest one ≡ pending_among (p ∷ rest) one
    others one apart = ap (λ b. if b then pending_at session one else None) (sym (among_others p rest above one apart))

    all_silent : (xs : Rows) → IsReachedBy (pending_among (p ∷ rest)) (p ∷ rest) xs
    all_silent [] = tt
    all_silent (x ∷ xs) = ((λ absent. ap (λ b. if b then pending_at session x else None) absent), all_silent xs)

    -- what is pending at the first key
    first_is : (xs : Rows) (o : Option Stored) → at_key xs p.table p.key ≡ o → option_and_then (pending_among (p ∷ rest)) o ≡ option_and_then (pending_at session) o
    first_is xs None is = refl
    first_is xs (Some one) is =
        ap (λ b. if b || is_among rest one.table one.key then pending_at session one else None)
        (turned (spot_of one) p ∙ place_tied p.table p.key xs one is)

    first_count : (o : Option Change) (more : List Change) → length (option_to_list o ++ more) ≡ (if is_some o then 1 else 0) + length more
    first_count None more = length-append [] more
    first_count (Some change) more = length-append (change ∷ []) more

    pub count_first : (xs : Rows) → AreInOrder xs
        → length (filter_map (pending_among (p ∷ rest)) xs)
        ≡ (if is_some (option_and_then (pending_at session) (at_key xs p.table p.key)) then 1 else 0) + length (filter_map (pending_among rest) xs)
    count_first xs ordered =
        ap (λ (cs : List Change). length cs)
        (told p rest above (pending_among (p ∷ rest)) (pending_among rest) (λ one. Some one) silent others xs ordered (all_silent xs))
        ∙ ap (λ (o : Option Change). length (option_to_list o ++ filter_map (pending_among rest) (edit_at (λ one. Some one) p.table p.key xs))) (first_is xs (at_key xs p.table p.key) refl)
        ∙ ap (λ (ys : Rows). length (option_to_list (option_and_then (pending_at session) (at_key xs p.table p.key)) ++ filter_map (pending_among rest) ys)) (same_rows p xs)
        ∙ first_count (option_and_then (pending_at session) (at_key xs p.table p.key)) (filter_map (pending_among rest) xs)
