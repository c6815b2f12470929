-- What is known of the machine once the table has ended.
use Rattle.std.proofs.Common.{◌≡◌, ℕ, ◌≢◌, List, [], ◌∷◌, ◌++◌, map, length, sym, refl, ap, ◌∙◌, subst, inl, inr, ⊎_elim, arith, append_assoc}
use Rattle.std.specs.Prelude.{Option, Some}
use Rattle.std.specs.List.{All}
use Rattle.std.proofs.lemmas.List.{map-append}
use Rattle.std.proofs.lemmas.List.Elements.{All-nil, All-cons, All-head, All-tail}
use mathlib.Core.Option.{some, some-injective}
use mathlib.Core.Logic.{dite}
use native.Mathlib.Decide.{dec_le, ℕ_discrete}
use lib.ListN.{get_elem?}
use Rattle.atomic_table.specs.Table.{Final, Seen}
use Rattle.turn_desk.specs.declared.view.View.{View}
use Rattle.turn_desk.specs.declared.view.View.TheVariants.{LiveSeat}
use Rattle.turn_desk.specs.Seats.{SeatState}
use Rattle.turn_desk.specs.Acts.{Agrees}
use Rattle.turn_desk.specs.Views.{total, is_of, pasts, past_of_seat, count_of, times, IsIdle}
use Rattle.turn_desk.specs.Rule.{AgreesWith, IsAtHome, IsOut, Kept, KeptAtEnd}
use Rattle.turn_desk.proofs.Lists.{is_other}
use Rattle.turn_desk.proofs.Totals.{total_one, total_two, total_only, total_empty}
use Rattle.turn_desk.proofs.Standing.{idle_not_out}

-- one goes over the seam of two lists
pub goes_over : {A B : Type 0} (f : A → B) (xs ys : List A) (x : A) (zs : List B) → xs ≡ ys ++ x ∷ [] → map f xs ++ zs ≡ map f ys ++ (f x ∷ zs)
goes_over f xs ys x zs e = ap (λ l. map f l ++ zs) e ∙ (ap (λ l. l ++ zs) (map-append f ys (x ∷ [])) ∙ append_assoc (map f ys) (f x ∷ []) zs)

pub none_left : {A B : Type 0} (f : A → B) (xs : List A) (zs : List B) → length xs ≡ 0 → map f xs ++ zs ≡ zs
none_left f [] zs e = refl
none_left f (x ∷ xs) zs e = absurd (omega (arith, e))

all_unmapped : {A B : Type 0} (f : A → B) (Q : B → Type 0) (S : A → Type 0) → ((a : A) → Q (f a) → S a) → (xs : List A) → All Q (map f xs) → All S xs
all_unmapped f Q S go [] all = All-nil S
all_unmapped f Q S go (x ∷ xs) all = All-cons S x xs (go x (All-head Q (f x) (map f xs) all)) (all_unmapped f Q S go xs (All-tail Q (f x) (map f xs) all))

-- seats of which none has the number n
none_of : {C R E : Type 0} (n : ℕ) (seats : List (SeatState C R E)) → All (λ s. s.number ≢ n) seats → total (is_of n) (map past_of_seat seats) ≡ 0
none_of n [] all = refl
none_of {C} {R} {E} n (s ∷ seats) all =
    let here = is_other n (past_of_seat s) (All-head (λ (t : SeatState C R E). t.number ≢ n) s seats all) in
    let later = none_of n seats (All-tail (λ (t : SeatState C R E). t.number ≢ n) s seats all) in omega (arith, here, later)

module _ {C R E M : Type 0} (story : M → List E) (knows : M → ℕ → List (C × R) → Type 0) (within : List E → ℕ → List (C × R) → Type 0) where
  -- what the slot has at the end, for a seat that keeps what all seats did
  pub ends : (base : List E) (all id : ℕ) (v : View C R E M) (ws : List ℕ) (xs : List (Option M)) (x : Option M) → IsIdle v → count_of v ≡ all → get_elem? xs 0 ≡ some x
      → Final (Seen (Kept story knows within base all) id v) ws xs → (m : M) × (x ≡ Some m) × KeptAtEnd story knows within m all v
  ends base all id v ws xs x idle long there final =
      let s = final.0 in
      let r = final.1.0 in
      let at = final.1.1 in
      let count = r.in_all in
      let room = r.room in
      let mine = total_one count_of s.views id v at in
      let made_is : r.made ≡ all = omega (arith, count, room, mine, long) in
      let home : IsAtHome story knows within r.content s = ⊎_elim (λ (home : IsAtHome story knows within r.content s). home)
      (λ (out : IsOut story knows within r.content s).
      let two = total_two count_of s.views id out.1.0 v (LiveSeat out.1.1 (Some r.content)) (λ e. idle_not_out s.views out.1.0 id v out.1.1 r.content idle at out.1.2 (sym e)) at out.1.2 in
      absurd (omega (arith, two, count, made_is, long))) r.turn in (
        r.content,
        some-injective x (Some r.content) (sym there ∙ final.4 0 (Some r.content) (ap (λ hs. get_elem? hs 0) home.1)),
        record {
          agrees = subst (λ k. All (AgreesWith story knows within r.content k) (pasts v)) made_is (r.agrees id v at);
          each_once = λ n pos top. sym (total_only count_of (times n) (λ u nil. total_empty (is_of n) (pasts u) nil) s.views id v at (omega (arith, count, made_is, long))) ∙ r.each_once n pos (omega (arith, top, made_is));
          untaken = λ n f. r.untaken n (subst (λ z. Rattle.turn_desk.specs.Rule.IsFree z n) (sym made_is) f);
        },
      )

  -- the machine agrees with all seats
  pub agrees_all : (m : M) (all : ℕ) (v : View C R E M) (seats : List (SeatState C R E)) → pasts v ≡ map past_of_seat seats → KeptAtEnd story knows within m all v → All (Agrees story knows m) seats
  agrees_all m all v seats whole e =
      all_unmapped past_of_seat (AgreesWith story knows within m all) (Agrees story knows m) (λ s a. (a.known, a.seen)) seats
      (subst (All (AgreesWith story knows within m all)) whole e.agrees)

  -- and it knows no steps of a number that none of them has
  pub knows_others : (m : M) (all : ℕ) (v : View C R E M) (seats : List (SeatState C R E)) → pasts v ≡ map past_of_seat seats → KeptAtEnd story knows within m all v
      → (n : ℕ) → All (λ s. s.number ≢ n) seats → knows m n []
  knows_others m all v seats whole e n other = dite (ℕ_discrete n 0)
      (λ z. e.untaken n (inl z))
      (λ nz. dite (dec_le n all)
      (λ le. let one = e.each_once n (omega (arith, nz)) le in let nil = ap (total (is_of n)) whole ∙ none_of n seats other in absurd (omega (arith, one, nil)))
      (λ gt. e.untaken n (inr (omega (arith, gt)))))
