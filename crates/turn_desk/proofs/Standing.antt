-- What the rule says of one seat and of two, and what a step that sets word 0 has to show.
use Rattle.std.proofs.Common.{◌≡◌, ℕ, ◌%◌, ◌≢◌, ◌⊎◌, List, [], length, get_or, set, sym, refl, ap, ◌∙◌, subst, ⊎_elim, arith, length-set, get_or-set_other, get_or-set_same}
use Rattle.std.specs.Prelude.{Option, None, Some}
use Rattle.std.specs.List.{All}
use Rattle.std.proofs.lemmas.List.Elements.{All-head}
use mathlib.Core.Option.{some, some-injective}
use lib.ListN.{get_elem?}
use Rattle.atomic_table.specs.Table.{State}
use Rattle.atomic_table.proofs.Lists.{at_set, set_else}
use Rattle.turn_desk.specs.declared.view.Past.{Past}
use Rattle.turn_desk.specs.declared.view.View.{View}
use Rattle.turn_desk.specs.declared.view.View.TheVariants.{NumberMaker, LiveSeat, EndedSeats, SpentSeat}
use Rattle.turn_desk.specs.Views.{total, is_of, pasts, count_of, times, steps_of, IsIdle}
use Rattle.turn_desk.specs.Rule.{AgreesWith, FitsRole, IsAtHome, IsOut, Kept}
use Rattle.turn_desk.proofs.Lists.{is_own, differs}
use Rattle.turn_desk.proofs.Totals.{total_set, total_two}

module _ {C R E M : Type 0} where
  -- a view that is changed gives the same total where it weighs the same
  pub same_total : (f : View C R E M → ℕ) (vs : List (View C R E M)) (i : ℕ) (v w : View C R E M) → get_elem? vs i ≡ some v → f w ≡ f v → total f (set vs i w) ≡ total f vs
  same_total f vs i v w at same = let t = total_set f vs i v w at in omega (arith, t, same)

  abbrev pub IsMaker : View C R E M → Type 0
  IsMaker (NumberMaker made base) = Unit {0}
  IsMaker (LiveSeat p hand) = ⊥
  IsMaker (EndedSeats ps) = ⊥
  IsMaker SpentSeat = ⊥

  pub idle_no_maker : (v : View C R E M) → IsIdle v → ¬ (IsMaker v)
  idle_no_maker (NumberMaker made base) idle m = idle
  idle_no_maker (LiveSeat p hand) idle m = m
  idle_no_maker (EndedSeats ps) idle m = m
  idle_no_maker SpentSeat idle m = m

  -- a view with nothing in hand is not that of the seat with the turn
  pub idle_not_out : (vs : List (View C R E M)) (j i : ℕ) (v : View C R E M) (p : Past C R E) (c : M) → IsIdle v → get_elem? vs i ≡ some v → get_elem? vs j ≡ some (LiveSeat p (Some c)) → ¬ (j ≡ i)
  idle_not_out vs j i v p c idle at out e = subst IsIdle (some-injective v (LiveSeat p (Some c)) (sym at ∙ (ap (get_elem? vs) (sym e) ∙ out))) idle

module _ {C R E M : Type 0} (story : M → List E) (knows : M → ℕ → List (C × R) → Type 0) (within : List E → ℕ → List (C × R) → Type 0) where
  abbrev V : Type 0
  V = View C R E M

  abbrev St : Type 0
  St = State (Option M) V

  abbrev P : Type 0
  P = Past C R E

  abbrev Rule : List E → ℕ → St → Type 0
  Rule base all s = Kept story knows within base all s

  abbrev word : St → ℕ → ℕ
  word s i = get_or s.words i 0

  abbrev Fit : M → ℕ → ℕ → V → Type 0
  Fit = FitsRole story knows within

  abbrev Agree : M → ℕ → P → Type 0
  Agree = AgreesWith story knows within

  abbrev Home : M → St → Type 0
  Home = IsAtHome story knows within

  abbrev Out : M → St → Type 0
  Out = IsOut story knows within

  -- the maker of numbers is another seat than one that is none
  pub later : (base : List E) (all : ℕ) (s : St) (r : Rule base all s) (id : ℕ) (v : V) → ¬ (IsMaker v) → get_elem? s.views id ≡ some v → 0 ≢ id
  later base all s r id v other at e =
      other (subst IsMaker (some-injective (NumberMaker r.made base) v (sym r.maker ∙ (ap (get_elem? s.views) e ∙ at))) tt)

  pub live_later : (base : List E) (all : ℕ) (s : St) (r : Rule base all s) (id : ℕ) (p : P) (hand : Option M) → get_elem? s.views id ≡ some (LiveSeat p hand) → 0 ≢ id
  live_later base all s r id p hand at = later base all s r id (LiveSeat p hand) (λ x. x) at

  -- the content agrees with the past of a seat that steps
  pub live_agrees : (base : List E) (all : ℕ) (s : St) (r : Rule base all s) (j : ℕ) (u : V) (p : P) (hand : Option M) → get_elem? s.views j ≡ some u → u ≡ LiveSeat p hand → Agree r.content r.made p
  live_agrees base all s r j u p hand at is =
      All-head (Agree r.content r.made) p [] (subst (λ (x : V). All (Agree r.content r.made) (pasts x)) is (r.agrees j u at))

  fits_as : (base : List E) (all : ℕ) (s : St) (r : Rule base all s) (j : ℕ) (u v : V) → get_elem? s.views j ≡ some u → u ≡ v → Fit r.content (word s 0) j v
  fits_as base all s r j u v at is = subst (Fit r.content (word s 0) j) is (r.roles j u at)

  -- the role of a view with nothing in hand asks nothing of the content and of the turn
  pub role_kept : (content content' : M) (turn turn' j : ℕ) (u : V) → ((p : P) (hand : M) → ¬ (u ≡ LiveSeat p (Some hand))) → Fit content turn j u → Fit content' turn' j u
  role_kept content content' turn turn' j (NumberMaker n b) bare fit = fit
  role_kept content content' turn turn' j (LiveSeat p None) bare fit = tt
  role_kept content content' turn turn' j (LiveSeat p (Some hand)) bare fit = absurd (bare p hand refl)
  role_kept content content' turn turn' j (EndedSeats ps) bare fit = tt
  role_kept content content' turn turn' j SpentSeat bare fit = tt

  -- while word 0 is 0 nobody has something in hand
  pub none_in_hand : (base : List E) (all : ℕ) (s : St) (r : Rule base all s) → word s 0 ≡ 0 → (j : ℕ) (u : V) → get_elem? s.views j ≡ some u → (p : P) (hand : M) → ¬ (u ≡ LiveSeat p (Some hand))
  none_in_hand base all s r e j u at p hand is =
      let turn = (fits_as base all s r j u (LiveSeat p (Some hand)) at is).0 in
      let above = (live_agrees base all s r j u p (Some hand) at is).numbered.0 in omega (arith, turn, above, e)

  -- no other view has the number of this one
  pub alone : (base : List E) (all : ℕ) (s : St) (r : Rule base all s) (id j : ℕ) (p : P) (hand : Option M) (u : V) → get_elem? s.views id ≡ some (LiveSeat p hand) → j ≢ id → get_elem? s.views j ≡ some u → times p.number u ≡ 0
  alone base all s r id j p hand u at other at' =
      let a = live_agrees base all s r id (LiveSeat p hand) p hand at refl in
      let two = total_two (times p.number) s.views id j (LiveSeat p hand) u (λ e. other (sym e)) at at' in
      let once = r.each_once p.number a.numbered.0 a.numbered.1 in
      let mine = is_own p.number p refl in omega (arith, two, once, mine)

  -- while a seat has the turn no other has something in hand
  pub no_other_hand : (base : List E) (all : ℕ) (s : St) (r : Rule base all s) (id : ℕ) (p : P) (c : M) → get_elem? s.views id ≡ some (LiveSeat p (Some c)) → (j : ℕ) (u : V) → j ≢ id → get_elem? s.views j ≡ some u → (q : P) (hand : M) → ¬ (u ≡ LiveSeat q (Some hand))
  no_other_hand base all s r id p c at j u other at' q hand is =
      let theirs = (fits_as base all s r j u (LiveSeat q (Some hand)) at' is).0 in
      let mine = (r.roles id (LiveSeat p (Some c)) at).0 in
      let nil = subst (λ (x : V). times p.number x ≡ 0) is (alone base all s r id j p (Some c) u at other at') in
      differs p.number q (omega (arith, nil)) (sym theirs ∙ mine)

  -- while a seat has the turn the machine is out
  pub is_out : (base : List E) (all : ℕ) (s : St) (r : Rule base all s) (id : ℕ) (p : P) (c : M) → get_elem? s.views id ≡ some (LiveSeat p (Some c)) → Out r.content s
  is_out base all s r id p c at = ⊎_elim
      (λ (home : Home r.content s).
      let free = home.0 in
      let above = (live_agrees base all s r id (LiveSeat p (Some c)) p (Some c) at refl).numbered.0 in
      let mine = (r.roles id (LiveSeat p (Some c)) at).0 in absurd (omega (arith, free, above, mine)))
      (λ (out : Out r.content s). out)
      r.turn

  -- while word 0 is 0 it is at home
  pub is_home : (base : List E) (all : ℕ) (s : St) (r : Rule base all s) → word s 0 ≡ 0 → Home r.content s
  is_home base all s r e = ⊎_elim
      (λ (home : Home r.content s). home)
      (λ (out : Out r.content s). absurd (none_in_hand base all s r e out.1.0 (LiveSeat out.1.1 (Some r.content)) out.1.2 out.1.1 r.content refl))
      r.turn

  -- a step that sets word 0 and changes no past keeps the rule where it keeps the roles and says where the machine is
  pub turned : (base : List E) (all : ℕ) (s : St) (r : Rule base all s) (id m : ℕ) (v w : V) (hs : List (mathlib.Core.Option.Option (Option M))) → get_elem? s.views id ≡ some v → 0 ≢ id → pasts w ≡ pasts v
      → Fit r.content m id w
      → ((j : ℕ) (u : V) → j ≢ id → get_elem? s.views j ≡ some u → Fit r.content m j u)
      → Home r.content (record { words = set s.words 0 m; homes = hs; views = set s.views id w }) ⊎ Out r.content (record { words = set s.words 0 m; homes = hs; views = set s.views id w })
      → Rule base all (record { words = set s.words 0 m; homes = hs; views = set s.views id w })
  turned base all s r id m v w hs at live same mine others turn =
      let two = r.two_words in
      let now : get_or (set s.words 0 m) 0 0 ≡ m = get_or-set_same s.words 0 m 0 (omega (arith, two)) in
      record {
        content = r.content;
        made = r.made;
        two_words = length-set s.words 0 m ∙ r.two_words;
        maker = set_else s.views id 0 w live ∙ r.maker;
        room = r.room;
        each_once = λ n a b. same_total (times n) s.views id v w at (ap (total (is_of n)) same) ∙ r.each_once n a b;
        no_other = λ n f. same_total (times n) s.views id v w at (ap (total (is_of n)) same) ∙ r.no_other n f;
        in_all = same_total count_of s.views id v w at (ap length same) ∙ r.in_all;
        turn = turn;
        roles = subst (λ (z : ℕ). (j : ℕ) (u : V) → get_elem? (set s.views id w) j ≡ some u → Fit r.content z j u) (sym now) (λ j u e. ⊎_elim
            (λ (t : (j ≡ id) × (w ≡ u)). subst (λ (z : ℕ × V). Fit r.content m z.0 z.1) (λ i. (sym t.0 i, t.1 i)) mine)
            (λ (t : (j ≢ id) × (get_elem? s.views j ≡ some u)). others j u t.0 t.1)
            (at_set s.views id j w u e));
        untaken = r.untaken;
        opened = r.opened;
        agrees = λ j u e. ⊎_elim
            (λ (t : (j ≡ id) × (w ≡ u)). subst (λ (x : V). All (Agree r.content r.made) (pasts x)) t.1 (subst (All (Agree r.content r.made)) (sym same) (r.agrees id v at)))
            (λ (t : (j ≢ id) × (get_elem? s.views j ≡ some u)). r.agrees j u t.1)
            (at_set s.views id j w u e);
        counted = get_or-set_other s.words 0 1 m 0 (λ e. omega arith) ∙ (r.counted ∙ ap (λ (z : ℕ). z % 18446744073709551616) (sym (same_total steps_of s.views id v w at (ap (total (λ (p : P). length p.steps)) same))));
      }
