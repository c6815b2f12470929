-- The table at the start, a number made, and what two seats did put together keep the rule.
use Rattle.std.proofs.Common.{◌≡◌, ℕ, ◌+◌, ◌%◌, ◌<◌, ◌≢◌, List, [], ◌∷◌, ◌++◌, length, get_or, set, sym, refl, ap, ◌∙◌, subst, inl, inr, ⊎_elim, arith, append-nil, length-append}
use Rattle.std.specs.Prelude.{Option, None, Some}
use Rattle.std.specs.List.{All}
use Rattle.std.proofs.lemmas.List.Elements.{All-nil, All-cons, All-head, All-tail, All-append}
use mathlib.Core.Logic.{dite}
use mathlib.Core.Option.{some, some-injective}
use mathlib.Core.List.{IsPrefix}
use native.Mathlib.Decide.{ℕ_discrete}
use lib.ListN.{get_elem?}
use Rattle.atomic_table.specs.Table.{State, Splits, Joins, opening}
use Rattle.atomic_table.proofs.Lists.{at_set, at_snoc, at_longer, set_else}
use Rattle.turn_desk.specs.declared.view.Past.{Past}
use Rattle.turn_desk.specs.declared.view.View.{View}
use Rattle.turn_desk.specs.declared.view.View.TheVariants.{NumberMaker, LiveSeat, EndedSeats, SpentSeat}
use Rattle.turn_desk.specs.Views.{total, is_of, past, pasts, count_of, times, steps_of, IsIdle}
use Rattle.turn_desk.specs.Rule.{IsFree, AgreesWith, FitsRole, IsAtHome, IsOut, Kept}
use Rattle.turn_desk.specs.Moves.{cut_left, cut_right, both_kept, first_view}
use Rattle.turn_desk.proofs.Lists.{here_set, only_one, is_own, is_other}
use Rattle.turn_desk.proofs.Totals.{total_set, total_snoc, total_append}
use Rattle.turn_desk.proofs.Standing.{same_total, later, live_later, idle_no_maker, idle_not_out}

module _ {C R E M : Type 0} (story : M → List E) (knows : M → ℕ → List (C × R) → Type 0) (within : List E → ℕ → List (C × R) → Type 0) where
  abbrev V : Type 0
  V = View C R E M

  abbrev St : Type 0
  St = State (Option M) V

  abbrev P : Type 0
  P = Past C R E

  abbrev Rule : List E → ℕ → St → Type 0
  Rule base all s = Kept story knows within base all s

  abbrev Fit : M → St → ℕ → V → Type 0
  Fit content s = FitsRole story knows within content (get_or s.words 0 0)

  abbrev Agree : M → ℕ → P → Type 0
  Agree = AgreesWith story knows within

  -- the table at the start
  pub opens : (machine : M) (all : ℕ) → ((k : ℕ) → knows machine k []) → Rule (story machine) all (opening (0 ∷ 0 ∷ []) (Some machine ∷ []) (first_view story knows within machine))
  opens machine all begins = record {
    content = machine;
    made = 0;
    two_words = refl;
    maker = refl;
    room = omega arith;
    each_once = λ n a b. absurd (omega (arith, a, b));
    no_other = λ n f. refl;
    in_all = refl;
    turn = inl (refl, refl);
    roles = λ j v e. let t = only_one j v e in subst (FitsRole story knows within machine 0 j) t.1 t.0;
    untaken = λ n f. begins n;
    opened = ([], append-nil (story machine));
    agrees = λ j v e. subst (λ (x : V). All (Agree machine 0) (pasts x)) (only_one j v e).1 (All-nil (Agree machine 0));
    counted = refl;
  }

  agrees_more : (content : M) (made : ℕ) (p : P) → Agree content made p → Agree content (made + 1) p
  agrees_more content made p a = let top = a.numbered.1 in record { numbered = (a.numbered.0, omega (arith, top)); known = a.known; seen = a.seen; inside = a.inside }

  all_more : (content : M) (made : ℕ) (ps : List P) → All (Agree content made) ps → All (Agree content (made + 1)) ps
  all_more content made [] all = All-nil (Agree content (made + 1))
  all_more content made (p ∷ ps) all =
      All-cons (Agree content (made + 1)) p ps
      (agrees_more content made p (All-head (Agree content made) p ps all))
      (all_more content made ps (All-tail (Agree content made) p ps all))

  free_before : (made n : ℕ) → IsFree (made + 1) n → IsFree made n
  free_before made n f = ⊎_elim (λ (z : n ≡ 0). inl z) (λ (l : made + 1 < n). inr (omega (arith, l))) f

  made_of : V → ℕ
  made_of (NumberMaker n b) = n
  made_of v = 0

  base_of : V → List E
  base_of (NumberMaker n b) = b
  base_of v = []

  -- what the view of the maker says
  maker_is : (base : List E) (all : ℕ) (s : St) (r : Rule base all s) (id n : ℕ) (b : List E) → get_elem? s.views id ≡ some (NumberMaker n b) → (id ≡ 0) × (n ≡ r.made) × (b ≡ base)
  unfolding made_of base_of
  maker_is base all s r id n b at =
      let first = r.roles id (NumberMaker n b) at in
      let e = some-injective (NumberMaker n b) (NumberMaker r.made base) (sym at ∙ (ap (get_elem? s.views) first ∙ r.maker)) in
      (first, ap made_of e, ap base_of e)

  -- a number more
  splits : (base : List E) (all id n : ℕ) (b : List E) → n < all → ((k : ℕ) → within base k [])
      → Splits (Rule base all) id (NumberMaker n b) (NumberMaker (n + 1) b) (LiveSeat (past (n + 1) [] b) None)
  splits base all id n b room starts s r at =
      let v : V = NumberMaker n b in
      let w : V = NumberMaker (n + 1) b in
      let q : P = past (n + 1) [] b in
      let u : V = LiveSeat q None in
      let role = maker_is base all s r id n b at in
      let made_is = role.1 in
      let same : (f : V → ℕ) → f w ≡ f v → total f (set s.views id w ++ u ∷ []) ≡ total f s.views + f u = λ f is.
      let t = total_snoc f (set s.views id w) u in let t' = same_total f s.views id v w at is in omega (arith, t, t') in
      let at_first : get_elem? s.views 0 ≡ some v = ap (get_elem? s.views) (sym role.0) ∙ at in
      let set_first : get_elem? (set s.views id w) 0 ≡ some (NumberMaker (r.made + 1) base) = subst (λ (z : (ℕ × ℕ) × List E). get_elem? (set s.views z.0.0 w) 0 ≡ some (NumberMaker (z.0.1 + 1) z.1)) (λ i. ((sym role.0 i, made_is i), role.2 i)) (here_set s.views 0 v w at_first) in
      let new : Agree r.content (r.made + 1) q = record {
        numbered = (omega arith, omega (arith, made_is));
        known = r.untaken (n + 1) (inr (omega (arith, made_is)));
        seen = subst (λ (l : List E). IsPrefix l (story r.content)) (sym role.2) r.opened;
        inside = subst (λ (l : List E). within l (n + 1) []) (sym role.2) (starts (n + 1));
      } in
      record {
        content = r.content;
        made = r.made + 1;
        two_words = r.two_words;
        maker = at_longer (set s.views id w) (u ∷ []) 0 (NumberMaker (r.made + 1) base) set_first;
        room = omega (arith, made_is, room);
        each_once = λ k pos top. let t = same (times k) refl in dite (ℕ_discrete k (n + 1))
            (λ is. let one = is_own k q (sym is) in let before = r.no_other k (inr (omega (arith, is, made_is))) in omega (arith, t, one, before))
            (λ ne. let nil = is_other k q (λ e. ne (sym e)) in let before = r.each_once k pos (omega (arith, top, ne, made_is)) in omega (arith, t, nil, before));
        no_other = λ k f.
            let t = same (times k) refl in
            let before = r.no_other k (free_before r.made k f) in
            let nil = is_other k q (λ e. ⊎_elim (λ (z : k ≡ 0). omega (arith, z, e)) (λ (l : r.made + 1 < k). omega (arith, l, e, made_is)) f) in omega (arith, t, before, nil);
        in_all = let t = same count_of refl in let before = r.in_all in omega (arith, t, before);
        turn = ⊎_elim (λ (home : IsAtHome story knows within r.content s). inl home)
            (λ (out : IsOut story knows within r.content s). inr (
              out.0,
              (
                out.1.0,
                out.1.1,
                at_longer (set s.views id w) (u ∷ []) out.1.0 (LiveSeat out.1.1 (Some r.content))
                    (set_else s.views id out.1.0 w (λ e. live_later story knows within base all s r out.1.0 out.1.1 (Some r.content) out.1.2 (sym (e ∙ role.0))) ∙ out.1.2),
              ),
            ))
            r.turn;
        roles = λ j x e. ⊎_elim
            (λ (e' : get_elem? (set s.views id w) j ≡ some x). ⊎_elim
            (λ (t : (j ≡ id) × (w ≡ x)). subst (Fit r.content s j) t.1 (t.0 ∙ role.0))
            (λ (t : (j ≢ id) × (get_elem? s.views j ≡ some x)). r.roles j x t.1)
            (at_set s.views id j w x e'))
            (λ (is : u ≡ x). subst (Fit r.content s j) is tt)
            (at_snoc (set s.views id w) u x j e);
        untaken = λ k f. r.untaken k (free_before r.made k f);
        opened = r.opened;
        agrees = λ j x e. ⊎_elim
            (λ (e' : get_elem? (set s.views id w) j ≡ some x). ⊎_elim
            (λ (t : (j ≡ id) × (w ≡ x)). subst (λ (z : V). All (Agree r.content (r.made + 1)) (pasts z)) t.1 (All-nil (Agree r.content (r.made + 1))))
            (λ (t : (j ≢ id) × (get_elem? s.views j ≡ some x)). all_more r.content r.made (pasts x) (r.agrees j x t.1))
            (at_set s.views id j w x e'))
            (λ (is : u ≡ x). subst (λ (z : V). All (Agree r.content (r.made + 1)) (pasts z)) is (All-cons (Agree r.content (r.made + 1)) q [] new (All-nil (Agree r.content (r.made + 1)))))
            (at_snoc (set s.views id w) u x j e);
        counted = let t = same steps_of refl in r.counted ∙ ap (λ k. k % 18446744073709551616) (omega (arith, t));
      }

  pub splits_from : (base : List E) (all id n : ℕ) (v : V) → v ≡ NumberMaker n base → n < all → ((k : ℕ) → within base k [])
      → Splits (Rule base all) id v (cut_left story knows within v) (cut_right story knows within v)
  splits_from base all id n v is room starts =
      subst (λ (x : V). Splits (Rule base all) id x (cut_left story knows within x) (cut_right story knows within x)) (sym is)
      (splits base all id n base room starts)

  -- what two seats did, kept by one of them
  joins : (base : List E) (all id : ℕ) (v : V) (other : ℕ) (u : V) → IsIdle v → IsIdle u
      → Joins (Rule base all) id v other u (both_kept story knows within v u) SpentSeat
  joins base all id v other u idle idle' s r at apart at_other' =
      let w : V = EndedSeats (pasts u ++ pasts v) in
      let gone : V = SpentSeat in
      let at_other : get_elem? s.views other ≡ some u = sym (set_else s.views id other w apart) ∙ at_other' in
      let same : (f : V → ℕ) → f w ≡ f v + f u → f gone ≡ 0 → total f (set (set s.views id w) other gone) ≡ total f s.views = λ f is nil.
      let t = total_set f s.views id v w at in let t' = total_set f (set s.views id w) other u gone at_other' in omega (arith, t, t', is, nil) in
      let sum : (g : P → ℕ) → total g (pasts u ++ pasts v) ≡ total g (pasts v) + total g (pasts u) = λ g. let t = total_append g (pasts u) (pasts v) in omega (arith, t) in
      let long : length (pasts u ++ pasts v) ≡ length (pasts v) + length (pasts u) = let t = length-append (pasts u) (pasts v) in omega (arith, t) in
      record {
        content = r.content;
        made = r.made;
        two_words = r.two_words;
        maker = set_else (set s.views id w) other 0 gone (later story knows within base all s r other u (idle_no_maker u idle') at_other)
            ∙ (set_else s.views id 0 w (later story knows within base all s r id v (idle_no_maker v idle) at) ∙ r.maker);
        room = r.room;
        each_once = λ k a c. same (times k) (sum (is_of k)) refl ∙ r.each_once k a c;
        no_other = λ k f. same (times k) (sum (is_of k)) refl ∙ r.no_other k f;
        in_all = same count_of long refl ∙ r.in_all;
        turn = ⊎_elim (λ (home : IsAtHome story knows within r.content s). inl home)
            (λ (out : IsOut story knows within r.content s). inr (
              out.0,
              (
                out.1.0,
                out.1.1,
                set_else (set s.views id w) other out.1.0 gone (idle_not_out s.views out.1.0 other u out.1.1 r.content idle' at_other out.1.2)
                    ∙ (set_else s.views id out.1.0 w (idle_not_out s.views out.1.0 id v out.1.1 r.content idle at out.1.2) ∙ out.1.2),
              ),
            ))
            r.turn;
        roles = λ j x e. ⊎_elim
            (λ (t : (j ≡ other) × (gone ≡ x)). subst (Fit r.content s j) t.1 tt)
            (λ (t : (j ≢ other) × (get_elem? (set s.views id w) j ≡ some x)). ⊎_elim
            (λ (t' : (j ≡ id) × (w ≡ x)). subst (Fit r.content s j) t'.1 tt)
            (λ (t' : (j ≢ id) × (get_elem? s.views j ≡ some x)). r.roles j x t'.1)
            (at_set s.views id j w x t.1))
            (at_set (set s.views id w) other j gone x e);
        untaken = r.untaken;
        opened = r.opened;
        agrees = λ j x e. ⊎_elim
            (λ (t : (j ≡ other) × (gone ≡ x)). subst (λ (z : V). All (Agree r.content r.made) (pasts z)) t.1 (All-nil (Agree r.content r.made)))
            (λ (t : (j ≢ other) × (get_elem? (set s.views id w) j ≡ some x)). ⊎_elim
            (λ (t' : (j ≡ id) × (w ≡ x)). subst (λ (z : V). All (Agree r.content r.made) (pasts z)) t'.1 (All-append (Agree r.content r.made) (pasts u) (pasts v) (r.agrees other u at_other) (r.agrees id v at)))
            (λ (t' : (j ≢ id) × (get_elem? s.views j ≡ some x)). r.agrees j x t'.1)
            (at_set s.views id j w x t.1))
            (at_set (set s.views id w) other j gone x e);
        counted = r.counted ∙ ap (λ k. k % 18446744073709551616) (sym (same steps_of (sum (λ (q : P). length q.steps)) refl));
      }

  pub joins_from : (base : List E) (all id : ℕ) (v : V) (other : ℕ) (u : V) (p : P) → IsIdle v → u ≡ LiveSeat p None
      → Joins (Rule base all) id v other u (both_kept story knows within v u) SpentSeat
  joins_from base all id v other u p idle is = joins base all id v other u idle (subst IsIdle (sym is) tt)
