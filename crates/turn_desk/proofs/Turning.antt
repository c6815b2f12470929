-- The steps of one turn keep the rule: the turn is taken, the step counted, the turn given back.
use Rattle.std.proofs.Common.{◌≡◌, ℕ, ◌+◌, ◌%◌, ◌<◌, ◌≢◌, List, [], ◌∷◌, ◌++◌, get_or, set, sym, refl, ap, ◌∙◌, subst, inl, inr, ⊎_elim, arith, length-set, get_or-set_other, get_or-set_same, append-nil, length-append}
use Rattle.std.specs.Prelude.{Option, None, Some, ◌==◌}
use Rattle.std.specs.List.{All}
use Rattle.std.proofs.lemmas.List.Elements.{All-nil, All-cons}
use mathlib.Core.Option.{none, some}
use mathlib.Core.List.{IsPrefix}
use lib.ListN.{get_elem?}
use lib.Seq.{set-get_or}
use prog.Atomic.{either}
use Rattle.atomic_table.specs.Table.{State, Me, Act, step, keeps, takes, gives, Valid, carried_after, stepped, Allows}
use Rattle.atomic_table.proofs.Lists.{at_set, set_again, exchanged, set_else}
use Rattle.turn_desk.specs.declared.view.Past.{Past}
use Rattle.turn_desk.specs.declared.view.View.{View}
use Rattle.turn_desk.specs.declared.view.View.TheVariants.{LiveSeat}
use Rattle.turn_desk.specs.Views.{pasts, count_of, times, steps_of}
use Rattle.turn_desk.specs.Rule.{AgreesWith, FitsRole, Kept}
use Rattle.turn_desk.specs.Moves.{Tries, Counts, Leaves, with_step}
use Rattle.turn_desk.proofs.Lists.{prefix_trans, here_set, all_but}
use Rattle.turn_desk.proofs.Totals.{total_set}
use Rattle.turn_desk.proofs.Standing.{same_total, live_later, live_agrees, role_kept, none_in_hand, alone, no_other_hand, is_out, is_home, turned}

module _ {C R E M : Type 0} (story : M → List E) (knows : M → ℕ → List (C × R) → Type 0) (within : List E → ℕ → List (C × R) → Type 0) where
  abbrev V : Type 0
  V = View C R E M

  abbrev St : Type 0
  St = State (Option M) V

  abbrev P : Type 0
  P = Past C R E

  abbrev Rule : List E → ℕ → St → Type 0
  Rule base all s = Kept story knows within base all s

  abbrev word : St → ℕ → ℕ
  word s i = get_or s.words i 0

  abbrev Agree : M → ℕ → P → Type 0
  Agree = AgreesWith story knows within

  -- a seat tries to take the turn
  tries : (base : List E) (all slots id k : ℕ) (p : P) (c0 : List (ℕ × Option M)) → k ≡ p.number
      → Allows (Rule base all) slots id (LiveSeat p None, c0) 0 (λ n. either (n == 0) k n) (Tries story knows within (step slots 0 0 k none) (LiveSeat p None, c0))
  tries base all slots id k p c0 same s r long at small =
      let v : V = LiveSeat p None in
      let w : V = LiveSeat p (Some r.content) in
      exchanged (word s 0) 0 k
      (λ m. (w : V) × (a : Act (Option M)) × Valid s.homes c0 a × Rule base all (stepped s 0 m id c0 w a) × Tries story knows within (step slots 0 0 k none) (v, c0) (word s 0) (w, carried_after c0 a))
      (λ e. let a = live_agrees story knows within base all s r id v p None at refl in
      let home = is_home story knows within base all s r e in
      let out : set s.homes 0 none ≡ none ∷ [] = ap (λ hs. set hs 0 none) home.1 in (
        w,
        takes 0 (Some r.content),
        ap (λ hs. get_elem? hs 0) home.1,
        turned story knows within base all s r id k v w (set s.homes 0 none) at (live_later story knows within base all s r id p None at) refl (same, refl)
            (λ j u other at'. role_kept story knows within r.content r.content (word s 0) k j u (none_in_hand story knows within base all s r e j u at') (r.roles j u at'))
            (inr (out, (id, p, here_set s.views id v w at))),
        ((λ _. (p, r.content, refl, refl, a.known, a.seen)), (λ ne. absurd (ne e))),
      ))
      (λ ne. (
        v,
        keeps,
        tt,
        subst (λ (z : List ℕ × List V). Rule base all (record { words = z.0; homes = s.homes; views = z.1 })) (λ i. (sym (set-get_or s.words 0 0) i, sym (set_again s.views id v at) i)) r,
        ((λ e. absurd (ne e)), (λ _. refl)),
      ))

  -- the seat with the turn gives it back, with the machine in the slot
  leaves : (base : List E) (all slots id : ℕ) (p : P) (c : M)
      → Allows (Rule base all) slots id (LiveSeat p (Some c), (0, Some c) ∷ []) 0 (λ n. 0) (λ n. Leaves story knows within (step slots 0 0 0 none) (LiveSeat p (Some c), (0, Some c) ∷ []) 0)
  leaves base all slots id p c s r long at small =
      let v : V = LiveSeat p (Some c) in
      let w : V = LiveSeat p None in
      let mine = r.roles id v at in
      let out = is_out story knows within base all s r id p c at in
      let back : set s.homes 0 (some (Some c)) ≡ some (Some r.content) ∷ [] = ap (λ hs. set hs 0 (some (Some c))) out.0 ∙ ap (λ (x : M). some (Some x) ∷ []) mine.1 in
      let two = r.two_words in (
        w,
        gives,
        tt,
        turned story knows within base all s r id 0 v w (set s.homes 0 (some (Some c))) at (live_later story knows within base all s r id p (Some c) at) refl tt
            (λ j u other at'. role_kept story knows within r.content r.content (word s 0) 0 j u (no_other_hand story knows within base all s r id p c at j u other at') (r.roles j u at'))
            (inl (get_or-set_same s.words 0 0 0 (omega (arith, two)), back)),
        (p, c, refl, refl),
      )

  -- the rule once the step of the seat with the turn is counted
  counted_rule : (base : List E) (all id : ℕ) (s : St) (r : Rule base all s) (p : P) (c : M) (call : C) (reply : R) (after : M)
      → get_elem? s.views id ≡ some (LiveSeat p (Some c))
      → IsPrefix (story r.content) (story after)
      → knows after p.number (p.steps ++ (call, reply) ∷ [])
      → ((n : ℕ) (steps : List (C × R)) → n ≢ p.number → knows r.content n steps → knows after n steps)
      → within (story after) p.number (p.steps ++ (call, reply) ∷ [])
      → Rule base all (record { words = set s.words 1 ((word s 1 + 1) % 18446744073709551616); homes = s.homes; views = set s.views id (LiveSeat (with_step story knows within p call reply after) (Some after)) })
  counted_rule base all id s r p c call reply after at grows known others inside =
      let v : V = LiveSeat p (Some c) in
      let q : P = with_step story knows within p call reply after in
      let w : V = LiveSeat q (Some after) in
      let a = live_agrees story knows within base all s r id v p (Some c) at refl in
      let mine = r.roles id v at in
      let two = r.two_words in
      let other_agrees : (o : P) → o.number ≢ p.number → Agree r.content r.made o → Agree after r.made o = λ o ne b. record {
        numbered = b.numbered;
        known = others o.number o.steps ne b.known;
        seen = prefix_trans o.log (story r.content) (story after) b.seen grows;
        inside = b.inside;
      } in
      let own_agrees : Agree after r.made q = record { numbered = a.numbered; known = known; seen = ([], append-nil (story after)); inside = inside } in
      let one_more : steps_of w ≡ steps_of v + 1 = let l = length-append p.steps ((call, reply) ∷ []) in omega (arith, l) in
      let sum = total_set steps_of s.views id v w at in
      let was = r.counted in
      let value : ℕ = (word s 1 + 1) % 18446744073709551616 in
      record {
        content = after;
        made = r.made;
        two_words = length-set s.words 1 value ∙ r.two_words;
        maker = set_else s.views id 0 w (live_later story knows within base all s r id p (Some c) at) ∙ r.maker;
        room = r.room;
        each_once = λ n x y. same_total (times n) s.views id v w at refl ∙ r.each_once n x y;
        no_other = λ n f. same_total (times n) s.views id v w at refl ∙ r.no_other n f;
        in_all = same_total count_of s.views id v w at refl ∙ r.in_all;
        turn = inr ((is_out story knows within base all s r id p c at).0, (id, q, here_set s.views id v w at));
        roles = subst (λ (z : ℕ). (j : ℕ) (u : V) → get_elem? (set s.views id w) j ≡ some u → FitsRole story knows within after z j u) (sym (get_or-set_other s.words 1 0 value 0 (λ e. omega arith))) (λ j u e. ⊎_elim
            (λ (t : (j ≡ id) × (w ≡ u)). subst (λ (x : V). FitsRole story knows within after (word s 0) j x) t.1 (mine.0, refl))
            (λ (t : (j ≢ id) × (get_elem? s.views j ≡ some u)). role_kept story knows within r.content after (word s 0) (word s 0) j u (no_other_hand story knows within base all s r id p c at j u t.0 t.1) (r.roles j u t.1))
            (at_set s.views id j w u e));
        untaken = λ n f. others n [] (⊎_elim (λ (z : n ≡ 0). λ e. let above = a.numbered.0 in omega (arith, z, e, above)) (λ (l : r.made < n). λ e. let top = a.numbered.1 in omega (arith, l, e, top)) f) (r.untaken n f);
        opened = prefix_trans base (story r.content) (story after) r.opened grows;
        agrees = λ j u e. ⊎_elim
            (λ (t : (j ≡ id) × (w ≡ u)). subst (λ (x : V). All (Agree after r.made) (pasts x)) t.1 (All-cons (Agree after r.made) q [] own_agrees (All-nil (Agree after r.made))))
            (λ (t : (j ≢ id) × (get_elem? s.views j ≡ some u)). all_but p.number (Agree r.content r.made) (Agree after r.made) other_agrees (pasts u) (alone story knows within base all s r id j p (Some c) u at t.0 t.1) (r.agrees j u t.1))
            (at_set s.views id j w u e);
        counted = get_or-set_same s.words 1 value 0 (omega (arith, two)) ∙ omega (arith, was, sum, one_more);
      }

  -- the seat with the turn counts its step
  counts : (base : List E) (all slots id : ℕ) (p : P) (c : M) (call : C) (reply : R) (after : M) (c0 : List (ℕ × Option M))
      → IsPrefix (story c) (story after)
      → knows after p.number (p.steps ++ (call, reply) ∷ [])
      → ((n : ℕ) (steps : List (C × R)) → n ≢ p.number → knows c n steps → knows after n steps)
      → within (story after) p.number (p.steps ++ (call, reply) ∷ [])
      → Allows (Rule base all) slots id (LiveSeat p (Some c), c0) 1 (λ n. (n + 1) % 18446744073709551616) (Counts story knows within (Some ((call, reply), after)) (step slots 1 1 0 none) (LiveSeat p (Some c), c0))
  counts base all slots id p c call reply after c0 grows known others inside s r long at small =
      let is = (r.roles id (LiveSeat p (Some c)) at).1 in (
        LiveSeat (with_step story knows within p call reply after) (Some after),
        keeps,
        tt,
        counted_rule base all id s r p c call reply after at
            (subst (λ (x : M). IsPrefix (story x) (story after)) is grows)
            known
            (λ n steps ne k. others n steps ne (subst (λ (x : M). knows x n steps) (sym is) k))
            inside,
        (p, c, refl, refl),
      )

  -- the same, of a seat as a call has it
  pub tries_from : (base : List E) (all slots id k : ℕ) (me : Me (Option M) V) (p : P) → me.0 ≡ LiveSeat p None → k ≡ p.number
      → Allows (Rule base all) slots id me 0 (λ n. either (n == 0) k n) (Tries story knows within (step slots 0 0 k none) me)
  tries_from base all slots id k me p e same =
      subst (λ (v : V). Allows (Rule base all) slots id (v, me.1) 0 (λ n. either (n == 0) k n) (Tries story knows within (step slots 0 0 k none) (v, me.1))) (sym e)
      (tries base all slots id k p me.1 same)

  pub leaves_from : (base : List E) (all slots id : ℕ) (me : Me (Option M) V) (p : P) (c : M) → me ≡ (LiveSeat p (Some c), (0, Some c) ∷ [])
      → Allows (Rule base all) slots id me 0 (λ n. 0) (λ n. Leaves story knows within (step slots 0 0 0 none) me 0)
  leaves_from base all slots id me p c e =
      subst (λ (x : Me (Option M) V). Allows (Rule base all) slots id x 0 (λ n. 0) (λ n. Leaves story knows within (step slots 0 0 0 none) x 0)) (sym e)
      (leaves base all slots id p c)

  pub counts_from : (base : List E) (all slots id : ℕ) (me : Me (Option M) V) (p : P) (c : M) (call : C) (reply : R) (after : M) (news : Option ((C × R) × M)) → me.0 ≡ LiveSeat p (Some c) → news ≡ Some ((call, reply), after)
      → IsPrefix (story c) (story after)
      → knows after p.number (p.steps ++ (call, reply) ∷ [])
      → ((n : ℕ) (steps : List (C × R)) → n ≢ p.number → knows c n steps → knows after n steps)
      → within (story after) p.number (p.steps ++ (call, reply) ∷ [])
      → Allows (Rule base all) slots id me 1 (λ n. (n + 1) % 18446744073709551616) (Counts story knows within news (step slots 1 1 0 none) me)
  counts_from base all slots id me p c call reply after news e told grows known others inside =
      subst (λ (z : V × Option ((C × R) × M)). Allows (Rule base all) slots id (z.0, me.1) 1 (λ n. (n + 1) % 18446744073709551616) (Counts story knows within z.1 (step slots 1 1 0 none) (z.0, me.1))) (λ i. (sym e i, sym told i))
      (counts base all slots id p c call reply after me.1 grows known others inside)
