-- Reading and stopping by kinds is plain reading and stopping.
use Rattle.std.specs.Prelude.{◌≡◌, ℕ, zero, suc, ◌≤◌, Bool, true, false, ◌&&◌, List, [], ◌∷◌, ◌++◌, length, take, drop, Some, ◌⊎◌, refl}
use Rattle.std.proofs.Common.{ap, sym, ◌∙◌, subst, inl, inr}
use Rattle.tsql_lexer.specs.declared.lexeme.Sign.TheVariants as sign
use Rattle.tsql_lexer.specs.declared.lexeme.Spanned.{Spanned}
use Rattle.tsql_grammar.specs.declared.kind.Kind.{Kind}
use Rattle.tsql_grammar.specs.declared.kind.Kind.TheVariants as k
use Rattle.tsql_grammar.specs.declared.rule.Rule.{Rule}
use Rattle.tsql_grammar.specs.Language.{ReadsAs, StopsIn}
use Rattle.tsql_grammar.specs.Noted.{Noted}
use Rattle.tsql_grammar.specs.PlainText.{ReadsPlain, IsPlainText, PlainStops, PlainStopsIn, may_end_before_else}
use Rattle.tsql_grammar.specs.Productions.{Tree}
use Rattle.tsql_grammar.specs.Terminals.{Terminal, kind_before, terminals, begins_else}
use Rattle.tsql_grammar.specs.Words.{kind_of}
use Rattle.tsql_grammar.proofs.BehindSemicolons.{semicolon, good, may_end_with_semicolon}
use Rattle.tsql_grammar.proofs.Instance.{G}
use Rattle.tsql_grammar.proofs.PlainReadings.{to_plain, from_plain}
use Rattle.tsql_grammar.proofs.SemicolonKinds.{plain, again, reads_again}
use Rattle.tsql_grammar.proofs.SemicolonPlaces.{GoesOn, flagged, ready, other_kind, same_kind_goes_on}
use Rattle.grammar_laws.specs.Grammar.{Derives, Matches, next}
use Rattle.grammar_laws.specs.Grammar.Symbol.{rule}
use Rattle.grammar_laws.specs.Prefix.{StopsAt}
use Rattle.grammar_laws.proofs.Booleans.{implies}

plain_append : (x y : List Terminal) → plain (x ++ y) ≡ plain x ++ plain y
plain_append [] y = refl
plain_append (l ∷ x) y = ap (λ (z : List Spanned). l.spanned ∷ z) (plain_append x y)

plain_take : (n : ℕ) (w : List Spanned) → plain (take n (terminals w)) ≡ take n w
plain_take zero w = refl
plain_take (suc n) [] = refl
plain_take (suc n) (l ∷ w) = ap (λ (z : List Spanned). l ∷ z) (plain_take n w)

length_terminals : (w : List Spanned) → length (terminals w) ≡ length w
length_terminals [] = refl
length_terminals (l ∷ w) = ap suc (length_terminals w)

drop_terminals : (n : ℕ) (w : List Spanned) → drop n (terminals w) ≡ terminals (drop n w)
drop_terminals zero w = refl
drop_terminals (suc n) [] = refl
drop_terminals (suc n) (l ∷ w) = drop_terminals n w

begins_else_next : (v w : List Spanned) → next v ≡ next w → begins_else v ≡ begins_else w
begins_else_next [] [] e = refl
begins_else_next [] (l ∷ w) e = absurd (cc)
begins_else_next (l ∷ v) [] e = absurd (cc)
begins_else_next (l ∷ v) (l2 ∷ w) e = let same : l ≡ l2 = cc in ap (λ (z : Spanned). begins_else (z ∷ [])) same

next_behind : (n : ℕ) (w v : List Spanned) → next v ≡ next (drop n w) → next (take n w ++ v) ≡ next w
next_behind zero w v e = e
next_behind (suc n) [] v e = e
next_behind (suc n) (l ∷ w) v e = refl

-- a text that goes on as another does has the same kinds up to there
seam : (n : ℕ) (w v : List Spanned) → next v ≡ next (drop n w) → terminals (take n w ++ v) ≡ take n (terminals w) ++ terminals v
seam zero w v e = refl
seam (suc n) [] v e = refl
seam (suc n) (l ∷ w) v e =
    let here : begins_else (take n w ++ v) ≡ begins_else w = begins_else_next (take n w ++ v) w (next_behind n w v e) in
    let more = seam n w v e in
    λ i. (record { spanned = l; before_else = here i }) ∷ more i

one_kind : (b b' : Bool) (u : Kind) → (kind_before b u ≡ kind_before b' u) ⊎ (u ≡ semicolon)
one_kind true true u = inl refl
one_kind false false u = inl refl
one_kind true false (k.Sign sign.Semicolon) = inr refl
one_kind true false u = inl refl
one_kind false true (k.Sign sign.Semicolon) = inr refl
one_kind false true u = inl refl

alone_good : (a : Rule) → good true (may_end_before_else a) (rule a ∷ []) ≡ true
alone_good a = both (may_end_with_semicolon a) (may_end_before_else a)
  where
    both : (x y : Bool) → ((implies x true && (implies y y && true)) && true) ≡ true
    both true true = refl
    both true false = refl
    both false true = refl
    both false false = refl

pub kinds_read : (text : List ℕ) (a : Rule) (w : List Spanned) (x : Tree a) (s t : Noted) → ReadsAs text a (terminals w) x s t → ReadsPlain text a w x s t
kinds_read text a w x s t (h, d) = (h, to_plain text h (rule a ∷ []) (terminals w) (x, tt) s t d)

pub plain_reads : (text : List ℕ) (a : Rule) (w : List Spanned) (x : Tree a) (s t : Noted) → ReadsPlain text a w x s t → ReadsAs text a (terminals w) x s t
plain_reads text a w x s t (h, d) = (h, from_plain text (may_end_before_else a) h (rule a ∷ []) w (x, tt) s t (alone_good a) d)

module _ (text : List ℕ) (a : Rule) (w : List Spanned) (s : Noted) (at : ℕ) (e : may_end_before_else a ≡ false) (x : StopsAt (G text) (rule a ∷ []) s (take at (terminals w)) (drop at (terminals w))) where
  is_good : good true false (rule a ∷ []) ≡ true
  is_good = subst (λ (b : Bool). good true b (rule a ∷ []) ≡ true) e (alone_good a)

  viable : (v : List Spanned) × (t : Noted) × IsPlainText text a (take at w ++ v) s t
  viable =
      let (v, t, (h, vs, d)) = x.viable in
      let (j, us, f) = reads_again text false h (rule a ∷ []) (take at (terminals w) ++ v) vs s t is_good d in
      let same : plain (take at (terminals w) ++ v) ≡ take at w ++ plain v = plain_append (take at (terminals w)) v ∙ ap (λ (z : List Spanned). z ++ plain v) (plain_take at w) in
      (plain v, t, subst (λ (z : List Spanned). IsPlainText text a z s t) same (j, us, to_plain text j (rule a ∷ []) (again (take at (terminals w) ++ v)) us s t f))

  never : (v d : List Spanned) (t : Noted) → next v ≡ next d → drop at w ≡ d → Matches (G text) (rule a ∷ []) (take at (terminals w) ++ terminals v) s t → ⊥
  never [] [] t f g m = x.further [] t (sym (ap next (drop_terminals at w ∙ ap terminals g))) m
  never [] (l2 ∷ d) t f g m = absurd (cc)
  never (l ∷ v) [] t f g m = absurd (cc)
  never (l ∷ v) (l2 ∷ d) t f g (h, vs, m) =
      let same : l ≡ l2 = cc in
      let l0 : Terminal = record { spanned = l; before_else = begins_else v } in
      let comes : Some (flagged text l0 (begins_else d)) ≡ next (drop at (terminals w)) =
      ap (λ (z : Spanned). Some (record { spanned = z; before_else = begins_else d })) same ∙ sym (ap next (drop_terminals at w ∙ ap terminals g)) in
      let on : GoesOn text (rule a ∷ []) (take at (terminals w)) (flagged text l0 (begins_else d)) s =
      elim (one_kind (begins_else d) (begins_else v) (kind_of l.lexeme)) [
        | inl y ↦ same_kind_goes_on text (begins_else d) h (take at (terminals w)) (rule a ∷ []) l0 (terminals v) vs s t y m
        | inr y ↦ other_kind text (begins_else d) h (take at (terminals w)) (rule a ∷ []) l0 (terminals v) vs s t y is_good tt (ready text (take at (terminals w)) (rule a ∷ []) refl) m
      ] in
      x.further (flagged text l0 (begins_else d) ∷ on.0) on.1 comes on.2

  stops : PlainStops text a s (take at w) (drop at w)
  stops = record {
    viable = viable;
    further = λ v t same (h, vs, d). never v (drop at w) t same refl (
      h,
      vs,
      subst (λ (z : List Terminal). Derives (G text) h (rule a ∷ []) z vs s t) (seam at w v same)
          (from_plain text (may_end_before_else a) h (rule a ∷ []) (take at w ++ v) vs s t (alone_good a) d),
    );
  }

pub plain_stops : (text : List ℕ) (a : Rule) (w : List Spanned) (s : Noted) (at : ℕ) → may_end_before_else a ≡ false → StopsIn text a (terminals w) s at → PlainStopsIn text a w s at
plain_stops text a w s at e (le, x) = (subst (λ (z : ℕ). at ≤ z) (length_terminals w) le, stops text a w s at e x)
