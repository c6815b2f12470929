-- Where a semicolon of one kind may come, one of the other kind may.
use Rattle.std.specs.Prelude.{◌≡◌, ℕ, zero, suc, Bool, true, false, List, [], ◌∷◌, ◌++◌, Some, None, ◌⊎◌, refl}
use Rattle.std.proofs.Common.{ap, sym, subst, inl, inr}
use Rattle.tsql_grammar.specs.declared.kind.Kind.{Kind}
use Rattle.tsql_grammar.specs.declared.kind.Kind.TheVariants as k
use Rattle.tsql_grammar.specs.declared.rule.Around.{Around}
use Rattle.tsql_grammar.specs.declared.rule.Class.{Class}
use Rattle.tsql_grammar.specs.declared.rule.Class.TheVariants as c
use Rattle.tsql_grammar.specs.declared.rule.Rule.{Rule}
use Rattle.tsql_grammar.specs.declared.rule.Rule.TheVariants as r
use Rattle.tsql_grammar.specs.Language.{language}
use Rattle.tsql_grammar.specs.Lookahead.{nearest}
use Rattle.tsql_grammar.specs.Noted.{Noted, see, note}
use Rattle.tsql_grammar.specs.Productions.{Symbols, Tree}
use Rattle.tsql_grammar.specs.Terminals.{Terminal, kind, kind_before, admits}
use Rattle.tsql_grammar.specs.Words.{kind_of}
use Rattle.tsql_grammar.proofs.BehindSemicolons.{semicolon, no_else, else_next, passes, reaches_body, good, semicolon_ok, not_before_else, begins_freely, is_else_rule, freely_push, behind_rule, behind_lexeme, behind_mark, opened_good, opened_freely}
use Rattle.tsql_grammar.proofs.Instance.{G, A, predictive, productive, same_so}
use Rattle.grammar_laws.specs.Grammar.{Trees, Derives, Matches}
use Rattle.grammar_laws.specs.Grammar.Symbol.{lexeme, rule, mark}
use Rattle.grammar_laws.specs.Lookahead.{HasNoBinding, BindsAtFront}
use Rattle.grammar_laws.specs.Alternatives.{AlternativeOf, symbols_of, may_take}
use Rattle.grammar_laws.proofs.Alive.{alive}
use Rattle.grammar_laws.proofs.Begins.{unbound_binds, binds_append}
use Rattle.grammar_laws.proofs.Expected.{restored, renoted}

false_is_not : false ≡ true → ⊥
false_is_not e = cc

pass_of : (q : Rule) (x : Bool) → passes q x ≡ true → ((a : Around) × (q ≡ r.Else a) × (x ≡ true)) ⊎ ((a : Around) × (q ≡ r.Body a))
pass_of (r.Else a) x e = inl (a, refl, e)
pass_of (r.Body a) x e = inr (a, refl)
pass_of _ x e = absurd (cc)

else_of : (q : Rule) → ((a : Around) × (q ≡ r.Else a)) ⊎ ((is_else_rule q ≡ false) × (nearest q ≡ false))
else_of (r.Else a) = inl (a, refl)
else_of _ = inr (refl, refl)

-- either kind of semicolon is of the classes of the other, but for the class before ELSE
other_class : (a : Class) (b b' x y : Bool) → semicolon_ok a x y ≡ true → not_before_else a ≡ true → admits a (kind_before b semicolon) ≡ true → admits a (kind_before b' semicolon) ≡ true
other_class c.Semicolon b true x y i n e = refl
other_class c.Semicolon b false x y i n e = refl
other_class (c.One z) true b' x y i n e = absurd (false_is_not (subst (λ (z : Kind). not_before_else (c.One z) ≡ true) (same_so z k.BeforeElse e) n))
other_class (c.One z) false b' x y i n e = absurd (false_is_not (subst (λ (z : Kind). semicolon_ok (c.One z) x y ≡ true) (same_so z semicolon e) i))
other_class _ true b' x y i n e = absurd (cc)
other_class _ false b' x y i n e = absurd (cc)

module _ (text : List ℕ) where
  -- some text goes on so behind the past
  abbrev pub GoesOn : Symbols → List Terminal → Terminal → Noted → Type 0
  GoesOn is past l s = (v : List Terminal) × (t : Noted) × Matches (G text) is (past ++ (l ∷ v)) s t

  -- a plain semicolon goes on where a body is reached
  body_goes_on : (is : Symbols) (l : Terminal) (s : Noted) → reaches_body false is ≡ true → HasNoBinding (G text) (A text) is → kind l ≡ semicolon → GoesOn is [] l s
  body_goes_on [] l s e b f = absurd (cc)
  body_goes_on (lexeme a ∷ is) l s e b f = absurd (cc)
  body_goes_on (mark m ∷ is) l s e b f = let (v, t, x) = body_goes_on is l (note s m) e b f in (v, t, renoted (G text) m is (l ∷ v) s t x)
  body_goes_on (rule q ∷ is) l s e b f = elim (pass_of q (reaches_body false is) e) [
    | inl (a, e2, e3) ↦ let (v, t, x) = body_goes_on is l s e3 b f in (
      v,
      t,
      subst (λ (z : Rule). Matches (G text) (rule z ∷ is) (l ∷ v) s t) (sym e2)
          (restored (G text) (r.Else a) (Some (Some None)) is (l ∷ v) s t (subst (λ (z : Kind). may_take (language text) (r.Else a) (Some (Some None)) (Some z) ≡ true) (sym f) refl) x),
    )
    | inr (a, e2) ↦ let (v, t, x) = alive (G text) (A text) (productive text) (rule (r.Body a) ∷ is) (see s l) b in (
      v,
      t,
      subst (λ (z : Rule). Matches (G text) (rule z ∷ is) (l ∷ v) s t) (sym e2)
          (restored (G text) (r.Body a) None is (l ∷ v) s t refl
          (suc x.0, (l, x.1), (subst (λ (z : Kind). admits c.Semicolon z ≡ true) (sym f) refl, refl, x.2))),
    )
  ]

  -- a semicolon before ELSE goes on where an ELSE is expected
  else_goes_on : (a : Around) (is : Symbols) (l : Terminal) (s : Noted) → HasNoBinding (G text) (A text) is → kind l ≡ k.BeforeElse → GoesOn (rule (r.Else a) ∷ is) [] l s
  else_goes_on a is l s b f =
      let behind = symbols_of (language text) (r.Else a) None ++ is in
      let (v, t, x) = alive (G text) (A text) (productive text) behind (see s l) b in (
        v,
        t,
        restored (G text) (r.Else a) (Some None) is (l ∷ v) s t (subst (λ (z : Kind). may_take (language text) (r.Else a) (Some None) (Some z) ≡ true) (sym f) refl)
            (suc x.0, (l, x.1), (subst (λ (z : Kind). admits (c.One k.BeforeElse) z ≡ true) (sym f) refl, refl, x.2)),
      )

  abbrev pub flagged : Terminal → Bool → Terminal
  flagged l b = record l { before_else = b }

  -- a rule but ELSE is opened whatever comes
  allows_any : (q : Rule) (p : AlternativeOf (language text) q) (u : Kind) → nearest q ≡ false → may_take (language text) q p (Some u) ≡ true
  allows_any q p u e = rw e refl

  other_here : (b : Bool) (h : ℕ) (is : Symbols) (l : Terminal) (w : List Terminal) (vs : Trees Terminal Tree is) (s t : Noted) → kind_of l.spanned.lexeme ≡ semicolon
      → good true false is ≡ true → BindsAtFront (G text) (A text) is → begins_freely is ≡ true → Derives (G text) h is (l ∷ w) vs s t → GoesOn is [] (flagged l b) s
  other_here b h [] l w vs s t f y z n x = absurd x
  other_here b zero (i ∷ is) l w vs s t f y z n x = absurd x
  other_here b (suc h) (mark m ∷ is) l w vs s t f y z n x =
      let both = behind_mark true false m is y in
      let (v, u, d) = other_here b h is l w vs (note s m) t f both.1 (unbound_binds (G text) (A text) is z) both.0 x in
      (v, u, renoted (G text) m is (flagged l b ∷ v) s u d)
  other_here b (suc h) (lexeme a ∷ is) l w vs s t f y z n x =
      let (i, j, g) = behind_lexeme true false a is y in
      let fits : admits a (kind (flagged l b)) ≡ true =
      subst (λ (u : Kind). admits a (kind_before b u) ≡ true) (sym f) (other_class a l.before_else b (no_else true is) (else_next is) i n (subst (λ (u : Kind). admits a (kind_before l.before_else u) ≡ true) f x.0)) in
      (w, t, (suc h, (flagged l b, vs.1), (fits, refl, x.2)))
  other_here b (suc h) (rule q ∷ is) l w vs s t f y z n (p, xs, e, m, x) = elim (else_of q) [
    | inl (a, e2) ↦ subst (λ (u : Rule). GoesOn (rule u ∷ is) [] (flagged l b) s) (sym e2) (at_else a is l s b f (subst (λ (u : Rule). good true false (rule u ∷ is) ≡ true) e2 y) z)
    | inr (e2, e3) ↦
        let (i, j, g, good_is) = behind_rule true false q is y in
        let (v, u, d) = other_here b h (symbols_of (language text) q p ++ is) l w _ s t f (opened_good text true false q p is y)
        (binds_append (G text) (A text) (symbols_of (language text) q p) is ((predictive text).binds q p) z)
        (freely_push (symbols_of (language text) q p) is g (opened_freely text q p e2)) x in
        (v, u, restored (G text) q p is (flagged l b ∷ v) s u (allows_any q p (kind (flagged l b)) e3) d)
  ]
    where
      at_else : (a : Around) (is : Symbols) (l : Terminal) (s : Noted) (b : Bool) → kind_of l.spanned.lexeme ≡ semicolon → good true false (rule (r.Else a) ∷ is) ≡ true
          → HasNoBinding (G text) (A text) is → GoesOn (rule (r.Else a) ∷ is) [] (flagged l b) s
      at_else a is l s true f y z = else_goes_on a is (flagged l true) s z (ap (kind_before true) f)
      at_else a is l s false f y z =
          let (i, j, g, good_is) = behind_rule true false (r.Else a) is y in
          let (v, u, d) = body_goes_on is (flagged l false) s j z (ap (kind_before false) f) in (
            v,
            u,
            restored (G text) (r.Else a) (Some (Some None)) is (flagged l false ∷ v) s u
                (subst (λ (x : Kind). may_take (language text) (r.Else a) (Some (Some None)) (Some (kind_before false x)) ≡ true) (sym f) refl) d,
          )

  -- what is asked where the semicolon comes
  abbrev pub Ready : List Terminal → Symbols → Type 0
  Ready [] is = begins_freely is ≡ true
  Ready (l ∷ past) is = Unit {0}

  pub ready : (past : List Terminal) (is : Symbols) → begins_freely is ≡ true → Ready past is
  ready [] is e = e
  ready (l ∷ past) is e = tt

  pub other_kind : (b : Bool) (h : ℕ) (past : List Terminal) (is : Symbols) (l : Terminal) (w : List Terminal) (vs : Trees Terminal Tree is) (s t : Noted) → kind_of l.spanned.lexeme ≡ semicolon
      → good true false is ≡ true → BindsAtFront (G text) (A text) is → Ready past is → Derives (G text) h is (past ++ (l ∷ w)) vs s t → GoesOn is past (flagged l b) s
  other_kind b h [] is l w vs s t f y z n x = other_here b h is l w vs s t f y z n x
  other_kind b h (l0 ∷ past) [] l w vs s t f y z n x = absurd x
  other_kind b zero (l0 ∷ past) (i ∷ is) l w vs s t f y z n x = absurd x
  other_kind b (suc h) (l0 ∷ past) (mark m ∷ is) l w vs s t f y z n x =
      let both = behind_mark true false m is y in
      let (v, u, d) = other_kind b h (l0 ∷ past) is l w vs (note s m) t f both.1 (unbound_binds (G text) (A text) is z) tt x in
      (v, u, renoted (G text) m is ((l0 ∷ past) ++ (flagged l b ∷ v)) s u d)
  other_kind b (suc h) (l0 ∷ past) (lexeme a ∷ is) l w vs s t f y z n x =
      let (i, j, g) = behind_lexeme true false a is y in
      let (v, u, d) = other_kind b h past is l w vs.1 (see s l0) t f g z (ready past is j) x.2 in
      (v, u, (suc d.0, (l0, d.1), (x.0, refl, d.2)))
  other_kind b (suc h) (l0 ∷ past) (rule q ∷ is) l w vs s t f y z n (p, xs, e, m, x) =
      let (v, u, d) = other_kind b h (l0 ∷ past) (symbols_of (language text) q p ++ is) l w _ s t f (opened_good text true false q p is y)
      (binds_append (G text) (A text) (symbols_of (language text) q p) is ((predictive text).binds q p) z) tt x in
      (v, u, restored (G text) q p is ((l0 ∷ past) ++ (flagged l b ∷ v)) s u m d)

  -- a lexeme that has one kind in either case
  pub same_kind_goes_on : (b : Bool) (h : ℕ) (past : List Terminal) (is : Symbols) (l : Terminal) (w : List Terminal) (vs : Trees Terminal Tree is) (s t : Noted) → kind (flagged l b) ≡ kind l
      → Derives (G text) h is (past ++ (l ∷ w)) vs s t → GoesOn is past (flagged l b) s
  same_kind_goes_on b h [] [] l w vs s t f x = absurd x
  same_kind_goes_on b h (l0 ∷ past) [] l w vs s t f x = absurd x
  same_kind_goes_on b zero [] (i ∷ is) l w vs s t f x = absurd x
  same_kind_goes_on b zero (l0 ∷ past) (i ∷ is) l w vs s t f x = absurd x
  same_kind_goes_on b (suc h) [] (mark m ∷ is) l w vs s t f x = let (v, u, d) = same_kind_goes_on b h [] is l w vs (note s m) t f x in (v, u, renoted (G text) m is (flagged l b ∷ v) s u d)
  same_kind_goes_on b (suc h) (l0 ∷ past) (mark m ∷ is) l w vs s t f x =
      let (v, u, d) = same_kind_goes_on b h (l0 ∷ past) is l w vs (note s m) t f x in (v, u, renoted (G text) m is ((l0 ∷ past) ++ (flagged l b ∷ v)) s u d)
  same_kind_goes_on b (suc h) [] (lexeme a ∷ is) l w vs s t f x = (w, t, (suc h, (flagged l b, vs.1), (subst (λ (z : Kind). admits a z ≡ true) (sym f) x.0, refl, x.2)))
  same_kind_goes_on b (suc h) (l0 ∷ past) (lexeme a ∷ is) l w vs s t f x =
      let (v, u, d) = same_kind_goes_on b h past is l w vs.1 (see s l0) t f x.2 in (v, u, (suc d.0, (l0, d.1), (x.0, refl, d.2)))
  same_kind_goes_on b (suc h) [] (rule q ∷ is) l w vs s t f (p, xs, e, m, x) =
      let (v, u, d) = same_kind_goes_on b h [] (symbols_of (language text) q p ++ is) l w _ s t f x in
      (v, u, restored (G text) q p is (flagged l b ∷ v) s u (subst (λ (z : Kind). may_take (language text) q p (Some z) ≡ true) (sym f) m) d)
  same_kind_goes_on b (suc h) (l0 ∷ past) (rule q ∷ is) l w vs s t f (p, xs, e, m, x) =
      let (v, u, d) = same_kind_goes_on b h (l0 ∷ past) (symbols_of (language text) q p ++ is) l w _ s t f x in (v, u, restored (G text) q p is ((l0 ∷ past) ++ (flagged l b ∷ v)) s u m d)
