-- A semicolon's kind tells no more than what stands behind it: reading by kinds and plain reading are one.
use Rattle.std.specs.Prelude.{◌≡◌, ℕ, zero, suc, Bool, true, false, not, ◌||◌, ◌&&◌, List, [], ◌∷◌, ◌++◌, map, Some, ◌⊎◌, refl}
use Rattle.std.proofs.Common.{ap, sym, ◌∙◌, subst, inl, inr}
use Rattle.tsql_lexer.specs.declared.lexeme.Sign.TheVariants as sign
use Rattle.tsql_lexer.specs.declared.lexeme.Spanned.{Spanned}
use Rattle.tsql_grammar.specs.declared.kind.Kind.{Kind}
use Rattle.tsql_grammar.specs.declared.kind.Kind.TheVariants as k
use Rattle.tsql_grammar.specs.declared.kind.Reserved.TheVariants as w
use Rattle.tsql_grammar.specs.declared.rule.Class.{Class}
use Rattle.tsql_grammar.specs.declared.rule.Class.TheVariants as c
use Rattle.tsql_grammar.specs.declared.rule.Rule.{Rule}
use Rattle.tsql_grammar.specs.declared.rule.Rule.TheVariants as r
use Rattle.tsql_grammar.specs.Kinds.{same_kind}
use Rattle.tsql_grammar.specs.Language.{language}
use Rattle.tsql_grammar.specs.Lookahead.{first, nullable}
use Rattle.tsql_grammar.specs.Noted.{Noted, see, note}
use Rattle.tsql_grammar.specs.Productions.{Symbols, Tree}
use Rattle.tsql_grammar.specs.Terminals.{Terminal, kind, kind_before, terminals, admits, begins_else}
use Rattle.tsql_grammar.specs.Words.{kind_of}
use Rattle.tsql_grammar.proofs.BehindSemicolons.{is_else, else_kind, semicolon, no_else, else_next, good, semicolon_ok, behind_lexeme, behind_mark, opened_good}
use Rattle.tsql_grammar.proofs.Instance.{G, A, predictive, same_so}
use Rattle.grammar_laws.specs.Grammar.{Trees, Derives, Matches}
use Rattle.grammar_laws.specs.Grammar.Symbol.{lexeme, rule, mark}
use Rattle.grammar_laws.specs.Lookahead.{begins}
use Rattle.grammar_laws.specs.Alternatives.{AlternativeOf, symbols_of, may_take, may_be_empty}
use Rattle.grammar_laws.proofs.Booleans.{and_true, or_true}
use Rattle.grammar_laws.proofs.Choice.{begins_so}
use Rattle.grammar_laws.proofs.Expected.{restored, renoted}

-- a kind is ELSE by itself, whatever the lexeme is before
else_of : (b : Bool) (a : Kind) → same_kind else_kind (kind_before b a) ≡ true → a ≡ else_kind
else_of true (k.Sign sign.Semicolon) e = absurd (cc)
else_of true a e = sym (same_so else_kind a e)
else_of false a e = sym (same_so else_kind a e)

abbrev pub plain : List Terminal → List Spanned
plain w = map (λ l. l.spanned) w

-- the same lexemes, each with what is behind it
abbrev pub again : List Terminal → List Terminal
again w = terminals (plain w)

else_before : (b : Bool) → kind_before b else_kind ≡ else_kind
else_before true = refl
else_before false = refl

else_comes : (w : List Terminal) → begins_else (plain w) ≡ true → (l : Terminal) × (v : List Terminal) × (w ≡ l ∷ v) × (kind l ≡ else_kind)
else_comes [] e = absurd (cc)
else_comes (l ∷ w) e = (l, w, refl, ap (kind_before l.before_else) (same_so (kind_of l.spanned.lexeme) else_kind e) ∙ else_before l.before_else)

same_else : (a : Kind) → a ≡ else_kind → same_kind a else_kind ≡ true
same_else a e = subst (λ (x : Kind). same_kind x else_kind ≡ true) (sym e) refl

-- the classes of a semicolon
semicolon_class : (a : Class) (x y : Bool) → admits a semicolon ≡ true → semicolon_ok a x y ≡ true → x ≡ true
semicolon_class c.Semicolon x y e f = f
semicolon_class (c.One a) x y e f = let it : false ≡ true = subst (λ (z : Kind). semicolon_ok (c.One z) x y ≡ true) (same_so a semicolon e) f in absurd (cc)
semicolon_class _ x y e f = absurd (cc)

not_true : (b : Bool) → not b ≡ true → b ≡ false
not_true true e = absurd (cc)
not_true false e = refl

else_class : (a : Class) (u : Kind) → is_else a ≡ true → admits a u ≡ true → same_kind else_kind u ≡ true
else_class (c.One (k.Reserved w.Else)) u e j = j
else_class _ u e j = absurd (cc)

-- one before ELSE stays so
kept : (b b' : Bool) (a : Kind) → b ≡ true → kind_before b' a ≡ k.BeforeElse → kind_before b a ≡ semicolon → ⊥
kept true true a e f g = absurd (cc)
kept true false a e f g = let it : a ≡ k.BeforeElse = f in never a it g
  where
    never : (a : Kind) → a ≡ k.BeforeElse → kind_before true a ≡ semicolon → ⊥
    never (k.Sign sign.Semicolon) f g = absurd (cc)
    never a f g = absurd (cc)
kept false b' a e f g = absurd (cc)

not_both : (b : Bool) → not (b && false) ≡ true
not_both true = refl
not_both false = refl

-- a plain semicolon keeps no ELSE from being left out
pub allow_semicolon : (text : List ℕ) (q : Rule) (p : AlternativeOf (language text) q) → may_take (language text) q p (Some semicolon) ≡ true
allow_semicolon text (r.Else a) p = not_both (may_be_empty (language text) (symbols_of (language text) (r.Else a) p))
allow_semicolon text _ p = refl

module _ (text : List ℕ) where
  abbrev Reading : ℕ → (is : Symbols) → List Terminal → Trees Terminal Tree is → Noted → Noted → Type 0
  Reading = Derives (G text)

  no_else_begins : (is : Symbols) (l : Terminal) → kind l ≡ else_kind → no_else true is ≡ true → begins (G text) (A text) is l ≡ false
  no_else_begins [] l e y = refl
  no_else_begins (lexeme a ∷ is) l e y = not_true (admits a (kind l)) (subst (λ (x : Kind). not (admits a x) ≡ true) (sym e) y)
  no_else_begins (mark m ∷ is) l e y = no_else_begins is l e y
  no_else_begins (rule q ∷ is) l e y =
      let both = and_true (not (first q else_kind)) (not (nullable q) || no_else true is) y in
      let it : first q (kind l) ≡ false = not_true (first q (kind l)) (subst (λ (x : Kind). not (first q x) ≡ true) (sym e) both.0) in
      elim (or_true (not (nullable q)) (no_else true is) both.1) [
        | inl f ↦ let gone : nullable q ≡ false = not_true (nullable q) f in rw (it, gone) refl
        | inr f ↦ neither (first q (kind l)) (nullable q) (begins (G text) (A text) is l) it (no_else_begins is l e f)
      ]
    where
      neither : (a b d : Bool) → a ≡ false → d ≡ false → (a || (b && d)) ≡ false
      neither a true d e f = rw (e, f) refl
      neither a false d e f = rw e refl

  -- no ELSE comes where none may
  never_else : (h : ℕ) (is : Symbols) (l : Terminal) (w : List Terminal) (vs : Trees Terminal Tree is) (s t : Noted) → kind l ≡ else_kind → no_else true is ≡ true → Reading h is (l ∷ w) vs s t → ⊥
  never_else h is l w vs s t e y d = let b = begins_so (G text) (A text) (predictive text) h is l w vs s t d in let n = no_else_begins is l e y in absurd (cc)

  -- nor behind a semicolon that is not of the kind before it
  never_behind : (d : Bool) (h : ℕ) (is : Symbols) (l l2 : Terminal) (w : List Terminal) (vs : Trees Terminal Tree is) (s t : Noted)
      → good true d is ≡ true → kind l ≡ semicolon → kind l2 ≡ else_kind → Reading h is (l ∷ l2 ∷ w) vs s t → ⊥
  never_behind d h [] l l2 w vs s t y e f x = x
  never_behind d zero (i ∷ is) l l2 w vs s t y e f x = x
  never_behind d (suc h) (mark m ∷ is) l l2 w vs s t y e f x = never_behind d h is l l2 w vs (note s m) t (behind_mark true d m is y).1 e f x
  never_behind d (suc h) (rule q ∷ is) l l2 w vs s t y e f (p, xs, e2, m, x) =
      never_behind d h (symbols_of (language text) q p ++ is) l l2 w _ s t (opened_good text true d q p is y) e f x
  never_behind d (suc h) (lexeme a ∷ is) l l2 w vs s t y e f x =
      let (i, j, z) = behind_lexeme true d a is y in
      never_else h is l2 w vs.1 (see s l) t f (semicolon_class a (no_else true is) (else_next is) (subst (λ (u : Kind). admits a u ≡ true) e x.0) i) x.2

  -- the kind of a lexeme before these others
  kinds : (b b' : Bool) (a : Kind) → (b ≡ false → b' ≡ true → a ≡ semicolon → ⊥) → (kind_before b' a ≡ kind_before b a) ⊎ ((kind_before b a ≡ k.BeforeElse) × (kind_before b' a ≡ semicolon))
  kinds true true a f = inl refl
  kinds false false a f = inl refl
  kinds true false (k.Sign sign.Semicolon) f = inr (refl, refl)
  kinds true false a f = inl refl
  kinds false true (k.Sign sign.Semicolon) f = absurd (f refl refl refl)
  kinds false true a f = inl refl

  again_kind : (d : Bool) (h : ℕ) (is : Symbols) (l : Terminal) (w : List Terminal) (vs : Trees Terminal Tree is) (s t : Noted) → good true d is ≡ true → Reading h is (l ∷ w) vs s t
      → (kind_before (begins_else (plain w)) (kind_of l.spanned.lexeme) ≡ kind l) ⊎ ((kind l ≡ k.BeforeElse) × (kind_before (begins_else (plain w)) (kind_of l.spanned.lexeme) ≡ semicolon))
  again_kind d h is l w vs s t y x =
      kinds l.before_else (begins_else (plain w)) (kind_of l.spanned.lexeme)
      (λ no yes it. let (l2, v, e, f) = else_comes w yes in
      never_behind d h is l l2 v vs s t y ((λ i. kind_before (no i) (kind_of l.spanned.lexeme)) ∙ it) f (subst (λ (u : List Terminal). Reading h is (l ∷ u) vs s t) e x))

  -- where an ELSE is next one comes
  else_read : (h : ℕ) (is : Symbols) (w : List Terminal) (vs : Trees Terminal Tree is) (s t : Noted) → else_next is ≡ true → Reading h is w vs s t → begins_else (plain w) ≡ true
  else_read h [] w vs s t e x = absurd (cc)
  else_read h (mark m ∷ is) w vs s t e x = absurd (cc)
  else_read h (rule q ∷ is) w vs s t e x = absurd (cc)
  else_read zero (lexeme a ∷ is) w vs s t e x = absurd x
  else_read (suc h) (lexeme a ∷ is) [] vs s t e x = absurd x
  else_read (suc h) (lexeme a ∷ is) (l ∷ w) vs s t e x = same_else (kind_of l.spanned.lexeme) (else_of l.before_else (kind_of l.spanned.lexeme) (else_class a (kind l) e x.0))

  admit_again : (a : Class) (u v : Kind) (x y : Bool) → (v ≡ u) ⊎ ((u ≡ k.BeforeElse) × (v ≡ semicolon)) → (y ≡ true → u ≡ k.BeforeElse → v ≡ semicolon → ⊥) → semicolon_ok a x y ≡ true → admits a u ≡ true → admits a v ≡ true
  admit_again a u v x y (inl e) f i j = subst (λ (z : Kind). admits a z ≡ true) (sym e) j
  admit_again a u v x y (inr (e, e2)) f i j =
      subst (λ (z : Kind). admits a z ≡ true) (sym e2) (before a x y (λ g. f g e e2) i (subst (λ (z : Kind). admits a z ≡ true) e j))
    where
      before : (a : Class) (x y : Bool) → (y ≡ true → ⊥) → semicolon_ok a x y ≡ true → admits a k.BeforeElse ≡ true → admits a semicolon ≡ true
      before c.Semicolon x y f i j = refl
      before (c.One a) x y f i j = absurd (f (subst (λ (z : Kind). semicolon_ok (c.One z) x y ≡ true) (same_so a k.BeforeElse j) i))
      before _ x y f i j = absurd (cc)

  allow_again : (q : Rule) (p : AlternativeOf (language text) q) (u v : Kind) → (v ≡ u) ⊎ ((u ≡ k.BeforeElse) × (v ≡ semicolon)) → may_take (language text) q p (Some u) ≡ true → may_take (language text) q p (Some v) ≡ true
  allow_again q p u v (inl e) m = subst (λ (z : Kind). may_take (language text) q p (Some z) ≡ true) (sym e) m
  allow_again q p u v (inr (e, e2)) m = subst (λ (z : Kind). may_take (language text) q p (Some z) ≡ true) (sym e2) (allow_semicolon text q p)

  -- what reads does so when each semicolon has the kind that tells what is behind it
  pub reads_again : (d : Bool) (h : ℕ) (is : Symbols) (w : List Terminal) (vs : Trees Terminal Tree is) (s t : Noted) → good true d is ≡ true → Reading h is w vs s t → Matches (G text) is (again w) s t
  reads_again d h [] [] vs s t y x = (zero, tt, x)
  reads_again d h [] (l ∷ w) vs s t y x = absurd x
  reads_again d zero (i ∷ is) w vs s t y x = absurd x
  reads_again d (suc h) (mark m ∷ is) [] vs s t y x = renoted (G text) m is [] s t (reads_again d h is [] vs (note s m) t (behind_mark true d m is y).1 x)
  reads_again d (suc h) (mark m ∷ is) (l ∷ w) vs s t y x = renoted (G text) m is (again (l ∷ w)) s t (reads_again d h is (l ∷ w) vs (note s m) t (behind_mark true d m is y).1 x)
  reads_again d (suc h) (lexeme a ∷ is) [] vs s t y x = absurd x
  reads_again d (suc h) (lexeme a ∷ is) (l ∷ w) vs s t y x =
      let (i, j, z) = behind_lexeme true d a is y in
      let it = again_kind d (suc h) (lexeme a ∷ is) l w vs s t y x in
      let more = reads_again d h is w vs.1 (see s l) t z x.2 in
      let l' : Terminal = record { spanned = l.spanned; before_else = begins_else (plain w) } in
      let fits : admits a (kind l') ≡ true = admit_again a (kind l) (kind l') (no_else true is) (else_next is) it
      (λ next e e2. let yes = else_read h is w vs.1 (see s l) t next x.2 in kept (begins_else (plain w)) l.before_else (kind_of l.spanned.lexeme) yes e e2) i x.0 in
      (suc more.0, (l', more.1), (fits, refl, more.2))
  reads_again d (suc h) (rule q ∷ is) [] vs s t y (p, xs, e, m, x) =
      restored (G text) q p is [] s t m (reads_again d h (symbols_of (language text) q p ++ is) [] _ s t (opened_good text true d q p is y) x)
  reads_again d (suc h) (rule q ∷ is) (l ∷ w) vs s t y (p, xs, e, m, x) =
      restored (G text) q p is (again (l ∷ w)) s t
      (allow_again q p (kind l) (kind_before (begins_else (plain w)) (kind_of l.spanned.lexeme)) (again_kind d (suc h) (rule q ∷ is) l w vs s t y (p, xs, e, m, x)) m)
      (reads_again d h (symbols_of (language text) q p ++ is) (l ∷ w) _ s t (opened_good text true d q p is y) x)
