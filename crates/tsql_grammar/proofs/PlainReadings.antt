-- What reads by kinds reads plainly, and the other way round.
use Rattle.std.specs.Prelude.{◌≡◌, ℕ, zero, suc, Bool, true, false, ◌&&◌, List, [], ◌∷◌, ◌++◌, refl}
use Rattle.std.proofs.Common.{sym, subst, inl, inr}
use Rattle.tsql_lexer.specs.declared.lexeme.Sign.TheVariants as sign
use Rattle.tsql_lexer.specs.declared.lexeme.Spanned.{Spanned}
use Rattle.tsql_grammar.specs.declared.kind.Kind.{Kind}
use Rattle.tsql_grammar.specs.declared.kind.Kind.TheVariants as k
use Rattle.tsql_grammar.specs.declared.kind.Reserved.TheVariants as w
use Rattle.tsql_grammar.specs.declared.rule.Class.{Class}
use Rattle.tsql_grammar.specs.declared.rule.Class.TheVariants as c
use Rattle.tsql_grammar.specs.Kinds.{same_kind}
use Rattle.tsql_grammar.specs.Language.{language}
use Rattle.tsql_grammar.specs.Noted.{Noted, see, note}
use Rattle.tsql_grammar.specs.PlainText.{plainly_admits, plain_language}
use Rattle.tsql_grammar.specs.Productions.{Symbols, Tree}
use Rattle.tsql_grammar.specs.Terminals.{Terminal, kind_before, terminals, admits, begins_else}
use Rattle.tsql_grammar.specs.Words.{kind_of}
use Rattle.tsql_grammar.proofs.BehindSemicolons.{is_else, else_kind, semicolon, no_else, else_next, good, semicolon_ok, behind_lexeme, behind_mark, opened_good}
use Rattle.tsql_grammar.proofs.Instance.{G, same_so}
use Rattle.grammar_laws.specs.Grammar.{Trees, Derives}
use Rattle.grammar_laws.specs.Grammar.Symbol.{lexeme, rule, mark}
use Rattle.grammar_laws.specs.Alternatives.{symbols_of}
use Rattle.grammar_laws.proofs.Booleans.{and_true, or_true, or_left, or_right}

plain_class : (a : Class) (b : Bool) (u : Kind) → admits a (kind_before b u) ≡ true → plainly_admits a u ≡ true
plain_class a true (k.Sign sign.Semicolon) e = or_right (admits a semicolon) (admits a k.BeforeElse) e
plain_class a true u e = or_left (admits a u) _ e
plain_class a false u e = or_left (admits a u) _ e

not_plain : false ≡ true → ⊥
not_plain e = cc

-- a semicolon that is one of those before ELSE is one, where ELSE is next
before_class : (a : Class) (b x y : Bool) → semicolon_ok a x y ≡ true → (y ≡ true → b ≡ true) → admits a k.BeforeElse ≡ true → admits a (kind_before b semicolon) ≡ true
before_class c.Semicolon true x y i f e = e
before_class c.Semicolon false x y i f e = e
before_class (c.One z) b x y i f e =
    let it : z ≡ k.BeforeElse = same_so z k.BeforeElse e in
    subst (λ (v : Bool). admits (c.One z) (kind_before v semicolon) ≡ true) (sym (f (subst (λ (z : Kind). semicolon_ok (c.One z) x y ≡ true) it i))) e
before_class _ b x y i f e = absurd (cc)

direct_class : (a : Class) (b : Bool) (u : Kind) (x y : Bool) → semicolon_ok a x y ≡ true → admits a u ≡ true → admits a (kind_before b u) ≡ true
direct_class c.Semicolon true (k.Sign sign.Semicolon) x y i e = e
direct_class (c.One z) true (k.Sign sign.Semicolon) x y i e = absurd (not_plain (subst (λ (z : Kind). semicolon_ok (c.One z) x y ≡ true) (same_so z semicolon e) i))
direct_class _ true (k.Sign sign.Semicolon) x y i e = absurd (cc)
direct_class a true u x y i e = e
direct_class a false u x y i e = e

class_of : (a : Class) (b : Bool) (u : Kind) (x y : Bool) → semicolon_ok a x y ≡ true → (y ≡ true → b ≡ true) → plainly_admits a u ≡ true → admits a (kind_before b u) ≡ true
class_of a b u x y i f e = elim (or_true (admits a u) (same_kind semicolon u && admits a k.BeforeElse) e) [
  | inl g ↦ direct_class a b u x y i g
  | inr g ↦ let both = and_true (same_kind semicolon u) (admits a k.BeforeElse) g in
      subst (λ (z : Kind). admits a (kind_before b z) ≡ true) (same_so semicolon u both.0) (before_class a b x y i f both.1)
]

else_class : (a : Class) (u : Kind) → is_else a ≡ true → plainly_admits a u ≡ true → same_kind u else_kind ≡ true
else_class (c.One (k.Reserved w.Else)) u e i = elim (or_true (same_kind else_kind u) (same_kind semicolon u && false) i) [
  | inl g ↦ subst (λ (z : Kind). same_kind z else_kind ≡ true) (same_so else_kind u g) refl
  | inr g ↦ absurd (not_plain (and_true (same_kind semicolon u) false g).1)
]
else_class _ u e i = absurd (cc)

module _ (text : List ℕ) where
  pub to_plain : (h : ℕ) (is : Symbols) (w : List Terminal) (vs : Trees Terminal Tree is) (s t : Noted) → Derives (G text) h is w vs s t → Derives (plain_language text) h is w vs s t
  to_plain h [] [] vs s t x = x
  to_plain h [] (l ∷ w) vs s t x = x
  to_plain zero (i ∷ is) w vs s t x = absurd x
  to_plain (suc h) (lexeme a ∷ is) [] vs s t x = x
  to_plain (suc h) (lexeme a ∷ is) (l ∷ w) vs s t x = (plain_class a l.before_else (kind_of l.spanned.lexeme) x.0, x.1, to_plain h is w vs.1 (see s l) t x.2)
  to_plain (suc h) (mark m ∷ is) [] vs s t x = to_plain h is [] vs (note s m) t x
  to_plain (suc h) (mark m ∷ is) (l ∷ w) vs s t x = to_plain h is (l ∷ w) vs (note s m) t x
  to_plain (suc h) (rule q ∷ is) [] vs s t (p, xs, e, m, x) = (p, xs, e, m, to_plain h (symbols_of (language text) q p ++ is) [] _ s t x)
  to_plain (suc h) (rule q ∷ is) (l ∷ w) vs s t (p, xs, e, m, x) = (p, xs, e, m, to_plain h (symbols_of (language text) q p ++ is) (l ∷ w) _ s t x)

  else_read : (h : ℕ) (is : Symbols) (w : List Spanned) (vs : Trees Terminal Tree is) (s t : Noted) → else_next is ≡ true → Derives (plain_language text) h is (terminals w) vs s t → begins_else w ≡ true
  else_read h [] w vs s t e x = absurd (cc)
  else_read h (mark m ∷ is) w vs s t e x = absurd (cc)
  else_read h (rule q ∷ is) w vs s t e x = absurd (cc)
  else_read zero (lexeme a ∷ is) w vs s t e x = absurd x
  else_read (suc h) (lexeme a ∷ is) [] vs s t e x = absurd x
  else_read (suc h) (lexeme a ∷ is) (l ∷ w) vs s t e x = else_class a (kind_of l.lexeme) e x.0

  pub from_plain : (d : Bool) (h : ℕ) (is : Symbols) (w : List Spanned) (vs : Trees Terminal Tree is) (s t : Noted) → good true d is ≡ true
      → Derives (plain_language text) h is (terminals w) vs s t → Derives (G text) h is (terminals w) vs s t
  from_plain d h [] [] vs s t y x = x
  from_plain d h [] (l ∷ w) vs s t y x = x
  from_plain d zero (i ∷ is) w vs s t y x = absurd x
  from_plain d (suc h) (lexeme a ∷ is) [] vs s t y x = x
  from_plain d (suc h) (lexeme a ∷ is) (l ∷ w) vs s t y x =
      let (i, j, z) = behind_lexeme true d a is y in
      let l' : Terminal = record { spanned = l; before_else = begins_else w } in
      (class_of a (begins_else w) (kind_of l.lexeme) (no_else true is) (else_next is) i (λ next. else_read h is w vs.1 (see s l') t next x.2) x.0, x.1, from_plain d h is w vs.1 (see s l') t z x.2)
  from_plain d (suc h) (mark m ∷ is) [] vs s t y x = from_plain d h is [] vs (note s m) t (behind_mark true d m is y).1 x
  from_plain d (suc h) (mark m ∷ is) (l ∷ w) vs s t y x = from_plain d h is (l ∷ w) vs (note s m) t (behind_mark true d m is y).1 x
  from_plain d (suc h) (rule q ∷ is) [] vs s t y (p, xs, e, m, x) = (p, xs, e, m, from_plain d h (symbols_of (language text) q p ++ is) [] _ s t (opened_good text true d q p is y) x)
  from_plain d (suc h) (rule q ∷ is) (l ∷ w) vs s t y (p, xs, e, m, x) =
      (p, xs, e, m, from_plain d h (symbols_of (language text) q p ++ is) (l ∷ w) _ s t (opened_good text true d q p is y) x)
