-- The values of two lists of symbols, joined and taken apart.
use Rattle.std.specs.Prelude.{◌≡◌, List, [], ◌∷◌, ◌++◌, refl}
use Rattle.std.proofs.Common.{ap}
use Rattle.grammar_laws.specs.Grammar.{Symbol, Trees, join}
use Rattle.grammar_laws.specs.Grammar.Symbol.{lexeme, rule, mark}

module _ {Class Rule Mark : Type 0} (Lexeme : Type 0) (Tree : Rule → Type 0) where
  abbrev Vs : List (Symbol Class Rule Mark) → Type 0
  Vs = Trees Lexeme Tree

  abbrev both : (a b : List (Symbol Class Rule Mark)) → Vs a → Vs b → Vs (a ++ b)
  both = join Lexeme Tree

  -- values of two lists are the values of each
  pub apart : (a b : List (Symbol Class Rule Mark)) (us : Vs (a ++ b)) → (x : Vs a) × (y : Vs b) × (both a b x y ≡ us)
  apart [] b us = (tt, us, refl)
  apart (lexeme c ∷ is) b us = let p = apart is b us.1 in ((us.0, p.0), p.1, ap (λ (u : Vs (is ++ b)). (us.0, u)) p.2)
  apart (rule r ∷ is) b us = let p = apart is b us.1 in ((us.0, p.0), p.1, ap (λ (u : Vs (is ++ b)). (us.0, u)) p.2)
  apart (mark m ∷ is) b us = apart is b us

  -- and of each in one way
  pub join_injective : (a b : List (Symbol Class Rule Mark)) (x x' : Vs a) (y y' : Vs b) → both a b x y ≡ both a b x' y' → (x ≡ x') × (y ≡ y')
  join_injective [] b x x' y y' e = (refl, e)
  join_injective (lexeme c ∷ is) b x x' y y' e =
      let p = join_injective is b x.1 x'.1 y y' (ap (λ (u : Vs (lexeme c ∷ (is ++ b))). u.1) e) in
      let q = ap (λ (u : Vs (lexeme c ∷ (is ++ b))). u.0) e in
      ((λ i. (q i, p.0 i)), p.1)
  join_injective (rule r ∷ is) b x x' y y' e =
      let p = join_injective is b x.1 x'.1 y y' (ap (λ (u : Vs (rule r ∷ (is ++ b))). u.1) e) in
      let q = ap (λ (u : Vs (rule r ∷ (is ++ b))). u.0) e in
      ((λ i. (q i, p.0 i)), p.1)
  join_injective (mark m ∷ is) b x x' y y' e = join_injective is b x x' y y' e
