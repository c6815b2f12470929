-- Kinds that are one have one variant.
use Rattle.std.specs.Prelude.{◌≡◌, ℕ, Bool, true, false, nat_eq, refl}
use Rattle.std.proofs.Common.{ap, sym, ◌∙◌, arith}
use Rattle.std.proofs.lemmas.Bool.Decides.{nat_tests}
use Rattle.tsql_grammar.specs.declared.kind.Kind.{Kind}
use Rattle.tsql_grammar.specs.Kinds.{same_kind}
use Rattle.tsql_grammar.proofs.Instance.{same_so}
use Rattle.tsql_grammar.specs.Variants.{variant_of}

not_equal : (x y : ℕ) → (x ≡ y → ⊥) → nat_eq x y ≡ false
not_equal x y n = grind (arith, nat_tests)

pub apart : (x y : ℕ) (a b : Kind) → x ≡ variant_of a → y ≡ variant_of b → (x ≡ y → ⊥) → nat_eq x y ≡ same_kind a b
apart x y a b e f n = by_cases (same_kind a b) refl
  where
    by_cases : (it : Bool) → same_kind a b ≡ it → nat_eq x y ≡ same_kind a b
    by_cases true g = absurd (n (e ∙ ap variant_of (same_so a b g) ∙ sym f))
    by_cases false g = not_equal x y n ∙ sym g
