-- Two trees are the same exactly where they are equal.
use Rattle.std.proofs.Common.{◌≡◌, ◌↔◌, Bool, true, false, refl, sym, ap, subst}
use Rattle.std.proofs.lemmas.Bool.{eqb-true, eq-eqb, and_parts, and_from, false≢true}
use base.Stored.{Gv, gnil, gnum, gcons}
use Rattle.bound_tree.specs.declared.expr.BoundExpr.{BoundExpr}
use Rattle.bound_tree.specs.contracts.expr.BoundExpr as tree
use Rattle.clause_binder.specs.Same.{same_code, same_expr}

pub code_same : (a : Gv) → same_code a a ≡ true
code_same gnil = refl
code_same (gnum n) = eq-eqb n n refl
code_same (gcons a b) = and_from (same_code a a) (same_code b b) (code_same a) (code_same b)

pub same_codes : (a b : Gv) → same_code a b ≡ true → a ≡ b
same_codes gnil gnil is = refl
same_codes (gnum n) (gnum m) is = ap gnum (eqb-true n m is)
same_codes (gcons a b) (gcons c d) is =
    let parts = and_parts (same_code a c) (same_code b d) is in
    λ i. gcons (same_codes a c parts.0 i) (same_codes b d parts.1 i)
same_codes gnil (gnum m) is = absurd (false≢true is)
same_codes gnil (gcons c d) is = absurd (false≢true is)
same_codes (gnum n) gnil is = absurd (false≢true is)
same_codes (gnum n) (gcons c d) is = absurd (false≢true is)
same_codes (gcons a b) gnil is = absurd (false≢true is)
same_codes (gcons a b) (gnum m) is = absurd (false≢true is)

pub same_is_equal : (a b : BoundExpr) → same_expr a b ≡ true → a ≡ b
same_is_equal a b is = tree.the_row.coded.inj a b (same_codes _ _ is)

pub equal_is_same : (a b : BoundExpr) → a ≡ b → same_expr a b ≡ true
equal_is_same a b is = subst (λ x. same_expr a x ≡ true) is (code_same (tree.the_row.coded.code a))

-- what tells whether they are equal gives the same
pub same_by : (is : Bool) (a b : BoundExpr) → ((is ≡ true) ↔ (a ≡ b)) → is ≡ same_expr a b
same_by true a b tells = sym (equal_is_same a b (tells.0 refl))
same_by false a b tells = differs (same_expr a b) (λ is. tells.1 (same_is_equal a b is))
  where
    differs : (same : Bool) → (same ≡ true → false ≡ true) → false ≡ same
    differs false no_way = refl
    differs true no_way = absurd (false≢true (no_way refl))
