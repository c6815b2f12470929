-- An expression and a comparison, form by form.
use Rattle.std.specs.Prelude.{◌≡◌, ℕ, zero, suc, Bool, true, false, List, ◌++◌, Some, None, ◌⊎◌}
use Rattle.std.proofs.Common.{inl, inr}
use Rattle.tsql_tree.specs.declared.query.Expr.{Expr}
use Rattle.tsql_tree.specs.declared.query.Test.{Test}
use Rattle.tsql_grammar.specs.declared.kind.Kind.TheVariants as k
use Rattle.tsql_grammar.specs.declared.kind.Reserved.TheVariants as w
use Rattle.tsql_grammar.specs.declared.rule.Class.TheVariants as c
use Rattle.tsql_grammar.specs.declared.rule.Mark.TheVariants.{Enter}
use Rattle.tsql_grammar.specs.declared.rule.Rule.TheVariants as r
use Rattle.tsql_grammar.specs.BasicTest.{basic}
use Rattle.tsql_grammar.specs.Noted.{Noted, see, note}
use Rattle.tsql_grammar.specs.Terminals.{Terminal}
use Rattle.tsql_grammar.proofs.FromOperands.{Fact, LexemeThen, Then, Within}
use Rattle.tsql_grammar.proofs.Instance.{G}
use Rattle.tsql_grammar.proofs.NoneOpen.{OneOf, Plain}
use Rattle.grammar_laws.specs.BySymbols.{IsOf}
use Rattle.grammar_laws.proofs.Pieces as pieces

module _ (text : List ℕ) where
  not_within : (h : ℕ) (K : Fact Bool) (u : List Terminal) (m : Noted) → Within text h r.OptionalNot u m K → LexemeThen (c.One (k.Reserved w.Not)) u (λ l u. K true u (see m l)) ⊎ K false u m
  not_within zero K u m d = absurd d
  not_within (suc h) K u m (None, d) = inl d
  not_within (suc h) K u m (Some None, d) = inr d
  not_within (suc h) K u m (Some (Some i), d) = absurd i

  -- what stands for [NOT] stands for NOT, or for nothing
  optional_not : (K : Fact Bool) (u : List Terminal) (m : Noted) → Then text r.OptionalNot u m K → LexemeThen (c.One (k.Reserved w.Not)) u (λ l u. K true u (see m l)) ⊎ K false u m
  optional_not K u m d = let (h, d) = pieces.within (G text) r.OptionalNot u m K d in not_within h K u m d

  -- BETWEEN or IN behind a NOT or none
  membership : (left : Expr) (K : Fact Test) (u : List Terminal) (m : Noted) → Then text r.OptionalNot u m (λ negated u m. Then text r.Membership u m (λ of u m. K (of left negated) u m))
      → Then text r.Comparison u m (λ comparison u m. K (comparison left) u m)
  membership left K u m d = elim (optional_not _ u m d) [
    | inl d ↦ pieces.by (G text) r.Comparison (Some (Some None)) u m _ d
    | inr d ↦ pieces.by (G text) r.Comparison (Some (Some (Some None))) u m _ d
  ]

  -- each form is an expression and a comparison
  pub joined : (w : List Terminal) (s : Noted) (K : Fact Test) → OneOf text basic w s K → Plain text w s K
  joined w s K (None, d) = (None, d)
  joined w s K (Some None, d) = (Some None, d)
  joined w s K (Some (Some None), (left, u, rest, t, e, o, d)) = (Some (Some None), (left, u, rest, t, e, o, pieces.by (G text) r.Comparison None rest t _ d))
  joined w s K (Some (Some (Some None)), (left, u, rest, t, e, o, d)) = (Some (Some None), (left, u, rest, t, e, o, pieces.by (G text) r.Comparison (Some None) rest t _ d))
  joined w s K (Some (Some (Some (Some None))), (left, u, rest, t, e, o, d)) =
      (Some (Some None), (left, u, rest, t, e, o, membership left K rest t (pieces.weaken (G text) r.OptionalNot rest t _ _ (λ negated v m d. pieces.by (G text) r.Membership None v m _ d) d)))
  joined w s K (Some (Some (Some (Some (Some None)))), (left, u, rest, t, e, o, d)) = (
    Some (Some None),
    (
      left,
      u,
      rest,
      t,
      e,
      o,
      membership left K rest t (pieces.weaken (G text) r.OptionalNot rest t _ _ (λ negated v m (l, v2, e2, a, (l2, v3, e3, a2, d)).
          pieces.by (G text) r.Membership (Some None) v m _ (l, v2, e2, a, (l2, v3, e3, a2, pieces.by (G text) r.InList None v3 (note (see (see m l) l2) Enter) _ d))) d),
    ),
  )
  joined w s K (Some (Some (Some (Some (Some (Some None))))), (left, u, rest, t, e, o, d)) = (
    Some (Some None),
    (
      left,
      u,
      rest,
      t,
      e,
      o,
      membership left K rest t (pieces.weaken (G text) r.OptionalNot rest t _ _ (λ negated v m (l, v2, e2, a, (l2, v3, e3, a2, d)).
          pieces.by (G text) r.Membership (Some None) v m _ (l, v2, e2, a, (l2, v3, e3, a2, pieces.by (G text) r.InList (Some None) v3 (note (see (see m l) l2) Enter) _ d))) d),
    ),
  )
  joined w s K (Some (Some (Some (Some (Some (Some (Some i)))))), d) = absurd i

  members : (h : ℕ) (w : List Terminal) (s : Noted) (K : Fact Test) (left : Expr) (u rest : List Terminal) (t : Noted) → w ≡ u ++ rest → IsOf (G text) r.Expr u left s t
      → (negated : Bool) (v : List Terminal) (m : Noted) → ((L : Fact Bool) → L negated v m → Then text r.OptionalNot rest t L)
      → Within text h r.Membership v m (λ of u m. K (of left negated) u m) → OneOf text basic w s K
  members zero w s K left u rest t e o negated v m f d = absurd d
  members (suc h) w s K left u rest t e o negated v m f (None, (l, v2, e2, a, d)) = (
    Some (Some (Some (Some None))),
    (
      left,
      u,
      rest,
      t,
      e,
      o,
      f _ (
        l,
        v2,
        e2,
        a,
        pieces.loosen (G text) h r.Expr v2 (see m l) _ _
            (λ low v m (l2, v3, e3, a2, d). (l2, v3, e3, a2, pieces.loosen (G text) h r.Expr v3 (see m l2) _ _ (λ high v m d. d) d)) d,
      ),
    ),
  )
  members (suc zero) w s K left u rest t e o negated v m f (Some None, (l, v2, e2, a, (l2, v3, e3, a2, d))) = absurd d
  members (suc (suc h)) w s K left u rest t e o negated v m f (Some None, (l, v2, e2, a, (l2, v3, e3, a2, (None, (l3, v4, e4, a3, d))))) = (
    Some (Some (Some (Some (Some None)))),
    (
      left,
      u,
      rest,
      t,
      e,
      o,
      f _ (
        l,
        v2,
        e2,
        a,
        (
          l2,
          v3,
          e3,
          a2,
          (
            l3,
            v4,
            e4,
            a3,
            pieces.loosen (G text) h r.Select v4 (see (note (see (see m l) l2) Enter) l3) _ _ (λ select v m d. d) d,
          ),
        ),
      ),
    ),
  )
  members (suc (suc h)) w s K left u rest t e o negated v m f (Some None, (l, v2, e2, a, (l2, v3, e3, a2, (Some None, d)))) = (
    Some (Some (Some (Some (Some (Some None))))),
    (
      left,
      u,
      rest,
      t,
      e,
      o,
      f _ (
        l,
        v2,
        e2,
        a,
        (
          l2,
          v3,
          e3,
          a2,
          pieces.loosen (G text) h r.Exprs v3 (note (see (see m l) l2) Enter) _ _ (λ exprs v m d. d) d,
        ),
      ),
    ),
  )
  members (suc (suc h)) w s K left u rest t e o negated v m f (Some None, (l, v2, e2, a, (l2, v3, e3, a2, (Some (Some i), d)))) = absurd i
  members (suc h) w s K left u rest t e o negated v m f (Some (Some i), d) = absurd i

  comparisons : (h : ℕ) (w : List Terminal) (s : Noted) (K : Fact Test) (left : Expr) (u rest : List Terminal) (t : Noted) → w ≡ u ++ rest → IsOf (G text) r.Expr u left s t
      → Within text h r.Comparison rest t (λ comparison u m. K (comparison left) u m) → OneOf text basic w s K
  comparisons zero w s K left u rest t e o d = absurd d
  comparisons (suc h) w s K left u rest t e o (None, d) =
      (Some (Some None), (left, u, rest, t, e, o, pieces.loosen (G text) h r.CompareSign rest t _ _ (λ sign v m d. pieces.loosen (G text) h r.Expr v m _ _ (λ right v m d. d) d) d))
  comparisons (suc h) w s K left u rest t e o (Some None, (l, v, e2, a, d)) =
      (Some (Some (Some None)), (left, u, rest, t, e, o, (l, v, e2, a, pieces.loosen (G text) h r.OptionalNot v (see t l) _ _ (λ negated v m d. d) d)))
  comparisons (suc h) w s K left u rest t e o (Some (Some None), (l, v, e2, a, d)) =
      members h w s K left u rest t e o true v (see t l) (λ L d. pieces.by (G text) r.OptionalNot None rest t L (l, v, e2, a, d)) d
  comparisons (suc h) w s K left u rest t e o (Some (Some (Some None)), d) =
      members h w s K left u rest t e o false rest t (λ L d. pieces.by (G text) r.OptionalNot (Some None) rest t L d) d
  comparisons (suc h) w s K left u rest t e o (Some (Some (Some (Some i))), d) = absurd i

  -- and each expression with a comparison is of one form
  pub spelled : (w : List Terminal) (s : Noted) (K : Fact Test) → Plain text w s K → OneOf text basic w s K
  spelled w s K (None, d) = (None, d)
  spelled w s K (Some None, d) = (Some None, d)
  spelled w s K (Some (Some None), (left, u, rest, t, e, o, d)) =
      let (h, d) = pieces.within (G text) r.Comparison rest t _ d in comparisons h w s K left u rest t e o d
  spelled w s K (Some (Some (Some i)), d) = absurd i
