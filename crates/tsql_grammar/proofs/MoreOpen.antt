-- A test in parentheses is a test: what was read with no parentheses open before is read with some.
use Rattle.std.specs.Prelude.{ℕ, zero, suc, List, ◌∷◌, Some, None}
use Rattle.tsql_lexer.specs.declared.lexeme.Sign.TheVariants as sign
use Rattle.tsql_tree.specs.declared.query.Expr.{Expr}
use Rattle.tsql_tree.specs.declared.query.Expr.TheVariants as expr
use Rattle.tsql_tree.specs.declared.query.Test.{Test}
use Rattle.tsql_tree.specs.declared.query.Test.TheVariants as test
use Rattle.tsql_grammar.specs.declared.kind.Kind.TheVariants as k
use Rattle.tsql_grammar.specs.declared.rule.Class.TheVariants as c
use Rattle.tsql_grammar.specs.declared.rule.Mark.TheVariants.{Enter, Leave}
use Rattle.tsql_grammar.specs.declared.rule.Rule.TheVariants as r
use Rattle.tsql_grammar.specs.Noted.{Noted, see, note}
use Rattle.tsql_grammar.specs.Terminals.{Terminal}
use Rattle.tsql_grammar.specs.Trees.{sum, product, with_signs, all_of, any_of, with_nots}
use Rattle.tsql_grammar.proofs.FromOperands.{Fact, LexemeThen, Then, Within}
use Rattle.tsql_grammar.proofs.Instance.{G}
use Rattle.grammar_laws.proofs.Pieces as pieces

module _ (text : List ℕ) where
  -- what follows a test within so many parentheses
  abbrev pub Tail : ℕ → Fact Test → Fact Test
  Tail n K b u m = Then text (r.Tested n) u m (λ f u m. K (f b) u m)

  -- what follows one within one more: its connectives, and the parenthesis that closes it
  abbrev pub Ends : ℕ → Fact Test → Fact Test
  Ends n K b u m =
      Then text r.MoreAnds u m (λ ands u m. Then text r.MoreOrs u m (λ ors u m. LexemeThen (c.One (k.Sign sign.Close)) u
      (λ l u. Tail n K (test.Parens (any_of (all_of b ands) ors)) u (note (see m l) Leave))))

  ends_within : (h n : ℕ) (K : Fact Test) (b : Test) (u : List Terminal) (m : Noted) → Within text h (r.Tested (suc n)) u m (λ f u m. K (f b) u m) → Ends n K b u m
  ends_within zero n K b u m d = absurd d
  ends_within (suc h) n K b u m (Some i, d) = absurd i
  ends_within (suc h) n K b u m (None, d) =
      pieces.loosen (G text) h r.MoreAnds u m _ _ (λ ands u m d. pieces.loosen (G text) h r.MoreOrs u m _ _
      (λ ors u m (l, v, e, a, d). (l, v, e, a, pieces.loosen (G text) h (r.Tested n) v (note (see m l) Leave) _ _ (λ f u m d. d) d)) d) d

  pub ends : (n : ℕ) (K : Fact Test) (b : Test) (u : List Terminal) (m : Noted) → Tail (suc n) K b u m → Ends n K b u m
  ends n K b u m d = let (h, d) = pieces.within (G text) (r.Tested (suc n)) u m _ d in ends_within h n K b u m d

  ended_within : (h : ℕ) (K : Fact Test) (b : Test) (u : List Terminal) (m : Noted) → Within text h (r.Tested zero) u m (λ f u m. K (f b) u m) → K b u m
  ended_within zero K b u m d = absurd d
  ended_within (suc h) K b u m (Some i, d) = absurd i
  ended_within (suc h) K b u m (None, d) = d

  -- nothing follows one within none
  pub ended : (K : Fact Test) (b : Test) (u : List Terminal) (m : Noted) → Tail zero K b u m → K b u m
  ended K b u m d = let (h, d) = pieces.within (G text) (r.Tested zero) u m _ d in ended_within h K b u m d

  -- so many more are open, and one
  abbrev deep : ℕ → ℕ → ℕ
  deep zero n = suc n
  deep (suc i) n = suc (deep i n)

  tested : (i n : ℕ) (K : Fact Test) (b : Test) (u : List Terminal) (m : Noted) → Tail i (Tail (suc n) K) b u m → Tail (deep i n) K b u m
  tested zero n K b u m d = ended (Tail (suc n) K) b u m d
  tested (suc i) n K b u m d =
      pieces.by (G text) (r.Tested (suc (deep i n))) None u m (λ f u m. K (f b) u m)
      (pieces.weaken (G text) r.MoreAnds u m _ _ (λ ands u m d. pieces.weaken (G text) r.MoreOrs u m _ _
      (λ ors u m (l, v, e, a, d). (l, v, e, a, tested i n K (test.Parens (any_of (all_of b ands) ors)) v (note (see m l) Leave) d)) d) (ends i (Tail (suc n) K) b u m d))

  -- what follows the left expression of a test within so many, and what follows its first operand
  abbrev Compared : ℕ → Fact Test → Fact Expr
  Compared n K e u m = Then text (r.Compared n) u m (λ f u m. K (f e) u m)

  abbrev Operand : ℕ → Fact Test → Fact Expr
  Operand n K e u m = Then text (r.Operand n) u m (λ g u m. K (g e) u m)

  operand_within : (h i n : ℕ) → ((K : Fact Test) (e : Expr) (u : List Terminal) (m : Noted) → Compared i (Tail (suc n) K) e u m → Compared (deep i n) K e u m)
      → (K : Fact Test) (e : Expr) (u : List Terminal) (m : Noted) → Within text h (r.Operand i) u m (λ g u m. Tail (suc n) K (g e) u m) → Operand (deep i n) K e u m
  operand_within zero i n f K e u m d = absurd d
  operand_within (suc h) i n f K e u m (Some j, d) = absurd j
  operand_within (suc h) i n f K e u m (None, d) =
      pieces.by (G text) (r.Operand (deep i n)) None u m (λ g u m. K (g e) u m)
      (pieces.loosen (G text) h r.MoreFactors u m _ _ (λ factors u m d. pieces.loosen (G text) h r.MoreTerms u m _ _
      (λ terms u m d. f K (sum (product e factors) terms) u m (pieces.loosen (G text) h (r.Compared i) u m _ _ (λ f u m d. d) d)) d) d)

  operand_by : (i n : ℕ) → ((K : Fact Test) (e : Expr) (u : List Terminal) (m : Noted) → Compared i (Tail (suc n) K) e u m → Compared (deep i n) K e u m)
      → (K : Fact Test) (e : Expr) (u : List Terminal) (m : Noted) → Operand i (Tail (suc n) K) e u m → Operand (deep i n) K e u m
  operand_by i n f K e u m d = let (h, d) = pieces.within (G text) (r.Operand i) u m _ d in operand_within h i n f K e u m d

  compared_zero : (h n : ℕ) (K : Fact Test) (e : Expr) (u : List Terminal) (m : Noted) → Within text h (r.Compared zero) u m (λ f u m. Tail (suc n) K (f e) u m) → Compared (suc n) K e u m
  compared_zero zero n K e u m d = absurd d
  compared_zero (suc h) n K e u m (Some i, d) = absurd i
  compared_zero (suc h) n K e u m (None, d) =
      pieces.by (G text) (r.Compared (suc n)) (Some None) u m (λ f u m. K (f e) u m)
      (pieces.loosen (G text) h r.Comparison u m _ _ (λ comparison u m d. ends n K (comparison e) u m d) d)

  compared_suc : (h i n : ℕ) → ((K : Fact Test) (e : Expr) (u : List Terminal) (m : Noted) → Compared i (Tail (suc n) K) e u m → Compared (deep i n) K e u m)
      → (K : Fact Test) (e : Expr) (u : List Terminal) (m : Noted) → Within text h (r.Compared (suc i)) u m (λ f u m. Tail (suc n) K (f e) u m) → Compared (suc (deep i n)) K e u m
  compared_suc zero i n f K e u m d = absurd d
  compared_suc (suc h) i n f K e u m (None, (l, v, e2, a, d)) =
      pieces.by (G text) (r.Compared (suc (deep i n))) None u m (λ f u m. K (f e) u m)
      (l, v, e2, a, operand_by i n f K (expr.Parens e) v (note (see m l) Leave) (pieces.loosen (G text) h (r.Operand i) v (note (see m l) Leave) _ _ (λ g u m d. d) d))
  compared_suc (suc h) i n f K e u m (Some None, d) =
      pieces.by (G text) (r.Compared (suc (deep i n))) (Some None) u m (λ f u m. K (f e) u m)
      (pieces.loosen (G text) h r.Comparison u m _ _ (λ comparison u m d. pieces.loosen (G text) h r.MoreAnds u m _ _ (λ ands u m d. pieces.loosen (G text) h r.MoreOrs u m _ _
      (λ ors u m (l, v, e2, a, d). (
        l,
        v,
        e2,
        a,
        tested i n K (test.Parens (any_of (all_of (comparison e) ands) ors)) v (note (see m l) Leave)
            (pieces.loosen (G text) h (r.Tested i) v (note (see m l) Leave) _ _ (λ f u m d. d) d),
      )) d) d) d)
  compared_suc (suc h) i n f K e u m (Some (Some j), d) = absurd j

  compared : (i n : ℕ) (K : Fact Test) (e : Expr) (u : List Terminal) (m : Noted) → Compared i (Tail (suc n) K) e u m → Compared (deep i n) K e u m
  compared zero n K e u m d = let (h, d) = pieces.within (G text) (r.Compared zero) u m _ d in compared_zero h n K e u m d
  compared (suc i) n K e u m d = let (h, d) = pieces.within (G text) (r.Compared (suc i)) u m _ d in compared_suc h i n (compared i n) K e u m d

  operand : (h i n : ℕ) (K : Fact Test) (e : Expr) (u : List Terminal) (m : Noted) → Within text h (r.Operand i) u m (λ g u m. Tail (suc n) K (g e) u m) → Operand (deep i n) K e u m
  operand h i n K e u m d = operand_within h i n (compared i n) K e u m d

  -- a test within parentheses that ends so, by the height of its last part
  late : (h i n : ℕ) (K : Fact Test) (b : Test) (u : List Terminal) (m : Noted) → Within text h (r.Tested i) u m (λ f u m. Tail (suc n) K (f b) u m) → Tail (deep i n) K b u m
  late h i n K b u m d = tested i n K b u m (pieces.loosen (G text) h (r.Tested i) u m _ _ (λ f u m d. d) d)

  opened : (h i n : ℕ) (K : Fact Test) (u : List Terminal) (m : Noted) → Within text h (r.Opened i) u m (Tail (suc n) K) → Then text (r.Opened (deep i n)) u m K
  opened zero i n K u m d = absurd d
  opened (suc h) i n K u m (None, (l, v, e, a, d)) =
      pieces.by (G text) (r.Opened (deep i n)) None u m K (l, v, e, a, opened h (suc i) n K v (note (see m l) Enter) d)
  opened (suc h) i n K u m (Some None, d) =
      pieces.by (G text) (r.Opened (deep i n)) (Some None) u m K (pieces.loosen (G text) h r.SimplePrimary u m _ _ (λ e u m d. operand h (suc i) n K e u m d) d)
  opened (suc h) i n K u m (Some (Some None), d) =
      pieces.by (G text) (r.Opened (deep i n)) (Some (Some None)) u m K
      (pieces.loosen (G text) h r.AddSign u m _ _ (λ x u m d. pieces.loosen (G text) h r.MoreSigns u m _ _ (λ xs u m d. pieces.loosen (G text) h r.Primary u m _ _
      (λ e u m d. operand h (suc i) n K (with_signs (x ∷ xs) e) u m d) d) d) d)
  opened (suc h) i n K u m (Some (Some (Some None)), (l, v, e, a, d)) =
      pieces.by (G text) (r.Opened (deep i n)) (Some (Some (Some None))) u m K
      (l, v, e, a, pieces.loosen (G text) h r.Select v (see m l) _ _ (λ select u m (l, v, e, a, d). (l, v, e, a, operand h i n K (expr.Query select) v (note (see m l) Leave) d)) d)
  opened (suc h) i n K u m (Some (Some (Some (Some None))), (l, v, e, a, d)) =
      pieces.by (G text) (r.Opened (deep i n)) (Some (Some (Some (Some None)))) u m K (
        l,
        v,
        e,
        a,
        pieces.loosen (G text) h r.MoreNots v (see m l) _ _ (λ more u m d. pieces.loosen (G text) h r.Basic u m _ _ (λ inner u m d. pieces.loosen (G text) h r.MoreAnds u m _ _
            (λ ands u m d. pieces.loosen (G text) h r.MoreOrs u m _ _ (λ ors u m (l, v, e, a, d). (
              l,
              v,
              e,
              a,
              late h i n K (test.Parens (any_of (all_of (with_nots (suc more) inner) ands) ors)) v (note (see m l) Leave) d,
            )) d) d) d) d,
      )
  opened (suc h) i n K u m (Some (Some (Some (Some (Some None)))), (l, v, e, a, (l2, v2, e2, a2, (l3, v3, e3, a3, d)))) =
      pieces.by (G text) (r.Opened (deep i n)) (Some (Some (Some (Some (Some None))))) u m K (
        l,
        v,
        e,
        a,
        (
          l2,
          v2,
          e2,
          a2,
          (
            l3,
            v3,
            e3,
            a3,
            pieces.loosen (G text) h r.Select v3 (see (see (note (see m l) Enter) l2) l3) _ _ (λ select u m (l, v, e, a, d). (
              l,
              v,
              e,
              a,
              pieces.loosen (G text) h r.MoreAnds v (note (see m l) Leave) _ _ (λ ands u m d. pieces.loosen (G text) h r.MoreOrs u m _ _ (λ ors u m (l, v, e, a, d). (
                l,
                v,
                e,
                a,
                late h i n K (test.Parens (any_of (all_of (test.Exists select) ands) ors)) v (note (see m l) Leave) d,
              )) d) d,
            )) d,
          ),
        ),
      )
  opened (suc h) i n K u m (Some (Some (Some (Some (Some (Some j))))), d) = absurd j

  -- a test without connectives, where the parenthesis around it closes later
  basic : (h n : ℕ) (K : Fact Test) (u : List Terminal) (m : Noted) → Within text h r.Basic u m (Tail (suc n) K) → Then text (r.Opened n) u m K
  basic zero n K u m d = absurd d
  basic (suc h) n K u m (None, (l, v, e, a, (l2, v2, e2, a2, (l3, v3, e3, a3, d)))) =
      pieces.by (G text) (r.Opened n) (Some (Some (Some (Some (Some None))))) u m K (
        l,
        v,
        e,
        a,
        (
          l2,
          v2,
          e2,
          a2,
          (
            l3,
            v3,
            e3,
            a3,
            pieces.loosen (G text) h r.Select v3 (see (see (note (see m l) Enter) l2) l3) _ _ (λ select u m (l, v, e, a, d). (
              l,
              v,
              e,
              a,
              ends n K (test.Exists select) v (note (see m l) Leave) d,
            )) d,
          ),
        ),
      )
  basic (suc h) n K u m (Some None, (l, v, e, a, d)) = pieces.by (G text) (r.Opened n) None u m K (l, v, e, a, opened h zero n K v (note (see m l) Enter) d)
  basic (suc h) n K u m (Some (Some None), d) =
      pieces.by (G text) (r.Opened n) (Some None) u m K (pieces.loosen (G text) h r.SimplePrimary u m _ _ (λ e u m d. operand h zero n K e u m d) d)
  basic (suc h) n K u m (Some (Some (Some None)), d) =
      pieces.by (G text) (r.Opened n) (Some (Some None)) u m K
      (pieces.loosen (G text) h r.AddSign u m _ _ (λ x u m d. pieces.loosen (G text) h r.MoreSigns u m _ _ (λ xs u m d. pieces.loosen (G text) h r.Primary u m _ _
      (λ e u m d. operand h zero n K (with_signs (x ∷ xs) e) u m d) d) d) d)
  basic (suc h) n K u m (Some (Some (Some (Some j))), d) = absurd j

  -- its connectives and the parenthesis, with none open before
  closes : (K : Fact Test) (b : Test) (u : List Terminal) (m : Noted)
      → Then text r.MoreAnds u m (λ ands u m. Then text r.MoreOrs u m (λ ors u m. LexemeThen (c.One (k.Sign sign.Close)) u (λ l u. K (test.Parens (any_of (all_of b ands) ors)) u (note (see m l) Leave))))
      → Ends zero K b u m
  closes K b u m d =
      pieces.weaken (G text) r.MoreAnds u m _ _ (λ ands u m d. pieces.weaken (G text) r.MoreOrs u m _ _ (λ ors u m (l, v, e, a, d). (
        l,
        v,
        e,
        a,
        pieces.by (G text) (r.Tested zero) None v (note (see m l) Leave) (λ f u m. K (f (test.Parens (any_of (all_of b ands) ors))) u m) d,
      )) d) d

  inside : (h : ℕ) (K : Fact Test) (u : List Terminal) (m : Noted)
      → Within text h r.Test u m (λ b u m. LexemeThen (c.One (k.Sign sign.Close)) u (λ l u. K (test.Parens b) u (note (see m l) Leave))) → Then text (r.Opened zero) u m K
  inside zero K u m d = absurd d
  inside (suc h) K u m (Some i, d) = absurd i
  inside (suc zero) K u m (None, d) = absurd d
  inside (suc (suc h)) K u m (None, (Some i, d)) = absurd i
  inside (suc (suc zero)) K u m (None, (None, d)) = absurd d
  inside (suc (suc (suc h))) K u m (None, (None, (None, (l, v, e, a, d)))) =
      pieces.by (G text) (r.Opened zero) (Some (Some (Some (Some None)))) u m K (
        l,
        v,
        e,
        a,
        pieces.loosen (G text) h r.MoreNots v (see m l) _ _ (λ more u m d. pieces.loosen (G text) h r.Basic u m _ _ (λ inner u m d.
            closes K (with_nots (suc more) inner) u m (pieces.loosen (G text) (suc h) r.MoreAnds u m _ _ (λ ands u m d. pieces.loosen (G text) (suc (suc h)) r.MoreOrs u m _ _ (λ ors u m d. d) d) d)) d) d,
      )
  inside (suc (suc (suc h))) K u m (None, (None, (Some None, d))) =
      basic h zero K u m (pieces.loosened (G text) h r.Basic u m _ _ (λ b u m d. pieces.by (G text) (r.Tested (suc zero)) None u m (λ f u m. K (f b) u m)
      (closes K b u m (pieces.loosen (G text) (suc h) r.MoreAnds u m _ _ (λ ands u m d. pieces.loosen (G text) (suc (suc h)) r.MoreOrs u m _ _ (λ ors u m d. d) d) d))) d)
  inside (suc (suc (suc h))) K u m (None, (None, (Some (Some i), d))) = absurd i

  -- a test in parentheses
  pub enclosed : (w : List Terminal) (s : Noted) (K : Fact Test)
      → LexemeThen (c.One (k.Sign sign.Open)) w (λ l u. Then text r.Test u (note (see s l) Enter) (λ b u m. LexemeThen (c.One (k.Sign sign.Close)) u (λ l u. K (test.Parens b) u (note (see m l) Leave))))
      → Then text r.Basic w s K
  enclosed w s K (l, u, e, a, d) =
      let (h, d) = pieces.within (G text) r.Test u (note (see s l) Enter) _ d in
      pieces.by (G text) r.Basic (Some None) w s K (l, u, e, a, inside h K u (note (see s l) Enter) d)
