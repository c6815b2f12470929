-- What the counted rules read is a test in parentheses, EXISTS, or an expression and a comparison.
use Rattle.std.specs.Prelude.{◌≡◌, ℕ, zero, suc, true, List, [], ◌∷◌, Some, None, ◌⊎◌}
use Rattle.std.proofs.Common.{inl, inr}
use Rattle.tsql_lexer.specs.declared.lexeme.Sign.TheVariants as sign
use Rattle.tsql_tree.specs.declared.query.Expr.{Expr}
use Rattle.tsql_tree.specs.declared.query.Expr.TheVariants as expr
use Rattle.tsql_tree.specs.declared.query.Test.{Test}
use Rattle.tsql_tree.specs.declared.query.Test.TheVariants as test
use Rattle.tsql_grammar.specs.declared.kind.Kind.TheVariants as k
use Rattle.tsql_grammar.specs.declared.kind.Reserved.TheVariants as w
use Rattle.tsql_grammar.specs.declared.rule.Class.TheVariants as c
use Rattle.tsql_grammar.specs.declared.rule.Mark.TheVariants.{Enter, Leave}
use Rattle.tsql_grammar.specs.declared.rule.Rule.TheVariants as r
use Rattle.tsql_grammar.specs.Noted.{Noted, see, note}
use Rattle.tsql_grammar.specs.Productions.{Production, sign as the_sign, reserved, way}
use Rattle.tsql_grammar.specs.Terminals.{Terminal, kind, admits}
use Rattle.tsql_grammar.specs.Trees.{sum, product, with_signs, all_of, any_of, with_nots}
use Rattle.tsql_grammar.proofs.FromOperands.{Fact, LexemeThen, Then, Within, begun}
use Rattle.tsql_grammar.proofs.MoreOpen.{Tail, Ends, ends, ended, enclosed}
use Rattle.tsql_grammar.proofs.Instance.{G}
use Rattle.grammar_laws.specs.Grammar.Symbol.{rule, mark}
use Rattle.grammar_laws.specs.Alternatives.{IndexOf, at}
use Rattle.grammar_laws.proofs.Pieces as pieces

-- the three ways in which a test without connectives begins
abbrev pub beginnings : List (Production r.Basic)
beginnings =
    way (the_sign sign.Open ∷ mark Enter ∷ rule r.Test ∷ the_sign sign.Close ∷ mark Leave ∷ []) (λ _ inner _. test.Parens inner)
    ∷ way (reserved w.Exists ∷ mark Enter ∷ the_sign sign.Open ∷ reserved w.Select ∷ rule r.Select ∷ the_sign sign.Close ∷ mark Leave ∷ []) (λ _ _ _ select _. test.Exists select)
    ∷ way (rule r.Expr ∷ rule r.Comparison ∷ []) (λ left comparison. comparison left) ∷ []

module _ (text : List ℕ) where
  -- the text begins with a piece of one of the productions, and then the fact holds
  abbrev pub OneOf : List (Production r.Basic) → List Terminal → Noted → Fact Test → Type 0
  OneOf productions w s K = (p : IndexOf productions) × pieces.SymbolsThen (G text) (pieces.Then (G text)) (at productions p).symbols w s (λ vs. K ((at productions p).build vs))

  abbrev pub Plain : List Terminal → Noted → Fact Test → Type 0
  Plain = OneOf beginnings

  -- each of them is read by the counted rules
  pub counted : (w : List Terminal) (s : Noted) (K : Fact Test) → Plain w s K → Then text r.Basic w s K
  counted w s K (None, d) = enclosed text w s K d
  counted w s K (Some None, d) = pieces.by (G text) r.Basic None w s K d
  counted w s K (Some (Some None), d) = begun text w s K d
  counted w s K (Some (Some (Some i)), d) = absurd i

  weaken : (w : List Terminal) (s : Noted) (K L : Fact Test) → ((b : Test) (u : List Terminal) (m : Noted) → K b u m → L b u m) → Plain w s K → Plain w s L
  weaken w s K L f (p, d) = (p, pieces.weaken_symbols (G text) (at beginnings p).symbols w s (λ vs. K ((at beginnings p).build vs)) (λ vs. L ((at beginnings p).build vs)) (λ vs. f ((at beginnings p).build vs)) d)

  abbrev Compared : ℕ → Fact Test → Fact Expr
  Compared n K e u m = Then text (r.Compared n) u m (λ f u m. K (f e) u m)

  abbrev Operand : ℕ → Fact Test → Fact Expr
  Operand n K e u m = Then text (r.Operand n) u m (λ g u m. K (g e) u m)

  operand_within : (h i : ℕ) (K : Fact Test) (e : Expr) (u : List Terminal) (m : Noted) → Within text h (r.Operand i) u m (λ g u m. K (g e) u m)
      → Then text r.MoreFactors u m (λ factors u m. Then text r.MoreTerms u m (λ terms u m. Compared i K (sum (product e factors) terms) u m))
  operand_within zero i K e u m d = absurd d
  operand_within (suc h) i K e u m (Some j, d) = absurd j
  operand_within (suc h) i K e u m (None, d) =
      pieces.loosen (G text) h r.MoreFactors u m _ _ (λ factors u m d. pieces.loosen (G text) h r.MoreTerms u m _ _ (λ terms u m d. pieces.loosen (G text) h (r.Compared i) u m _ _ (λ f u m d. d) d) d) d

  -- an operand and what follows it are an expression and what follows that
  expression : (i : ℕ) (K : Fact Test) (w : List Terminal) (s : Noted) → Then text r.Unary w s (Operand i K) → Then text r.Expr w s (Compared i K)
  expression i K w s d =
      pieces.by (G text) r.Expr None w s (Compared i K) (pieces.by (G text) r.Product None w s _ (pieces.weaken (G text) r.Unary w s _ _
      (λ e u m d. let (h, d) = pieces.within (G text) (r.Operand i) u m _ d in operand_within h i K e u m d) d))

  compared_within : (h i : ℕ) (K : Fact Test) (e : Expr) (u : List Terminal) (m : Noted) → Within text h (r.Compared (suc i)) u m (λ f u m. K (f e) u m)
      → LexemeThen (c.One (k.Sign sign.Close)) u (λ l u. Operand i K (expr.Parens e) u (note (see m l) Leave)) ⊎ Then text r.Comparison u m (λ comparison u m. Ends text i K (comparison e) u m)
  compared_within zero i K e u m d = absurd d
  compared_within (suc h) i K e u m (None, (l, v, e2, a, d)) = inl (l, v, e2, a, pieces.loosen (G text) h (r.Operand i) v (note (see m l) Leave) _ _ (λ g u m d. d) d)
  compared_within (suc h) i K e u m (Some None, d) =
      inr (pieces.loosen (G text) h r.Comparison u m _ _ (λ comparison u m d. pieces.loosen (G text) h r.MoreAnds u m _ _ (λ ands u m d. pieces.loosen (G text) h r.MoreOrs u m _ _
      (λ ors u m (l, v, e2, a, d). (l, v, e2, a, pieces.loosen (G text) h (r.Tested i) v (note (see m l) Leave) _ _ (λ f u m d. d) d)) d) d) d)
  compared_within (suc h) i K e u m (Some (Some j), d) = absurd j

  comparison_within : (h : ℕ) (K : Fact Test) (e : Expr) (u : List Terminal) (m : Noted) → Within text h (r.Compared zero) u m (λ f u m. K (f e) u m) → Then text r.Comparison u m (λ comparison u m. K (comparison e) u m)
  comparison_within zero K e u m d = absurd d
  comparison_within (suc h) K e u m (Some i, d) = absurd i
  comparison_within (suc h) K e u m (None, d) = pieces.loosen (G text) h r.Comparison u m _ _ (λ comparison u m d. d) d

  -- tests with their connectives
  chained : (u : List Terminal) (m : Noted) (K : Fact Test)
      → Then text r.NotTest u m (λ b u m. Then text r.MoreAnds u m (λ ands u m. Then text r.MoreOrs u m (λ ors u m. K (any_of (all_of b ands) ors) u m))) → Then text r.Test u m K
  chained u m K d = pieces.by (G text) r.Test None u m K (pieces.by (G text) r.AndTest None u m _ d)

  chained_basic : (u : List Terminal) (m : Noted) (K : Fact Test)
      → Then text r.Basic u m (λ b u m. Then text r.MoreAnds u m (λ ands u m. Then text r.MoreOrs u m (λ ors u m. K (any_of (all_of b ands) ors) u m))) → Then text r.Test u m K
  chained_basic u m K d = chained u m K (pieces.by (G text) r.NotTest (Some None) u m _ d)

  -- What may begin at a place within so many parentheses: a test, or an operand, each with what follows it.
  record Inside (i : ℕ) (w : List Terminal) (s : Noted) (K : Fact Test) (R : Type 0) : Type 0 where
    a_test : Plain w s (Tail text i K) → R
    an_operand : Then text r.Unary w s (Operand i K) → R

  outermost : (w : List Terminal) (s : Noted) (K : Fact Test) → Inside zero w s K (Plain w s K)
  outermost w s K = record {
    a_test = λ d. weaken w s (Tail text zero K) K (ended text K) d;
    an_operand = λ d. (
      Some (Some None),
      pieces.weaken (G text) r.Expr w s _ _
          (λ e u m d. let (h, d) = pieces.within (G text) (r.Compared zero) u m _ d in comparison_within h K e u m d) (expression zero K w s d),
    );
  }

  -- behind one parenthesis more
  inner : (i : ℕ) (w : List Terminal) (s : Noted) (K : Fact Test) (R : Type 0) → Inside i w s K R → (l : Terminal) (u : List Terminal) → w ≡ l ∷ u → admits (c.One (k.Sign sign.Open)) (kind l) ≡ true
      → Inside (suc i) u (note (see s l) Enter) K R
  inner i w s K R around l u e a = record {
    a_test = λ d. around.a_test (
      None,
      (
        l,
        u,
        e,
        a,
        chained_basic u (note (see s l) Enter) _ (counted u (note (see s l) Enter) _
            (weaken u (note (see s l) Enter) (Tail text (suc i) K) (Ends text i K) (ends text i K) d)),
      ),
    );
    an_operand = λ d.
        let (left, v, rest, m, e2, o, d2) = expression (suc i) K u (note (see s l) Enter) d in
        let (h, d3) = pieces.within (G text) (r.Compared (suc i)) rest m _ d2 in
        elim (compared_within h i K left rest m d3) [
          | inl d ↦ around.an_operand (pieces.by (G text) r.Unary (Some None) w s _ (pieces.by (G text) r.Primary None w s _
              (l, u, e, a, pieces.by (G text) r.Enclosed (Some None) u (note (see s l) Enter) _ (left, v, rest, m, e2, o, d))))
          | inr d ↦ around.a_test (None, (l, u, e, a, chained_basic u (note (see s l) Enter) _ (begun text u (note (see s l) Enter) _ (left, v, rest, m, e2, o, d))))
        ];
  }

  simple : (h i : ℕ) (w : List Terminal) (s : Noted) (K : Fact Test) → Within text h r.SimplePrimary w s (λ e u m. Within text h (r.Operand i) u m (λ g u m. K (g e) u m)) → Then text r.Unary w s (Operand i K)
  simple h i w s K d =
      pieces.by (G text) r.Unary (Some None) w s _ (pieces.by (G text) r.Primary (Some None) w s _
      (pieces.loosen (G text) h r.SimplePrimary w s _ _ (λ e u m d. pieces.loosen (G text) h (r.Operand i) u m _ _ (λ g u m d. d) d) d))

  signed : (h i : ℕ) (w : List Terminal) (s : Noted) (K : Fact Test)
      → Within text h r.AddSign w s (λ x u m. Within text h r.MoreSigns u m (λ xs u m. Within text h r.Primary u m (λ e u m. Within text h (r.Operand i) u m (λ g u m. K (g (with_signs (x ∷ xs) e)) u m))))
      → Then text r.Unary w s (Operand i K)
  signed h i w s K d =
      pieces.by (G text) r.Unary None w s _ (pieces.loosen (G text) h r.AddSign w s _ _ (λ x u m d. pieces.loosen (G text) h r.MoreSigns u m _ _ (λ xs u m d. pieces.loosen (G text) h r.Primary u m _ _
      (λ e u m d. pieces.loosen (G text) h (r.Operand i) u m _ _ (λ g u m d. d) d) d) d) d)

  connectives : (h i : ℕ) (K : Fact Test) (b : Test) (u : List Terminal) (m : Noted)
      → Within text h r.MoreAnds u m (λ ands u m. Within text h r.MoreOrs u m (λ ors u m. LexemeThen (c.One (k.Sign sign.Close)) u
      (λ l u. Within text h (r.Tested i) u (note (see m l) Leave) (λ f u m. K (f (test.Parens (any_of (all_of b ands) ors))) u m)))) → Ends text i K b u m
  connectives h i K b u m d =
      pieces.loosen (G text) h r.MoreAnds u m _ _ (λ ands u m d. pieces.loosen (G text) h r.MoreOrs u m _ _ (λ ors u m (l, v, e, a, d). (
        l,
        v,
        e,
        a,
        pieces.loosen (G text) h (r.Tested i) v (note (see m l) Leave) _ _ (λ f u m d. d) d,
      )) d) d

  opened : (h i : ℕ) (w : List Terminal) (s : Noted) (K : Fact Test) (R : Type 0) → Inside i w s K R → (l : Terminal) (u : List Terminal) → w ≡ l ∷ u → admits (c.One (k.Sign sign.Open)) (kind l) ≡ true
      → Within text h (r.Opened i) u (note (see s l) Enter) K → R
  opened zero i w s K R around l u e a d = absurd d
  opened (suc h) i w s K R around l u e a (None, (l2, u2, e2, a2, d)) = opened h (suc i) u (note (see s l) Enter) K R (inner i w s K R around l u e a) l2 u2 e2 a2 d
  opened (suc h) i w s K R around l u e a (Some None, d) = let within = inner i w s K R around l u e a in within.an_operand (simple h (suc i) u (note (see s l) Enter) K d)
  opened (suc h) i w s K R around l u e a (Some (Some None), d) = let within = inner i w s K R around l u e a in within.an_operand (signed h (suc i) u (note (see s l) Enter) K d)
  opened (suc h) i w s K R around l u e a (Some (Some (Some None)), (l2, u2, e2, a2, d)) =
      around.an_operand (pieces.by (G text) r.Unary (Some None) w s _ (pieces.by (G text) r.Primary None w s _ (
        l,
        u,
        e,
        a,
        pieces.by (G text) r.Enclosed None u (note (see s l) Enter) _ (
          l2,
          u2,
          e2,
          a2,
          pieces.loosen (G text) h r.Select u2 (see (note (see s l) Enter) l2) _ _
              (λ select v m (l3, u3, e3, a3, d). (l3, u3, e3, a3, pieces.loosen (G text) h (r.Operand i) u3 (note (see m l3) Leave) _ _ (λ g u m d. d) d)) d,
        ),
      )))
  opened (suc h) i w s K R around l u e a (Some (Some (Some (Some None))), (l2, u2, e2, a2, d)) =
      around.a_test (
        None,
        (
          l,
          u,
          e,
          a,
          chained u (note (see s l) Enter) _ (pieces.by (G text) r.NotTest None u (note (see s l) Enter) _ (
            l2,
            u2,
            e2,
            a2,
            pieces.loosen (G text) h r.MoreNots u2 (see (note (see s l) Enter) l2) _ _ (λ more v m d. pieces.loosen (G text) h r.Basic v m _ _
                (λ b v m d. connectives h i K (with_nots (suc more) b) v m d) d) d,
          )),
        ),
      )
  opened (suc h) i w s K R around l u e a (Some (Some (Some (Some (Some None)))), (l2, u2, e2, a2, (l3, u3, e3, a3, (l4, u4, e4, a4, d)))) =
      around.a_test (
        None,
        (
          l,
          u,
          e,
          a,
          chained_basic u (note (see s l) Enter) _ (pieces.by (G text) r.Basic None u (note (see s l) Enter) _ (
            l2,
            u2,
            e2,
            a2,
            (
              l3,
              u3,
              e3,
              a3,
              (
                l4,
                u4,
                e4,
                a4,
                pieces.loosen (G text) h r.Select u4 (see (see (note (see (note (see s l) Enter) l2) Enter) l3) l4) _ _
                    (λ select v m (l5, u5, e5, a5, d). (l5, u5, e5, a5, connectives h i K (test.Exists select) u5 (note (see m l5) Leave) d)) d,
              ),
            ),
          )),
        ),
      )
  opened (suc h) i w s K R around l u e a (Some (Some (Some (Some (Some (Some j))))), d) = absurd j

  plain_within : (h : ℕ) (w : List Terminal) (s : Noted) (K : Fact Test) → Within text h r.Basic w s K → Plain w s K
  plain_within zero w s K d = absurd d
  plain_within (suc h) w s K (None, (l, u, e, a, (l2, u2, e2, a2, (l3, u3, e3, a3, d)))) =
      (Some None, (l, u, e, a, (l2, u2, e2, a2, (l3, u3, e3, a3, pieces.loosen (G text) h r.Select u3 (see (see (note (see s l) Enter) l2) l3) _ _ (λ select u m d. d) d))))
  plain_within (suc h) w s K (Some None, (l, u, e, a, d)) = opened h zero w s K (Plain w s K) (outermost w s K) l u e a d
  plain_within (suc h) w s K (Some (Some None), d) = let around = outermost w s K in around.an_operand (simple h zero w s K d)
  plain_within (suc h) w s K (Some (Some (Some None)), d) = let around = outermost w s K in around.an_operand (signed h zero w s K d)
  plain_within (suc h) w s K (Some (Some (Some (Some i))), d) = absurd i

  -- the counted rules read one of them
  pub plain : (w : List Terminal) (s : Noted) (K : Fact Test) → Then text r.Basic w s K → Plain w s K
  plain w s K d = let (h, d) = pieces.within (G text) r.Basic w s K d in plain_within h w s K d
