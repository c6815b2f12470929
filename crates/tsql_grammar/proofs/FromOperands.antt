-- What begins with an expression and goes on with a comparison is a test, whatever parentheses are open.
use Rattle.std.specs.Prelude.{◌≡◌, ℕ, zero, suc, true, List, ◌∷◌, Some, None}
use Rattle.tsql_lexer.specs.declared.lexeme.Sign.TheVariants as sign
use Rattle.tsql_tree.specs.declared.query.Expr.{Expr}
use Rattle.tsql_tree.specs.declared.query.Expr.TheVariants as expr
use Rattle.tsql_tree.specs.declared.query.Test.{Test}
use Rattle.tsql_grammar.specs.declared.kind.Kind.TheVariants as k
use Rattle.tsql_grammar.specs.declared.rule.Class.{Class}
use Rattle.tsql_grammar.specs.declared.rule.Class.TheVariants as c
use Rattle.tsql_grammar.specs.declared.rule.Mark.TheVariants.{Enter, Leave}
use Rattle.tsql_grammar.specs.declared.rule.Rule.{Rule}
use Rattle.tsql_grammar.specs.declared.rule.Rule.TheVariants as r
use Rattle.tsql_grammar.specs.Noted.{Noted, see, note}
use Rattle.tsql_grammar.specs.Productions.{Tree}
use Rattle.tsql_grammar.specs.Terminals.{Terminal, kind, admits}
use Rattle.tsql_grammar.specs.Trees.{sum, product, with_signs}
use Rattle.tsql_grammar.proofs.Instance.{G}
use Rattle.grammar_laws.proofs.Pieces as pieces

-- a fact of a value, of the lexemes behind its piece, and of what was noted
abbrev pub Fact : Type 0 → Type 1
Fact A = A → List Terminal → Noted → Type 0

-- a lexeme of the class comes next, and then the fact holds
abbrev pub LexemeThen : Class → List Terminal → (Terminal → List Terminal → Type 0) → Type 0
LexemeThen c w K = (l : Terminal) × (u : List Terminal) × (w ≡ l ∷ u) × (admits c (kind l) ≡ true) × K l u

module _ (text : List ℕ) where
  abbrev pub Then : (a : Rule) → List Terminal → Noted → Fact (Tree a) → Type 0
  Then = pieces.Then (G text)

  abbrev pub Within : ℕ → (a : Rule) → List Terminal → Noted → Fact (Tree a) → Type 0
  Within = pieces.WithinThen (G text)

  -- what begins a test within so many parentheses
  abbrev pub Start : ℕ → List Terminal → Noted → Fact Test → Type 0
  Start zero w s K = Then r.Basic w s K
  Start (suc n) w s K = Then (r.Opened n) w s K

  pub start_open : (n : ℕ) (w : List Terminal) (s : Noted) (K : Fact Test) → LexemeThen (c.One (k.Sign sign.Open)) w (λ l u. Start (suc n) u (note (see s l) Enter) K) → Start n w s K
  start_open zero w s K d = pieces.by (G text) r.Basic (Some None) w s K d
  start_open (suc n) w s K d = pieces.by (G text) (r.Opened n) None w s K d

  start_simple : (n : ℕ) (w : List Terminal) (s : Noted) (K : Fact Test)
      → Then r.SimplePrimary w s (λ a u m. Then (r.Operand n) u m (λ g u m. K (g a) u m)) → Start n w s K
  start_simple zero w s K d = pieces.by (G text) r.Basic (Some (Some None)) w s K d
  start_simple (suc n) w s K d = pieces.by (G text) (r.Opened n) (Some None) w s K d

  start_signed : (n : ℕ) (w : List Terminal) (s : Noted) (K : Fact Test)
      → Then r.AddSign w s (λ x u m. Then r.MoreSigns u m (λ xs u m. Then r.Primary u m (λ a u m. Then (r.Operand n) u m (λ g u m. K (g (with_signs (x ∷ xs) a)) u m)))) → Start n w s K
  start_signed zero w s K d = pieces.by (G text) r.Basic (Some (Some (Some None))) w s K d
  start_signed (suc n) w s K d = pieces.by (G text) (r.Opened n) (Some (Some None)) w s K d

  -- what follows the first operand of an expression
  abbrev Rest : ℕ → ℕ → ℕ → Fact Test → Fact Expr
  Rest h j n K a u m = Within h r.MoreFactors u m (λ ps u m. Within j r.MoreTerms u m (λ ss u m. Then (r.Compared n) u m (λ f u m. K (f (sum (product a ps) ss)) u m)))

  operand_of : (h j n : ℕ) (K : Fact Test) (a : Expr) (u : List Terminal) (m : Noted) → Rest h j n K a u m → Then (r.Operand n) u m (λ g u m. K (g a) u m)
  operand_of h j n K a u m d =
      pieces.by (G text) (r.Operand n) None u m (λ g u m. K (g a) u m)
      (pieces.loosen (G text) h r.MoreFactors u m _ _ (λ ps u m d. pieces.loosen (G text) j r.MoreTerms u m _ _ (λ ss u m d. d) d) d)

  abbrev Exprs : ℕ → Type 1
  Exprs h = (n : ℕ) (w : List Terminal) (s : Noted) (K : Fact Test) → Within h r.Expr w s (λ e u m. Then (r.Compared n) u m (λ f u m. K (f e) u m)) → Start n w s K

  pub exprs : (h : ℕ) → Exprs h
  exprs zero n w s K d = absurd d
  exprs (suc h) n w s K (Some i, d) = absurd i
  exprs (suc zero) n w s K (None, d) = absurd d
  exprs (suc (suc h)) n w s K (None, (Some i, d)) = absurd i
  exprs (suc (suc zero)) n w s K (None, (None, d)) = absurd d
  exprs (suc (suc (suc h))) n w s K (None, (None, (None, d))) =
      start_signed n w s K (pieces.loosen (G text) h r.AddSign w s _ _ (λ x u m d. pieces.loosen (G text) h r.MoreSigns u m _ _
      (λ xs u m d. pieces.loosen (G text) h r.Primary u m _ _ (λ a u m d. operand_of (suc h) (suc (suc h)) n K (with_signs (x ∷ xs) a) u m d) d) d) d)
  exprs (suc (suc (suc zero))) n w s K (None, (None, (Some None, d))) = absurd d
  exprs (suc (suc (suc h))) n w s K (None, (None, (Some (Some i), d))) = absurd i
  exprs (suc (suc (suc (suc zero)))) n w s K (None, (None, (Some None, (None, (l, u, e, a, d))))) = absurd d
  exprs (suc (suc (suc (suc (suc h))))) n w s K (None, (None, (Some None, (None, (l, u, e, a, (None, (l2, u2, e2, a2, d))))))) =
      start_open n w s K (
        l,
        u,
        e,
        a,
        pieces.by (G text) (r.Opened n) (Some (Some (Some None))) u (note (see s l) Enter) K (
          l2,
          u2,
          e2,
          a2,
          pieces.loosen (G text) h r.Select u2 (see (note (see s l) Enter) l2) _ _
              (λ select v m (l3, u3, e3, a3, d). (l3, u3, e3, a3, operand_of (suc (suc (suc h))) (suc (suc (suc (suc h)))) n K (expr.Query select) u3 (note (see m l3) Leave) d)) d,
        ),
      )
  exprs (suc (suc (suc (suc (suc h))))) n w s K (None, (None, (Some None, (None, (l, u, e, a, (Some None, d)))))) =
      start_open n w s K (
        l,
        u,
        e,
        a,
        exprs h (suc n) u (note (see s l) Enter) K (pieces.loosened (G text) h r.Expr u (note (see s l) Enter) _ _
            (λ inner v m (l3, u3, e3, a3, d). pieces.by (G text) (r.Compared (suc n)) None v m (λ f u m. K (f inner) u m)
            (l3, u3, e3, a3, operand_of (suc (suc (suc h))) (suc (suc (suc (suc h)))) n K (expr.Parens inner) u3 (note (see m l3) Leave) d)) d),
      )
  exprs (suc (suc (suc (suc (suc h))))) n w s K (None, (None, (Some None, (None, (l, u, e, a, (Some (Some i), d)))))) = absurd i
  exprs (suc (suc (suc (suc h)))) n w s K (None, (None, (Some None, (Some None, d)))) =
      start_simple n w s K (pieces.loosen (G text) h r.SimplePrimary w s _ _ (λ a u m d. operand_of (suc (suc h)) (suc (suc (suc h))) n K a u m d) d)
  exprs (suc (suc (suc (suc h)))) n w s K (None, (None, (Some None, (Some (Some i), d)))) = absurd i

  -- an expression and a comparison
  pub begun : (w : List Terminal) (s : Noted) (K : Fact Test) → Then r.Expr w s (λ e u m. Then r.Comparison u m (λ c u m. K (c e) u m)) → Then r.Basic w s K
  begun w s K d =
      let (h, d) = pieces.within (G text) r.Expr w s _ d in
      exprs h zero w s K (pieces.loosened (G text) h r.Expr w s _ _ (λ e u m d. pieces.by (G text) (r.Compared zero) None u m (λ f u m. K (f e) u m) d) d)
