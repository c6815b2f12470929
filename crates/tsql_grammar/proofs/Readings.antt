-- The laws of grammars at this one.
use Rattle.std.specs.Prelude.{◌≡◌, ℕ, ◌+◌, ◌*◌, List, [], ◌∷◌, length, Some}
use Rattle.std.proofs.Common.{ap, ◌∙◌, arith}
use Rattle.tsql_grammar.specs.declared.rule.Rule.{Rule}
use Rattle.tsql_grammar.specs.Language.{top, ReadsAs, IsCut, read_rule}
use Rattle.tsql_grammar.specs.Noted.{Noted}
use Rattle.tsql_grammar.specs.Productions.{Tree}
use Rattle.tsql_grammar.specs.Terminals.{Terminal}
use Rattle.tsql_grammar.proofs.Instance.{G, A, predictive, rank, ranked}
use Rattle.grammar_laws.specs.Grammar.Symbol.{rule}
use Rattle.grammar_laws.specs.Lookahead.{KeepsFollow}
use Rattle.grammar_laws.proofs.Choice as choice
use Rattle.grammar_laws.proofs.Cuts as cuts
use Rattle.grammar_laws.proofs.DescentComplete as descent
use Rattle.grammar_laws.proofs.DescentStable as stable

-- nothing follows a rule alone
alone : (text : List ℕ) (a : Rule) → KeepsFollow (G text) (A text) (rule a ∷ [])
alone text a = ((λ l e. absurd (cc)), tt)

pub one_reading : (text : List ℕ) (a : Rule) (w : List Terminal) (x y : Tree a) (s t u : Noted) → ReadsAs text a w x s t → ReadsAs text a w y s u → (x ≡ y) × (t ≡ u)
one_reading text a w x y s t u (h, d) (j, e) =
    let both = choice.one_reading (G text) (A text) (predictive text) h j (rule a ∷ []) w (x, tt) (y, tt) s t u (alone text a) d e in
    (ap (λ (v : Tree a × Unit {0}). v.0) both.0, both.1)

pub pieces : (text : List ℕ) (a : Rule) (w : List Terminal) (x : Tree a) (s t : Noted) → ReadsAs text a w x s t → IsCut text a w x s t
pieces text a w x s t d = cuts.cuts (G text) a w x s t d

pub whole : (text : List ℕ) (a : Rule) (w : List Terminal) (x : Tree a) (s t : Noted) → ReadsAs text a w x s t → read_rule text a w ≡ Some (x, [])
whole text a w x s t (h, d) =
    let n : ℕ = top * length w + top in
    let small = (ranked text).small a in
    stable.stable (G text) (A text) rank top (ranked text) n (n + h) (omega arith) a w (omega (arith, small))
    ∙ descent.complete (G text) (A text) (predictive text) (n + h) h (omega arith) a w (x, tt) s t (alone text a) d
