-- Own: where a text stops. A prefix is viable where it begins some text of the symbols [Aho, Lam,
-- Sethi and Ullman, Compilers, 4.1.3: the viable-prefix property]. The definition speaks of all
-- texts; code sees one text and a stack.
use Rattle.std.specs.Prelude.{◌≡◌, List, ◌++◌}
use Rattle.grammar_laws.specs.Grammar.{Symbol, Grammar, Matches, next}

module _ {Lexeme Class Rule Mark State : Type 0} (g : Grammar Lexeme Class Rule Mark State) where
  -- `past` is the longest part of `past ++ rest` that begins a text of the symbols `start`, and the
  -- whole is no such text: some text goes on from `past`, and none with what comes next in `rest`,
  -- be that a lexeme or the end.
  pub record StopsAt (start : List (Symbol Class Rule Mark)) (s : State) (past rest : List Lexeme) : Type 0 where
    pub viable : (w : List Lexeme) × (t : State) × Matches g start (past ++ w) s t
    pub further : (w : List Lexeme) (t : State) → next w ≡ next rest → Matches g start (past ++ w) s t → ⊥
