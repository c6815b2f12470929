-- Own: what a stack of symbols means for the whole text, while it is read: the invariant of reading
-- without recursion. No public clause cites it.
use Rattle.std.specs.Prelude.{◌≡◌, List, ◌++◌}
use Rattle.grammar_laws.specs.Grammar.{Symbol, Grammar, Matches, next}
use Rattle.grammar_laws.specs.Lookahead.{Lookahead, KeepsFollow, BindsAtFront}

module _ {Lexeme Class Rule Mark State : Type 0} (g : Grammar Lexeme Class Rule Mark State) (a : Lookahead Lexeme Class Rule g.Production) where
  -- Behind `past` the symbols `is` are expected in state s: a text that goes on as `rest` does is one
  -- of `start` where what follows `past` is one of `is`, and only there.
  pub record Expects (start : List (Symbol Class Rule Mark)) (s0 : State) (past : List Lexeme)
      (is : List (Symbol Class Rule Mark)) (rest : List Lexeme) (s : State) : Type 0 where
    pub viable : (w : List Lexeme) × (t : State) × Matches g start (past ++ w) s0 t
    pub sound : (w : List Lexeme) (t : State) → next w ≡ next rest → Matches g is w s t → Matches g start (past ++ w) s0 t
    pub complete : (w : List Lexeme) (t : State) → next w ≡ next rest → Matches g start (past ++ w) s0 t → Matches g is w s t
    pub follows : KeepsFollow g a is
    pub binds : BindsAtFront g a is
