-- Own: what each step of the recognizer means for every text that goes on as what is read does.
use Rattle.std.specs.Prelude.{ℕ, Bool, true, false, List, [], ◌∷◌, ◌++◌}
use Rattle.tsql_grammar.specs.Language.{language}
use Rattle.tsql_grammar.specs.Noted.{Noted}
use Rattle.tsql_grammar.specs.Productions.{Symbols}
use Rattle.tsql_grammar.specs.Terminals.{Terminal}
use Rattle.grammar_laws.specs.Alternatives.{grammar_of, lookahead_of}
use Rattle.grammar_laws.specs.Expects.{Expects}
use Rattle.grammar_laws.specs.Grammar.{Matches}
use Rattle.grammar_laws.specs.Prefix.{StopsAt}

-- behind `past` the symbols are expected
abbrev pub ExpectsIn : List ℕ → Symbols → Noted → List Terminal → Symbols → List Terminal → Noted → Type 0
ExpectsIn text start s0 past is rest s = Expects (grammar_of (language text)) (lookahead_of (language text)) start s0 past is rest s

-- the text stops behind `past`
abbrev pub StopsBehind : List ℕ → Symbols → Noted → List Terminal → List Terminal → Type 0
StopsBehind text start s0 past rest = StopsAt (grammar_of (language text)) start s0 past rest

-- the text is of the symbols
abbrev pub IsText : List ℕ → Symbols → List Terminal → Noted → Noted → Type 0
IsText text start w s t = Matches (grammar_of (language text)) start w s t

-- what was expected is expected so still
abbrev pub Keeps : Symbols → Noted → List Terminal → Symbols → Noted → Type 0
Keeps old s rest new t = (text : List ℕ) (start : Symbols) (s0 : Noted) (past : List Terminal)
    → ExpectsIn text start s0 past old rest s → ExpectsIn text start s0 past new rest t

-- A lexeme was taken; or the text stops before it.
abbrev pub Fed : Symbols → Noted → Terminal → Bool → Symbols → Noted → Type 0
Fed old s l true new t = (text : List ℕ) (start : Symbols) (s0 : Noted) (past rest : List Terminal)
    → ExpectsIn text start s0 past old (l ∷ rest) s → ExpectsIn text start s0 (past ++ l ∷ []) new rest t
Fed old s l false new t = (text : List ℕ) (start : Symbols) (s0 : Noted) (past rest : List Terminal)
    → ExpectsIn text start s0 past old (l ∷ rest) s → StopsBehind text start s0 past (l ∷ rest)

-- The whole was read; or the text stops at its end.
abbrev pub Finished : Symbols → Noted → Bool → Noted → Type 0
Finished old s true t = (text : List ℕ) (start : Symbols) (s0 : Noted) (past : List Terminal)
    → ExpectsIn text start s0 past old [] s → IsText text start past s0 t
Finished old s false t = (text : List ℕ) (start : Symbols) (s0 : Noted) (past : List Terminal)
    → ExpectsIn text start s0 past old [] s → StopsBehind text start s0 past []
