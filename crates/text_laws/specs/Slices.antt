-- Own: the lexemes of a slice of a text, which begins where one of its lexemes does and ends where one does.
use Rattle.std.specs.Prelude.{ℕ, ◌+◌, ◌-◌, List, [], ◌∷◌}
use Rattle.tsql_lexer.specs.declared.lexeme.Spanned.{Spanned}

-- the lexeme, with its places counted from where the first one stands, and its line from that one's
abbrev pub moved_by : Spanned → Spanned → Spanned
moved_by first l = record { lexeme = l.lexeme; start = l.start - first.start; end = l.end - first.start; line = (l.line - first.line) + 1 }

-- where the last lexeme ends, if there is one
abbrev pub end_behind : ℕ → List Spanned → ℕ
end_behind at [] = at
end_behind at (l ∷ more) = end_behind l.end more
