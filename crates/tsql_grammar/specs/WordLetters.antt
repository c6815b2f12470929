-- Own: the words that the grammar knows, by the letters that they begin with, so that few are compared.
use Rattle.std.specs.Prelude.{ℕ, ◌==◌, ◌-◌, Bool, List, [], ◌∷◌, min}
use Rattle.std.specs.List.{filter}
use Rattle.tsql_grammar.specs.declared.kind.Kind.{Kind}
use Rattle.tsql_grammar.specs.Words.{spellings}

-- the place of the first letter, counted from A; what stands before A is at its place
abbrev pub place_of : List ℕ → ℕ
place_of [] = 0
place_of (x ∷ u) = x - 65

-- no word begins with a letter behind X
abbrev pub is_at : ℕ → List ℕ → Bool
is_at n u = min (place_of u) 24 == n

-- the words that begin with the letter at a place, and their kinds
unfoldable pub words_at : ℕ → List (List ℕ × Kind)
words_at n = filter (λ row. is_at n row.0) spellings
