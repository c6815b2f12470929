-- Transact-SQL reference, "-- (Comment)" and "Slash star (block comment)": what may stand between two
-- lexemes. Comments in /* and */ nest: their units are read from left to right, two at a time where two
-- open or close a comment. The code counts with a place in the whole text.
use Rattle.std.specs.Prelude.{ℕ, suc, ◌+◌, ◌-◌, ◌==◌, ◌&&◌, nat_le, if◌then◌else◌, List, [], ◌∷◌, Option, None, Some}
use Rattle.tsql_lexer.specs.Classes.{slash, star}
use Rattle.tsql_lexer.specs.declared.comments.Mark.{Mark}
use Rattle.tsql_lexer.specs.declared.comments.Mark.TheVariants.{Opener, Closer, Plain}

-- what two units one behind the other are to a comment: `/*` opens one, `*/` closes one
abbrev pub mark_of : ℕ → ℕ → Mark
mark_of unit next =
    if unit == slash && next == star then Opener
    else if unit == star && next == slash then Closer
    else Plain

-- so many units more
abbrev pub more : ℕ → Option ℕ → Option ℕ
more count None = None
more count (Some size) = Some (count + size)

-- where so many comments are open: what the next mark makes of it, given the sizes behind it
abbrev pub size_by : Mark → ℕ → (ℕ → Option ℕ) → (ℕ → Option ℕ) → Option ℕ
size_by Opener depth behind_two behind_one = more 2 (behind_two (suc depth))
size_by Closer depth behind_two behind_one = if nat_le depth 1 then Some 2 else more 2 (behind_two (depth - 1))
size_by Plain depth behind_two behind_one = more 1 (behind_one depth)

-- how many units the text has up to the end of the outermost of so many open comments, if it ends
unfoldable pub closing_size : List ℕ → ℕ → Option ℕ
closing_size [] depth = None
closing_size (unit ∷ []) depth = None
closing_size (unit ∷ next ∷ units) depth = size_by (mark_of unit next) depth (closing_size units) (closing_size (next ∷ units))

-- how many units the comment has that the text begins with, if it ends
abbrev pub comment_size : List ℕ → Option ℕ
comment_size text = closing_size text 0
