-- Transact-SQL reference, "Operators": how the signs are spelled. The code looks at two units, and then
-- at one.
use Rattle.std.specs.Prelude.{ℕ, List, [], ◌∷◌, codes}
use Rattle.tsql_lexer.specs.declared.lexeme.Sign.{Sign}
use Rattle.tsql_lexer.specs.declared.lexeme.Sign.TheVariants.{Open, Close, Comma, Dot, Semicolon, Plus, Minus, Star, Slash, Percent, Equal, NotEqual, Less, LessEqual, Greater, GreaterEqual}

-- the spellings of a sign
abbrev pub sign_spellings : Sign → List (List ℕ)
sign_spellings Open = codes "(" ∷ []
sign_spellings Close = codes ")" ∷ []
sign_spellings Comma = codes "," ∷ []
sign_spellings Dot = codes "." ∷ []
sign_spellings Semicolon = codes ";" ∷ []
sign_spellings Plus = codes "+" ∷ []
sign_spellings Minus = codes "-" ∷ []
sign_spellings Star = codes "*" ∷ []
sign_spellings Slash = codes "/" ∷ []
sign_spellings Percent = codes "%" ∷ []
sign_spellings Equal = codes "=" ∷ []
sign_spellings NotEqual = codes "<>" ∷ codes "!=" ∷ []
sign_spellings Less = codes "<" ∷ []
sign_spellings LessEqual = codes "<=" ∷ []
sign_spellings Greater = codes ">" ∷ []
sign_spellings GreaterEqual = codes ">=" ∷ []
