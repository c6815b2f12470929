-- Own: what reading bytes as tokens answers. It cites the spelling alone, and says of a place that no
-- token at all begins there; the code reads from left to right and stops where its reader finds none.
use Rattle.std.specs.Prelude.{◌≡◌, ◌≢◌, ℕ, List, [], ◌∷◌, ◌++◌, length, Result, Ok, Err}
use Rattle.std.specs.Global.{Vec}
use Rattle.tds_tokens.specs.declared.columns.ColumnInfo.{ColumnInfo}
use Rattle.tds_tokens.specs.declared.fault.TokenFault.{TokenFault}
use Rattle.tds_tokens.specs.declared.fault.TokenFault.TheVariants.{Bad, Memory}
use Rattle.tds_tokens.specs.declared.token.Token.{Token}
use Rattle.tds_tokens.specs.Spelling.{columns_after, token_bytes, TokenBytes}
use Rattle.tds_tokens.specs.Ranges.{IsToken, AreTokens}

-- the latest columns behind the tokens, where these were the latest before them
unfoldable pub latest_columns : List ColumnInfo → List Token → List ColumnInfo
latest_columns columns [] = columns
latest_columns columns (token ∷ tokens) = latest_columns (columns_after columns token) tokens

-- tokens stand before this place, and there, where bytes are left, no token begins
pub record IsBadAt (bytes : List ℕ) (place : ℕ) : Type 0 where
  pub before : List Token
  pub rest : List ℕ
  pub are_tokens : AreTokens [] before
  pub parts : bytes ≡ TokenBytes before ++ rest
  pub behind : place ≡ length (TokenBytes before)
  pub left : rest ≢ []
  pub none : (token : Token) (more : List ℕ) → IsToken (latest_columns [] before) token → rest ≡ token_bytes (latest_columns [] before) token ++ more → ⊥

-- the fault is one of the bytes
abbrev pub IsFaultOf : List ℕ → TokenFault → Type 0
IsFaultOf bytes (Bad place) = IsBadAt bytes place
IsFaultOf bytes Memory = Unit {0}

-- the answer is these tokens, unless memory ran out
abbrev pub AnswersTokens : Result (Vec Token) TokenFault → List Token → Type 0
AnswersTokens (Ok read) tokens = read.items ≡ tokens
AnswersTokens (Err (Bad place)) tokens = ⊥
AnswersTokens (Err Memory) tokens = Unit {0}

-- no token's bytes begin another's where the latest columns are the same
abbrev pub NoneBeginsAnother : Type 0
NoneBeginsAnother = (columns : List ColumnInfo) (a b : Token) (x y : List ℕ) → IsToken columns a → IsToken columns b → token_bytes columns a ++ x ≡ token_bytes columns b ++ y → (a ≡ b) × (x ≡ y)
