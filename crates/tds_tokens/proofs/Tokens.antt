-- Tokens one after another, as a loop goes over them.
use Rattle.std.proofs.Common.{◌≡◌, ℕ, ◌+◌, ◌<◌, ◌≤◌, List, [], ◌∷◌, ◌++◌, length, get_or, drop, refl, sym, ap, subst, ◌∙◌, length-append}
use Rattle.std.proofs.lemmas.List.{at_drop_more, at_drop_all}
use Rattle.tds_tokens.specs.declared.columns.ColumnInfo.{ColumnInfo}
use Rattle.tds_tokens.specs.declared.token.Token.{Token}
use Rattle.tds_tokens.specs.Spelling.{columns_after, token_bytes, tokens_bytes}
use Rattle.tds_tokens.specs.Fit.{FitsToken, FitTokens}

tokens_bytes-cons : (columns : List ColumnInfo) (token : Token) (tokens : List Token) → tokens_bytes columns (token ∷ tokens) ≡ token_bytes columns token ++ tokens_bytes (columns_after columns token) tokens
unfolding tokens_bytes
tokens_bytes-cons columns token tokens = refl

-- the token at i, and those behind it
pub tokens_bytes-drop : (columns : List ColumnInfo) (tokens : List Token) (i : ℕ) (token : Token) → i < length tokens → token ≡ get_or tokens i token
    → tokens_bytes columns (drop i tokens) ≡ token_bytes columns token ++ tokens_bytes (columns_after columns token) (drop (i + 1) tokens)
tokens_bytes-drop columns tokens i token lt is =
    at_drop_more (tokens_bytes columns) tokens i token lt
    ∙ ap (λ (first : Token). tokens_bytes columns (first ∷ drop (i + 1) tokens)) (sym is)
    ∙ tokens_bytes-cons columns token (drop (i + 1) tokens)

FitTokens-cons : (columns : List ColumnInfo) (token : Token) (tokens : List Token) → FitTokens columns (token ∷ tokens) → FitsToken columns token × FitTokens (columns_after columns token) tokens
unfolding FitTokens
FitTokens-cons columns token tokens fit = fit

pub FitTokens-drop : (columns : List ColumnInfo) (tokens : List Token) (i : ℕ) (token : Token) → i < length tokens → token ≡ get_or tokens i token
    → FitTokens columns (drop i tokens) → FitsToken columns token × FitTokens (columns_after columns token) (drop (i + 1) tokens)
FitTokens-drop columns tokens i token lt is fit =
    let front : FitTokens columns (token ∷ drop (i + 1) tokens) =
    subst (λ (F : List Token). FitTokens columns F) (at_drop_more (λ (left : List Token). left) tokens i token lt ∙ ap (λ (first : Token). first ∷ drop (i + 1) tokens) (sym is)) fit in
    FitTokens-cons columns token (drop (i + 1) tokens) front

pub length-tokens_bytes-drop : (columns : List ColumnInfo) (tokens : List Token) (i : ℕ) (token : Token) → i < length tokens → token ≡ get_or tokens i token
    → length (tokens_bytes columns (drop i tokens)) ≡ length (token_bytes columns token) + length (tokens_bytes (columns_after columns token) (drop (i + 1) tokens))
length-tokens_bytes-drop columns tokens i token lt is =
    ap length (tokens_bytes-drop columns tokens i token lt is) ∙ length-append (token_bytes columns token) (tokens_bytes (columns_after columns token) (drop (i + 1) tokens))

-- no token is left at the end
pub tokens_bytes-drop_all : (columns : List ColumnInfo) (tokens : List Token) (i : ℕ) → length tokens ≤ i → tokens_bytes columns (drop i tokens) ≡ []
unfolding tokens_bytes
tokens_bytes-drop_all columns tokens i over = at_drop_all (tokens_bytes columns) tokens i over
