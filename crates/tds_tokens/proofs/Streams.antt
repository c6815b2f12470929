-- Tokens one after another are told from their bytes.
use Rattle.std.proofs.Common.{◌≡◌, ◌≢◌, ℕ, zero, suc, ◌-◌, ◌<◌, List, [], ◌∷◌, ◌++◌, length, Option, Some, None, refl, sym, ap, subst, ◌∙◌, append_assoc, length-append, arith}
use Rattle.std.specs.Prelude.{slice_get}
use Rattle.std.proofs.lemmas.List.{append-nil}
use Rattle.std.proofs.lemmas.Option.{none-some}
use Rattle.tds_tokens.specs.declared.columns.ColumnInfo.{ColumnInfo}
use Rattle.tds_tokens.specs.declared.token.Token.{Token}
use Rattle.tds_tokens.specs.declared.token.Token.TheVariants.{LoginAck, Error, Info, EnvText, EnvBytes, Columns, Row, ReturnStatus, ReturnValue, Finished}
use Rattle.tds_tokens.specs.Spelling.{columns_after, token_bytes, tokens_bytes, TokenBytes}
use Rattle.tds_tokens.specs.Fit.{FitTokens}
use Rattle.tds_tokens.specs.Ranges.{IsToken, AreTokens}
use Rattle.tds_tokens.specs.Answer.{latest_columns, IsBadAt}
use Rattle.tds_tokens.specs.Reading.{token_at, columns_in, columns_of_place, place_after}
use Rattle.tds_tokens.proofs.Readers.{IsBytes, IsBytes-rest}
use Rattle.tds_tokens.proofs.TokenLaws.{token_takes, token_again, token_alone}

-- each token has bytes
token_bytes-some : (columns : List ColumnInfo) (token : Token) → 0 < length (token_bytes columns token)
token_bytes-some columns (LoginAck version program release) = omega arith
token_bytes-some columns (Error notice) = omega arith
token_bytes-some columns (Info notice) = omega arith
token_bytes-some columns (EnvText kind fresh former) = omega arith
token_bytes-some columns (EnvBytes kind fresh former) = omega arith
token_bytes-some columns (Columns described) = omega arith
token_bytes-some columns (Row values) = omega arith
token_bytes-some columns (ReturnStatus status) = omega arith
token_bytes-some columns (ReturnValue ordinal name kind value) = omega arith
token_bytes-some columns (Finished kind status command rows) = omega arith

-- no tokens, where there are no bytes
none_of_nothing : (columns : List ColumnInfo) (tokens : List Token) → [] ≡ tokens_bytes columns tokens → tokens ≡ []
unfolding tokens_bytes
none_of_nothing columns [] same = refl
none_of_nothing columns (token ∷ tokens) same =
    absurd (omega (arith, ap length same, length-append (token_bytes columns token) (tokens_bytes (columns_after columns token) tokens), token_bytes-some columns token))

-- of two streams one goes on where the other ends
goes_on : (columns : List ColumnInfo) (ts us : List Token) (x : List ℕ) → AreTokens columns ts → AreTokens columns us → tokens_bytes columns ts ++ x ≡ tokens_bytes columns us
    → (more : List Token) × (us ≡ ts ++ more) × AreTokens (latest_columns columns ts) more × (x ≡ tokens_bytes (latest_columns columns ts) more)
unfolding tokens_bytes AreTokens latest_columns
goes_on columns [] us x are_a are_b same = (us, refl, are_b, same)
goes_on columns (a ∷ ts) [] x are_a are_b same =
    let front = tokens_bytes (columns_after columns a) ts in
    absurd (omega (arith, ap length same, length-append (token_bytes columns a ++ front) x, length-append (token_bytes columns a) front, token_bytes-some columns a))
goes_on columns (a ∷ ts) (b ∷ us) x are_a are_b same =
    let left = tokens_bytes (columns_after columns a) ts ++ x in
    let parts : token_bytes columns a ++ left ≡ token_bytes columns b ++ tokens_bytes (columns_after columns b) us = sym (append_assoc (token_bytes columns a) (tokens_bytes (columns_after columns a) ts) x) ∙ same in
    let one = token_alone columns a b left (tokens_bytes (columns_after columns b) us) are_a.0 are_b.0 parts in
    let others : AreTokens (columns_after columns a) us = subst (λ (t : Token). AreTokens (columns_after columns t) us) (sym one.0) are_b.1 in
    let later = goes_on (columns_after columns a) ts us x are_a.1 others (one.1 ∙ ap (λ t. tokens_bytes (columns_after columns t) us) (sym one.0)) in
    (later.0, ap (λ t. t ∷ us) (sym one.0) ∙ ap (λ l. a ∷ l) later.1, later.2, later.3)

-- two streams with the same bytes are the same
pub stream_alone : (ts us : List Token) → AreTokens [] ts → AreTokens [] us → TokenBytes ts ≡ TokenBytes us → ts ≡ us
stream_alone ts us are_a are_b same =
    let later = goes_on [] ts us [] are_a are_b (append-nil (TokenBytes ts) ∙ same) in
    let nothing = none_of_nothing (latest_columns [] ts) later.0 later.3 in
    sym (later.1 ∙ ap (λ l. ts ++ l) nothing ∙ append-nil ts)

-- a stream has no place where no token begins
pub not_bad : (bytes : List ℕ) (place : ℕ) (tokens : List Token) → IsBadAt bytes place → AreTokens [] tokens → TokenBytes tokens ≡ bytes → ⊥
unfolding tokens_bytes AreTokens
not_bad bytes place tokens bad are same =
    let later = goes_on [] bad.before tokens bad.rest bad.are_tokens are (sym bad.parts ∙ sym same) in
    first (latest_columns [] bad.before) later.0 bad.rest bad.left bad.none later.2 later.3
  where
    first : (columns : List ColumnInfo) (more : List Token) (rest : List ℕ) → rest ≢ [] → ((token : Token) (after : List ℕ) → IsToken columns token → rest ≡ token_bytes columns token ++ after → ⊥) → AreTokens columns more
        → rest ≡ tokens_bytes columns more → ⊥
    first columns [] rest left none are_more given = left given
    first columns (token ∷ more) rest left none are_more given = none token (tokens_bytes (columns_after columns token) more) are_more.0 given

-- ---- one more token

pub latest_columns-more : (columns : List ColumnInfo) (tokens : List Token) (token : Token) → latest_columns columns (tokens ++ token ∷ []) ≡ columns_after (latest_columns columns tokens) token
unfolding latest_columns
latest_columns-more columns [] token = refl
latest_columns-more columns (first ∷ tokens) token = latest_columns-more (columns_after columns first) tokens token

pub tokens_bytes-more : (columns : List ColumnInfo) (tokens : List Token) (token : Token) → tokens_bytes columns (tokens ++ token ∷ []) ≡ tokens_bytes columns tokens ++ token_bytes (latest_columns columns tokens) token
unfolding tokens_bytes latest_columns
tokens_bytes-more columns [] token = append-nil (token_bytes columns token)
tokens_bytes-more columns (first ∷ tokens) token =
    ap (λ l. token_bytes columns first ++ l) (tokens_bytes-more (columns_after columns first) tokens token)
    ∙ sym (append_assoc (token_bytes columns first) (tokens_bytes (columns_after columns first) tokens) (token_bytes (latest_columns (columns_after columns first) tokens) token))

pub AreTokens-more : (columns : List ColumnInfo) (tokens : List Token) (token : Token) → AreTokens columns tokens → IsToken (latest_columns columns tokens) token → AreTokens columns (tokens ++ token ∷ [])
unfolding AreTokens latest_columns
AreTokens-more columns [] token are is = (is, tt)
AreTokens-more columns (first ∷ tokens) token are is = (are.0, AreTokens-more (columns_after columns first) tokens token are.1 is)

slice_get-front : (tokens : List Token) (last : Token) (i : ℕ) → i < length tokens → slice_get (tokens ++ last ∷ []) i ≡ slice_get tokens i
slice_get-front [] last i lt = absurd (omega arith)
slice_get-front (first ∷ tokens) last zero lt = refl
slice_get-front (first ∷ tokens) last (suc i) lt = slice_get-front tokens last i (omega arith)

slice_get-last : (tokens : List Token) (last : Token) → slice_get (tokens ++ last ∷ []) (length tokens) ≡ Some last
slice_get-last [] last = refl
slice_get-last (first ∷ tokens) last = slice_get-last tokens last

abbrev pub IsPlaceIn : List Token → Option ℕ → Type 0
IsPlaceIn tokens None = Unit {0}
IsPlaceIn tokens (Some place) = place < length tokens

same_place : (tokens : List Token) (token : Token) (place : Option ℕ) → IsPlaceIn tokens place → columns_of_place (tokens ++ token ∷ []) place ≡ columns_of_place tokens place
same_place tokens token None within = refl
same_place tokens token (Some place) within = ap columns_in (slice_get-front tokens token place within)

columns_of_place-more : (tokens : List Token) (token : Token) (place : Option ℕ) → IsPlaceIn tokens place → columns_of_place (tokens ++ token ∷ []) (place_after token (length tokens) place) ≡ columns_after (columns_of_place tokens place) token
columns_of_place-more tokens (Columns described) place within = ap columns_in (slice_get-last tokens (Columns described))
columns_of_place-more tokens (LoginAck version program release) place within = same_place tokens (LoginAck version program release) place within
columns_of_place-more tokens (Error notice) place within = same_place tokens (Error notice) place within
columns_of_place-more tokens (Info notice) place within = same_place tokens (Info notice) place within
columns_of_place-more tokens (EnvText kind fresh former) place within = same_place tokens (EnvText kind fresh former) place within
columns_of_place-more tokens (EnvBytes kind fresh former) place within = same_place tokens (EnvBytes kind fresh former) place within
columns_of_place-more tokens (Row values) place within = same_place tokens (Row values) place within
columns_of_place-more tokens (ReturnStatus status) place within = same_place tokens (ReturnStatus status) place within
columns_of_place-more tokens (ReturnValue ordinal name kind value) place within = same_place tokens (ReturnValue ordinal name kind value) place within
columns_of_place-more tokens (Finished kind status command rows) place within = same_place tokens (Finished kind status command rows) place within

IsPlaceIn-wider : (tokens : List Token) (token : Token) (place : Option ℕ) → IsPlaceIn tokens place → IsPlaceIn (tokens ++ token ∷ []) place
IsPlaceIn-wider tokens token None within = tt
IsPlaceIn-wider tokens token (Some place) within = omega (arith, length-append tokens (token ∷ []))

IsPlaceIn-more : (tokens : List Token) (token : Token) (place : Option ℕ) → IsPlaceIn tokens place → IsPlaceIn (tokens ++ token ∷ []) (place_after token (length tokens) place)
IsPlaceIn-more tokens (Columns described) place within = omega (arith, length-append tokens (Columns described ∷ []))
IsPlaceIn-more tokens (LoginAck version program release) place within = IsPlaceIn-wider tokens (LoginAck version program release) place within
IsPlaceIn-more tokens (Error notice) place within = IsPlaceIn-wider tokens (Error notice) place within
IsPlaceIn-more tokens (Info notice) place within = IsPlaceIn-wider tokens (Info notice) place within
IsPlaceIn-more tokens (EnvText kind fresh former) place within = IsPlaceIn-wider tokens (EnvText kind fresh former) place within
IsPlaceIn-more tokens (EnvBytes kind fresh former) place within = IsPlaceIn-wider tokens (EnvBytes kind fresh former) place within
IsPlaceIn-more tokens (Row values) place within = IsPlaceIn-wider tokens (Row values) place within
IsPlaceIn-more tokens (ReturnStatus status) place within = IsPlaceIn-wider tokens (ReturnStatus status) place within
IsPlaceIn-more tokens (ReturnValue ordinal name kind value) place within = IsPlaceIn-wider tokens (ReturnValue ordinal name kind value) place within
IsPlaceIn-more tokens (Finished kind status command rows) place within = IsPlaceIn-wider tokens (Finished kind status command rows) place within

-- ---- the loop that reads

-- the tokens so far stand at the front, and the place tells their latest columns
pub record IsReadSoFar (bytes : List ℕ) (tokens : List Token) (rest : List ℕ) (place : Option ℕ) : Type 0 where
  pub are_tokens : AreTokens [] tokens
  pub parts : bytes ≡ TokenBytes tokens ++ rest
  pub within : IsPlaceIn tokens place
  pub columns : columns_of_place tokens place ≡ latest_columns [] tokens

pub read_none : (bytes : List ℕ) → IsReadSoFar bytes [] bytes None
unfolding AreTokens tokens_bytes latest_columns
read_none bytes = record { are_tokens = tt; parts = refl; within = tt; columns = refl }

-- what one more token leaves is shorter
pub record ReadsOne (bytes : List ℕ) (tokens : List Token) (rest : List ℕ) (place : Option ℕ) (token : Token) (after : List ℕ) : Type 0 where
  pub so_far : IsReadSoFar bytes (tokens ++ token ∷ []) after (place_after token (length tokens) place)
  pub shorter : length after < length rest

pub read_one : (bytes : List ℕ) (tokens : List Token) (rest : List ℕ) (place : Option ℕ) (token : Token) (after : List ℕ) → IsBytes bytes → IsReadSoFar bytes tokens rest place
    → token_at (columns_of_place tokens place) rest ≡ Some (token, after) → ReadsOne bytes tokens rest place token after
read_one bytes tokens rest place token after fits so_far e =
    let columns = latest_columns [] tokens in
    let left : IsBytes rest = IsBytes-rest (TokenBytes tokens) rest (subst IsBytes so_far.parts fits) in
    let t = token_takes columns rest (token, after) left (ap (λ cs. token_at cs rest) (sym so_far.columns) ∙ e) in
    let whole : TokenBytes tokens ++ (token_bytes columns token ++ after) ≡ TokenBytes (tokens ++ token ∷ []) ++ after =
    sym (append_assoc (TokenBytes tokens) (token_bytes columns token) after) ∙ ap (λ l. l ++ after) (sym (tokens_bytes-more [] tokens token)) in
    record {
      so_far = record {
        are_tokens = AreTokens-more [] tokens token so_far.are_tokens t.1;
        parts = so_far.parts ∙ ap (λ l. TokenBytes tokens ++ l) t.0 ∙ whole;
        within = IsPlaceIn-more tokens token place so_far.within;
        columns = columns_of_place-more tokens token place so_far.within ∙ ap (λ cs. columns_after cs token) so_far.columns ∙ sym (latest_columns-more [] tokens token);
      };
      shorter = omega (arith, ap length t.0, length-append (token_bytes columns token) after, token_bytes-some columns token);
    }

pub read_bad : (bytes : List ℕ) (tokens : List Token) (rest : List ℕ) (place : Option ℕ) → IsReadSoFar bytes tokens rest place → rest ≢ [] → token_at (columns_of_place tokens place) rest ≡ None → IsBadAt bytes (length bytes - length rest)
read_bad bytes tokens rest place so_far left e = record {
  before = tokens;
  rest = rest;
  are_tokens = so_far.are_tokens;
  parts = so_far.parts;
  behind = omega (arith, ap length so_far.parts, length-append (TokenBytes tokens) rest);
  left = left;
  none = λ token more is same. none-some (token, more) (sym e ∙ ap (λ cs. token_at cs rest) so_far.columns ∙ ap (token_at (latest_columns [] tokens)) same ∙ token_again (latest_columns [] tokens) token more is);
}

pub read_all : (bytes : List ℕ) (tokens : List Token) (rest : List ℕ) (place : Option ℕ) → IsReadSoFar bytes tokens rest place → rest ≡ [] → TokenBytes tokens ≡ bytes
read_all bytes tokens rest place so_far none = sym (so_far.parts ∙ ap (λ l. TokenBytes tokens ++ l) none ∙ append-nil (TokenBytes tokens))

-- ---- what is read can be written

pub FitTokens-from : (columns : List ColumnInfo) (tokens : List Token) → AreTokens columns tokens → FitTokens columns tokens
unfolding AreTokens FitTokens
FitTokens-from columns [] are = tt
FitTokens-from columns (token ∷ tokens) are = (are.0.0, FitTokens-from (columns_after columns token) tokens are.1)
