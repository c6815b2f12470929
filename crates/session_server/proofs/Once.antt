-- A batch's tokens with one DONE at their end, and their bytes.
use Rattle.std.proofs.Common.{◌≡◌, ℕ, ◌<◌, ◌&&◌, Bool, true, false, if◌then◌else◌, List, [], ◌∷◌, ◌++◌, length, Option, Some, None, refl, sym, ap, subst, ◌∙◌, append_assoc, arith}
use Rattle.std.specs.Prelude.{IfNone}
use Rattle.tds_tokens.specs.declared.columns.ColumnInfo.{ColumnInfo}
use Rattle.tds_tokens.specs.declared.token.DoneKind.TheVariants.{Done}
use Rattle.tds_tokens.specs.declared.token.Token.{Token}
use Rattle.tds_tokens.specs.Fit.{FitTokens}
use Rattle.tds_tokens.specs.Spelling.{TokenBytes, columns_after, token_bytes, tokens_bytes}
use Rattle.session_state.proofs.Fitting.{done_fit}
use Rattle.session_server.specs.Parts.{IsDone}
use Rattle.session_server.specs.Response.{ended_once, is_final, is_followed, merged, unfollowed}

-- whatever stands in front of the last two
once_behind : (front : List Token) (first last : Token) → ended_once (front ++ first ∷ last ∷ []) ≡ front ++ merged first last
unfolding ended_once
once_behind [] first last = refl
once_behind (a ∷ []) first last = refl
once_behind (a ∷ b ∷ []) first last = ap (λ (l : List Token). a ∷ l) (once_behind (b ∷ []) first last)
once_behind (a ∷ b ∷ c ∷ front) first last = ap (λ (l : List Token). a ∷ l) (once_behind (b ∷ c ∷ front) first last)

-- fewer than two stay
pub once_short : (tokens : List Token) → length tokens < 2 → ended_once tokens ≡ tokens
unfolding ended_once
once_short [] short = refl
once_short (token ∷ []) short = refl
once_short (first ∷ second ∷ rest) short = absurd (let no : ⊥ = omega (arith, short) in no)

-- of what gives nothing, whatever it gave
pub none_too : {A P : Type 0} (given : Option A) → P → IfNone given P
none_too None holds = holds
none_too (Some it) holds = tt

module _ (tokens front : List Token) (first last : Token) (whole : tokens ≡ front ++ first ∷ last ∷ []) where
  -- one takes the place of the last two
  pub once_one : (one : Token) → (if is_followed first && is_final last then Some (unfollowed first) else None) ≡ Some one → ended_once tokens ≡ front ++ one ∷ []
  once_one one is = ap ended_once whole ∙ once_behind front first last ∙ ap (λ (l : List Token). front ++ l) (by_test (is_followed first && is_final last) is)
    where
      by_test : (test : Bool) → (if test then Some (unfollowed first) else None) ≡ Some one → (if test then unfollowed first ∷ [] else first ∷ last ∷ []) ≡ one ∷ []
      by_test true is = let same : unfollowed first ≡ one = cc in ap (λ (t : Token). t ∷ []) same
      by_test false is = absurd (let no : ⊥ = cc in no)

  -- or none does
  pub once_still : (if is_followed first && is_final last then Some (unfollowed first) else None) ≡ None → ended_once tokens ≡ tokens
  once_still is = ap ended_once whole ∙ once_behind front first last ∙ ap (λ (l : List Token). front ++ l) (by_test (is_followed first && is_final last) is) ∙ sym whole
    where
      by_test : (test : Bool) → (if test then Some (unfollowed first) else None) ≡ None → (if test then unfollowed first ∷ [] else first ∷ last ∷ []) ≡ first ∷ last ∷ []
      by_test true is = absurd (let no : ⊥ = cc in no)
      by_test false is = refl

-- ---- bytes

-- a DONE has a spelling, and what stands in front
pub fit_done : (done : Token) → IsDone done → FitTokens [] (done ∷ [])
fit_done done is = subst (λ (t : Token). FitTokens [] (t ∷ [])) (sym is.3) (done_fit Done is.0 is.1 is.2 [])

fit_before : (front rest : List Token) (columns : List ColumnInfo) → FitTokens columns (front ++ rest) → FitTokens columns front
unfolding FitTokens
fit_before [] rest columns fit = tt
fit_before (token ∷ front) rest columns fit = (fit.0, fit_before front rest (columns_after columns token) fit.1)

pub fit_front : (tokens front rest : List Token) → tokens ≡ front ++ rest → FitTokens [] tokens → FitTokens [] front
fit_front tokens front rest whole fit = fit_before front rest [] (subst (FitTokens []) whole fit)

-- its bytes are the same behind any columns
done_anywhere : (done : Token) → IsDone done → (columns : List ColumnInfo) → tokens_bytes columns (done ∷ []) ≡ TokenBytes (done ∷ [])
unfolding tokens_bytes
done_anywhere done is columns = rw is.3 refl

bytes_behind : (front : List Token) (done : Token) → IsDone done → (columns : List ColumnInfo) → tokens_bytes columns (front ++ done ∷ []) ≡ tokens_bytes columns front ++ TokenBytes (done ∷ [])
unfolding tokens_bytes
bytes_behind [] done is columns = done_anywhere done is columns
bytes_behind (token ∷ front) done is columns =
    ap (λ (l : List ℕ). token_bytes columns token ++ l) (bytes_behind front done is (columns_after columns token))
    ∙ sym (append_assoc (token_bytes columns token) (tokens_bytes (columns_after columns token) front) (TokenBytes (done ∷ [])))

pub bytes_done : (front : List Token) (done : Token) → IsDone done → TokenBytes (front ++ done ∷ []) ≡ TokenBytes front ++ TokenBytes (done ∷ [])
bytes_done front done is = bytes_behind front done is []
