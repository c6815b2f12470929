-- What a message is answered by ([MS-TDS] 2.2.7): options, or tokens, of which those of a call are its own, and
-- those of a batch too, or with one DONE in the place of two.
use Rattle.std.specs.Prelude.{ℕ, ℤ, pos, ◌-◌, ◌%◌, ◌==◌, ◌&&◌, Bool, false, if◌then◌else◌, List, [], ◌∷◌, Some}
use Rattle.std.specs.Fmt.{decimal}
use Rattle.tds_tokens.specs.Numbers.{done_final, done_more, done_error, done_attn, command_none}
use Rattle.tds_tokens.specs.declared.token.DoneKind.TheVariants.{Done}
use Rattle.tds_tokens.specs.declared.token.Token.{Token}
use Rattle.tds_tokens.specs.declared.token.Token.TheVariants.{Finished}
use Rattle.batch_meaning.specs.Failures.{naming}
use Rattle.batch_meaning.specs.Raised.{error_token, raised_at}

-- an attention is acknowledged by DONE with DONE_ATTN ([MS-TDS] 2.2.1.7)
abbrev pub attention_tokens : List Token
attention_tokens = Finished Done done_attn command_none 0 ∷ []

-- a login is refused by ERROR, and DONE with DONE_ERROR
abbrev pub refusal_tokens : ℤ → List Token
refusal_tokens number = error_token (raised_at (pos 1) (record { number = number; name = Some [] })) ∷ Finished Done done_error command_none 0 ∷ []

-- ---- what is not served, and leaves the connection (own)

-- the number of the error where a call is not served
abbrev pub call_unserved : ℕ
call_unserved = 8016

-- that where a text of a call is too long
abbrev pub text_too_long : ℕ
text_too_long = 49006

-- that of a transaction manager request
abbrev pub request_unserved : ℕ
request_unserved = 49014

-- ERROR of this number, which tells the offset of the first field that is refused, and a last token
abbrev pub unserved : ℕ → ℕ → Token → List Token
unserved number at last = error_token (raised_at (pos 1) (naming number (decimal at))) ∷ last ∷ []

-- ---- one DONE ([MS-TDS] 2.2.7.6; own: where drivers are served)

-- a DONE that says that more follows
abbrev pub is_followed : Token → Bool
is_followed (Finished Done status command rows) = status % 2 == done_more
is_followed token = false

-- the DONE of a batch that no error has ended
abbrev pub is_final : Token → Bool
is_final (Finished Done status command rows) = status == done_final
is_final token = false

-- it says that nothing follows
abbrev pub unfollowed : Token → Token
unfollowed (Finished kind status command rows) = Finished kind (status - done_more) command rows
unfollowed token = token

-- the DONE of the last statement, in the place of the batch's own
abbrev pub merged : Token → Token → List Token
merged first last = if is_followed first && is_final last then unfollowed first ∷ [] else first ∷ last ∷ []

-- A batch's tokens, where a statement's DONE right in front of the batch's own takes its place.
unfoldable pub ended_once : List Token → List Token
ended_once [] = []
ended_once (token ∷ []) = token ∷ []
ended_once (first ∷ last ∷ []) = merged first last
ended_once (first ∷ second ∷ third ∷ rest) = first ∷ ended_once (second ∷ third ∷ rest)

-- ---- responses

-- The options that answer every PRELOGIN ([MS-TDS] 2.2.6.5), or tokens in packets of a size: those of a login,
-- a batch, a call or an attention, or of what is not served.
pub data Response : Type 0 where
  options : Response
  tabular : ℕ → List Token → Response
