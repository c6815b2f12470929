-- [MS-TDS] 2.2.6.9: what a payload says as a transaction manager request, from left to right. A reader takes a
-- value from the front of the bytes and leaves those behind it, or refuses the first field that it can't take.
-- A refusal tells how many bytes are left where its field begins.
-- Not looked at: what stands within the headers, the transaction's descriptor too, the other bits of the flags,
-- and what stands behind the request.
use Rattle.std.specs.Prelude.{ℕ, ◌%◌, Bool, ◌==◌, ◌||◌, nat_lt, if◌then◌else◌, List, [], ◌∷◌, length, take, drop, Option, Some, None, Result, Ok, Err}
use Rattle.std.specs.Int.{w16, from_le_bytes}
use Rattle.byteorder.specs.Endian.{little_number}
use Rattle.value_types.specs.Units.{units_of}
use Rattle.transaction_requests.specs.declared.fault.Refusal.{Refusal}
use Rattle.transaction_requests.specs.declared.fault.TransactionKind.{TransactionKind}
use Rattle.transaction_requests.specs.declared.fault.TransactionKind.TheVariants as kinds

-- ---- requests

-- a transaction that is to begin: at which level, of which 0 leaves the session's, and its name, or nothing
pub record NewTransaction : Type 0 where
  pub level : ℕ
  pub name : List ℕ

-- each with a name, or nothing; behind the second and the third another transaction may begin
pub data TransactionRequest : Type 0 where
  -- TM_BEGIN_XACT
  begins : NewTransaction → TransactionRequest
  -- TM_COMMIT_XACT
  commits : List ℕ → Option NewTransaction → TransactionRequest
  -- TM_ROLLBACK_XACT
  rolls_back : List ℕ → Option NewTransaction → TransactionRequest
  -- TM_SAVE_XACT
  saves : List ℕ → TransactionRequest

-- RequestType of TM_BEGIN_XACT
abbrev pub begin_xact : ℕ
begin_xact = 5

-- RequestType of TM_COMMIT_XACT
abbrev pub commit_xact : ℕ
commit_xact = 7

-- RequestType of TM_ROLLBACK_XACT
abbrev pub rollback_xact : ℕ
rollback_xact = 8

-- RequestType of TM_SAVE_XACT
abbrev pub save_xact : ℕ
save_xact = 9

-- the greatest ISOLATION_LEVEL
abbrev pub last_level : ℕ
last_level = 5

-- fBeginXact, the lowest bit of the flags
abbrev pub is_anew : ℕ → Bool
is_anew flags = flags % 2 == 1

-- ---- fields

infixl 10 ◌>>=◌
-- the first, and then what the second makes of it
abbrev pub ◌>>=◌ : {A B : Type 0} → Result A Refusal → (A → Result B Refusal) → Result B Refusal
(Ok x) >>= f = f x
(Err refusal) >>= f = Err refusal

-- the field that begins with these bytes is refused
abbrev pub refuse : {A : Type 0} → TransactionKind → List ℕ → Result A Refusal
refuse kind bytes = Err (record { left = length bytes; kind = kind })

-- a byte
unfoldable pub byte_at : List ℕ → Result (ℕ × List ℕ) Refusal
byte_at [] = refuse kinds.Cut []
byte_at (byte ∷ rest) = Ok (byte, rest)

-- so many bytes, a field of their own
unfoldable pub bytes_at : ℕ → List ℕ → Result (List ℕ × List ℕ) Refusal
bytes_at count bytes = if nat_lt (length bytes) count then refuse kinds.Cut bytes else Ok (take count bytes, drop count bytes)

-- so many bytes that are whole units
unfoldable pub whole_at : ℕ → List ℕ → Result (List ℕ × List ℕ) Refusal
whole_at count bytes = if count % 2 == 1 then refuse kinds.Cut bytes else bytes_at count bytes

-- a name, B_VARBYTE: a count of bytes in a byte, and its units
unfoldable pub name_at : List ℕ → Result (List ℕ × List ℕ) Refusal
name_at bytes = do
  count ← byte_at bytes
  name ← whole_at count.0 count.1
  Ok (units_of name.0, name.1)

-- ISOLATION_LEVEL; `bytes` begin with it
unfoldable pub level_of : ℕ → List ℕ → List ℕ → Result (ℕ × List ℕ) Refusal
level_of level bytes rest = if nat_lt last_level level then refuse kinds.Level bytes else Ok (level, rest)

-- the same with its byte
unfoldable pub level_at : List ℕ → Result (ℕ × List ℕ) Refusal
level_at bytes = do
  level ← byte_at bytes
  level_of level.0 bytes level.1

-- ---- what a request says

-- a transaction that is to begin; what stands behind it is not looked at
unfoldable pub new_at : List ℕ → Result NewTransaction Refusal
new_at bytes = do
  level ← level_at bytes
  name ← name_at level.1
  Ok (record { level = level.0; name = name.0 })

-- the one that is to begin behind another, where the flags say so
unfoldable pub anew_at : ℕ → List ℕ → Result (Option NewTransaction) Refusal
anew_at flags bytes = if is_anew flags then (new_at bytes >>= λ new. Ok (Some new)) else Ok None

-- what stands behind the number of a commit or a rollback: its name, and what is to begin
unfoldable pub end_at : List ℕ → Result (List ℕ × Option NewTransaction) Refusal
end_at bytes = do
  name ← name_at bytes
  flags ← byte_at name.1
  anew ← anew_at flags.0 flags.1
  Ok (name.0, anew)

-- the request of a number; `bytes` begin with the number
unfoldable pub numbered_of : ℕ → List ℕ → List ℕ → Result TransactionRequest Refusal
numbered_of number bytes rest =
    if number == begin_xact then (new_at rest >>= λ new. Ok (begins new))
    else if number == commit_xact then (end_at rest >>= λ end. Ok (commits end.0 end.1))
    else if number == rollback_xact then (end_at rest >>= λ end. Ok (rolls_back end.0 end.1))
    else if number == save_xact then (name_at rest >>= λ name. Ok (saves name.0))
    else refuse kinds.Request bytes

-- the same with the number
unfoldable pub numbered_at : List ℕ → Result TransactionRequest Refusal
numbered_at bytes = do
  number ← bytes_at 2 bytes
  numbered_of (from_le_bytes w16 number.0) bytes number.1

-- the bytes behind the headers, whose total length stands in their first four
unfoldable pub behind_headers : List ℕ → Result (List ℕ) Refusal
behind_headers payload =
    if nat_lt (length payload) 4 || nat_lt (little_number 4 payload) 4 || nat_lt (length payload) (little_number 4 payload) then refuse kinds.Headers payload
    else Ok (drop (little_number 4 payload) payload)

-- what a payload says as a request
unfoldable pub request_of : List ℕ → Result TransactionRequest Refusal
request_of payload = do
  rest ← behind_headers payload
  numbered_at rest
