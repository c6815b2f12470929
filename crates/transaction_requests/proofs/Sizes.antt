-- The text of a request is at most twice as long as its payload, but for the words around its names.
use Rattle.std.proofs.Common.{◌≡◌, ℕ, ◌+◌, ◌*◌, ◌%◌, ◌≤◌, Bool, true, false, ◌==◌, if◌then◌else◌, List, [], ◌∷◌, ◌++◌, length, length-append, length-take, length-drop, Option, None, Some, Result, Ok, Err, subst, arith}
use Rattle.std.specs.Prelude.{◌||◌, codes, nat_lt}
use Rattle.std.specs.List.{flat_map}
use Rattle.std.specs.Int.{w16, from_le_bytes}
use Rattle.byteorder.specs.Endian.{little_number}
use Rattle.value_types.specs.Units.{units_of}
use Rattle.transaction_requests.specs.declared.fault.Refusal.{Refusal}
use Rattle.transaction_requests.specs.Reading.{NewTransaction, TransactionRequest, begins, commits, rolls_back, saves, ◌>>=◌, anew_at, begin_xact, behind_headers, byte_at, bytes_at, commit_xact, end_at, is_anew, last_level, level_at, level_of, name_at, new_at, numbered_at, numbered_of, request_of, rollback_xact, save_xact, whole_at}
use Rattle.transaction_requests.specs.Text.{anew_text, bracket, called, doubled, guard, if_closed, if_set, level_text, level_words, managed, new_text, next_text, placed, set_level, text_of}

-- ---- what is read

-- what is read is so
abbrev Holds : {A : Type 0} → (A → Type 0) → Result A Refusal → Type 0
Holds P (Ok x) = P x
Holds P (Err refusal) = Unit {0}

holds_then : {A B : Type 0} (P : A → Type 0) (Q : B → Type 0) (r : Result A Refusal) (f : A → Result B Refusal) → Holds P r → ((x : A) → P x → Holds Q (f x)) → Holds Q (r >>= f)
holds_then P Q (Ok x) f one more = more x one
holds_then P Q (Err refusal) f one more = tt

holds_if : {A : Type 0} (P : A → Type 0) (test : Bool) (x y : Result A Refusal) → Holds P x → Holds P y → Holds P (if test then x else y)
holds_if P true x y one two = one
holds_if P false x y one two = two

-- and at most so many bytes are left behind it
abbrev Front : {A : Type 0} → (A → Type 0) → ℕ → A × List ℕ → Type 0
Front P n x = P x.0 × (length x.1 ≤ n)

abbrev Any : {A : Type 0} → A → Type 0
Any a = Unit {0}

-- a list is no longer than that
abbrev AtMost : ℕ → List ℕ → Type 0
AtMost n list = length list ≤ n

-- a name's units are two bytes each
abbrev IsName : ℕ → List ℕ → Type 0
IsName n name = 2 * length name ≤ n

byte_front : (n : ℕ) (bytes : List ℕ) → length bytes ≤ n → Holds (Front {A = ℕ} Any n) (byte_at bytes)
unfolding byte_at
byte_front n [] le = tt
byte_front n (byte ∷ bytes) le = (tt, omega arith)

bytes_front : (count n : ℕ) (bytes : List ℕ) → length bytes ≤ n → Holds (Front (AtMost n) n) (bytes_at count bytes)
unfolding bytes_at
bytes_front count n bytes le = holds_if (Front (AtMost n) n) (nat_lt (length bytes) count) _ _ tt (omega (arith, length-take count bytes), omega (arith, length-drop count bytes))

whole_front : (count n : ℕ) (bytes : List ℕ) → length bytes ≤ n → Holds (Front (AtMost n) n) (whole_at count bytes)
unfolding whole_at
whole_front count n bytes le = holds_if (Front (AtMost n) n) (count % 2 == 1) _ _ tt (bytes_front count n bytes le)

units_half : (bytes : List ℕ) → 2 * length (units_of bytes) ≤ length bytes
units_half [] = omega arith
units_half (low ∷ []) = omega arith
units_half (low ∷ high ∷ bytes) = omega (arith, units_half bytes)

name_front : (n : ℕ) (bytes : List ℕ) → length bytes ≤ n → Holds (Front (IsName n) n) (name_at bytes)
unfolding name_at
name_front n bytes le = holds_then (Front {A = ℕ} Any n) (Front (IsName n) n) (byte_at bytes) _ (byte_front n bytes le) (λ count had.
    holds_then (Front (AtMost n) n) (Front (IsName n) n) (whole_at count.0 count.1) _ (whole_front count.0 n count.1 had.1) (λ part was. (omega (arith, units_half part.0, was.0), was.1)))

level_front : (n : ℕ) (bytes : List ℕ) → length bytes ≤ n → Holds (Front {A = ℕ} Any n) (level_at bytes)
unfolding level_at level_of
level_front n bytes le = holds_then (Front {A = ℕ} Any n) (Front {A = ℕ} Any n) (byte_at bytes) _ (byte_front n bytes le) (λ level had.
    holds_if (Front {A = ℕ} Any n) (nat_lt last_level level.0) _ _ tt (tt, had.1))

abbrev IsNew : ℕ → NewTransaction → Type 0
IsNew n new = IsName n new.name

new_named : (n : ℕ) (bytes : List ℕ) → length bytes ≤ n → Holds (IsNew n) (new_at bytes)
unfolding new_at
new_named n bytes le = holds_then (Front {A = ℕ} Any n) (IsNew n) (level_at bytes) _ (level_front n bytes le) (λ level had.
    holds_then (Front (IsName n) n) (IsNew n) (name_at level.1) _ (name_front n level.1 had.1) (λ name was. was.0))

-- where one is to begin
abbrev IsAnew : ℕ → Option NewTransaction → Type 0
IsAnew n None = Unit {0}
IsAnew n (Some new) = IsNew n new

anew_named : (flags n : ℕ) (bytes : List ℕ) → length bytes ≤ n → Holds (IsAnew n) (anew_at flags bytes)
unfolding anew_at
anew_named flags n bytes le = holds_if (IsAnew n) (is_anew flags) _ _ (holds_then (IsNew n) (IsAnew n) (new_at bytes) _ (new_named n bytes le) (λ new is. is)) tt

abbrev IsEnd : ℕ → List ℕ × Option NewTransaction → Type 0
IsEnd n end = IsName n end.0 × IsAnew n end.1

end_named : (n : ℕ) (bytes : List ℕ) → length bytes ≤ n → Holds (IsEnd n) (end_at bytes)
unfolding end_at
end_named n bytes le = holds_then (Front (IsName n) n) (IsEnd n) (name_at bytes) _ (name_front n bytes le) (λ name had.
    holds_then (Front {A = ℕ} Any n) (IsEnd n) (byte_at name.1) _ (byte_front n name.1 had.1) (λ flags was.
    holds_then (IsAnew n) (IsEnd n) (anew_at flags.0 flags.1) _ (anew_named flags.0 n flags.1 was.1) (λ anew is. (had.0, is))))

-- each of its names is a part of so many bytes
abbrev IsNamed : ℕ → TransactionRequest → Type 0
IsNamed n (begins new) = IsNew n new
IsNamed n (commits name anew) = IsName n name × IsAnew n anew
IsNamed n (rolls_back name anew) = IsName n name × IsAnew n anew
IsNamed n (saves name) = IsName n name

numbered_named : (number n : ℕ) (bytes rest : List ℕ) → length rest ≤ n → Holds (IsNamed n) (numbered_of number bytes rest)
unfolding numbered_of
numbered_named number n bytes rest le =
    holds_if (IsNamed n) (number == begin_xact) _ _ (holds_then (IsNew n) (IsNamed n) (new_at rest) _ (new_named n rest le) (λ new is. is))
    (holds_if (IsNamed n) (number == commit_xact) _ _ (holds_then (IsEnd n) (IsNamed n) (end_at rest) _ (end_named n rest le) (λ end is. is))
    (holds_if (IsNamed n) (number == rollback_xact) _ _ (holds_then (IsEnd n) (IsNamed n) (end_at rest) _ (end_named n rest le) (λ end is. is))
    (holds_if (IsNamed n) (number == save_xact) _ _ (holds_then (Front (IsName n) n) (IsNamed n) (name_at rest) _ (name_front n rest le) (λ name is. is.0)) tt)))

behind_few : (payload : List ℕ) → Holds (AtMost (length payload)) (behind_headers payload)
unfolding behind_headers
behind_few payload = holds_if (AtMost (length payload)) (nat_lt (length payload) 4 || nat_lt (little_number 4 payload) 4 || nat_lt (length payload) (little_number 4 payload)) _ _ tt (omega (arith, length-drop (little_number 4 payload) payload))

numbered_few : (n : ℕ) (bytes : List ℕ) → length bytes ≤ n → Holds (IsNamed n) (numbered_at bytes)
unfolding numbered_at
numbered_few n bytes le = holds_then (Front (AtMost n) n) (IsNamed n) (bytes_at 2 bytes) _ (bytes_front 2 n bytes le) (λ number had. numbered_named (from_le_bytes w16 number.0) n bytes number.1 had.1)

request_named : (payload : List ℕ) → Holds (IsNamed (length payload)) (request_of payload)
unfolding request_of
request_named payload = holds_then (AtMost (length payload)) (IsNamed (length payload)) (behind_headers payload) _ (behind_few payload) (λ rest few. numbered_few (length payload) rest few)

-- ---- its text

few_if : (n : ℕ) (test : Bool) (x y : List ℕ) → length x ≤ n → length y ≤ n → length (if test then x else y) ≤ n
few_if n true x y one two = one
few_if n false x y one two = two

doubled_few : (units : List ℕ) → length (flat_map doubled units) ≤ 2 * length units
doubled_few [] = omega arith
doubled_few (unit ∷ units) = omega (arith, length-append (doubled unit) (flat_map doubled units), few_if 2 (unit == bracket) (bracket ∷ bracket ∷ []) (unit ∷ []) (omega arith) (omega arith), doubled_few units)

around : (front middle back : List ℕ) → length (front ++ middle ++ back) ≡ length front + length middle + length back
around front middle back = omega (arith, length-append (front ++ middle) back, length-append front middle)

called_few : (n : ℕ) (name : List ℕ) → IsName n name → length (called name) ≤ n + 3
unfolding called
called_few n name is = few_if (n + 3) (length name == 0) [] (codes " [" ++ flat_map doubled name ++ codes "]") (omega arith) (omega (arith, is, around (codes " [") (flat_map doubled name) (codes "]"), doubled_few name))

words_few : (level : ℕ) → length (level_words level) ≤ 16
unfolding level_words
words_few level =
    few_if 16 (level == 1) (codes "READ UNCOMMITTED") _ (omega arith)
    (few_if 16 (level == 2) (codes "READ COMMITTED") _ (omega arith)
    (few_if 16 (level == 3) (codes "REPEATABLE READ") _ (omega arith)
    (few_if 16 (level == 4) (codes "SERIALIZABLE") (codes "SNAPSHOT") (omega arith) (omega arith))))

set_few : length set_level ≤ 32
unfolding set_level
set_few = omega arith

if_few : length if_set ≤ 17
unfolding if_set
if_few = omega arith

level_few : (level : ℕ) → length (level_text level) ≤ 65
unfolding level_text
level_few level = few_if 65 (level == 0) [] _ (omega arith) (omega (arith, around set_level (level_words level) if_set, set_few, words_few level, if_few))

new_few : (n : ℕ) (new : NewTransaction) → IsNew n new → length (new_text new) ≤ n + 90
unfolding new_text
new_few n new is = omega (arith, around (level_text new.level) (codes "BEGIN TRANSACTION") (called new.name), level_few new.level, called_few n new.name is)

closed_few : length if_closed ≤ 19
unfolding if_closed
closed_few = omega arith

next_few : (n : ℕ) (new : NewTransaction) → IsNew n new → length (next_text new) ≤ n + 109
unfolding next_text
next_few n new is = omega (arith, around (level_text new.level ++ if_closed) (codes "BEGIN TRANSACTION") (called new.name), length-append (level_text new.level) if_closed, level_few new.level, closed_few, called_few n new.name is)

anew_few : (n : ℕ) (anew : Option NewTransaction) → IsAnew n anew → length (anew_text anew) ≤ n + 111
unfolding anew_text
anew_few n None is = omega arith
anew_few n (Some new) is = omega (arith, length-append (codes "; ") (next_text new), next_few n new is)

guard_few : (anew : Option NewTransaction) → length (guard anew) ≤ 20
unfolding guard
guard_few None = omega arith
guard_few (Some new) = omega arith

text_few : (n : ℕ) (request : TransactionRequest) → IsNamed n request → length (text_of request) ≤ 2 * n + 200
unfolding text_of
text_few n (begins new) is = omega (arith, new_few n new is)
text_few n (commits name anew) is = omega (arith, around (codes "COMMIT TRANSACTION") (called name) (anew_text anew), called_few n name is.0, anew_few n anew is.1)
text_few n (rolls_back name anew) is = omega (
  arith,
  length-append (guard anew ++ codes "ROLLBACK TRANSACTION" ++ called name) (anew_text anew),
  around (guard anew) (codes "ROLLBACK TRANSACTION") (called name),
  guard_few anew,
  called_few n name is.0,
  anew_few n anew is.1,
)
text_few n (saves name) is = omega (arith, length-append (codes "SAVE TRANSACTION") (called name), called_few n name is)

-- ---- requests

placed_few : (n : ℕ) (read : Result TransactionRequest Refusal) (text : List ℕ) → placed n read ≡ Ok text → Holds (IsNamed n) read → length text ≤ 2 * n + 200
placed_few n (Ok request) text is named = subst (λ (units : List ℕ). length units ≤ 2 * n + 200) (let same : text_of request ≡ text = cc in same) (text_few n request named)
placed_few n (Err refusal) text is named = absurd cc

pub managed_few : (payload text : List ℕ) → managed payload ≡ Ok text → length text ≤ 2 * length payload + 200
unfolding managed
managed_few payload text is = placed_few (length payload) (request_of payload) text is (request_named payload)
