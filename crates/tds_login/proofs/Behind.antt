-- Bytes behind the Length field change nothing.
use Rattle.std.proofs.Common.{◌≡◌, ◌+◌, ◌*◌, ◌≤◌, ◌<◌, inl, inr, ◌⊎◌, ◌||◌, not, ◌==◌, Bool, true, false, cond, ltb, leb, ℕ, List, [], ◌∷◌, ◌++◌, length, take, drop, slice_index, Option, None, Some, Result, Err, refl, sym, ap, ◌∙◌, arith, length-append, length-drop}
use Rattle.std.specs.List.{find, list_all}
use Rattle.std.proofs.lemmas.Bool.{le-ltb, leb-true, and_parts, or_from}
use Rattle.std.proofs.lemmas.List.{get_or-drop, get_or_append_left, drop-append-le, take-append-le}
use Rattle.tds_login.specs.declared.login.Field.{Field}
use Rattle.tds_login.specs.declared.login.Login.{Login}
use Rattle.tds_login.specs.declared.login.LoginFault.{LoginFault}
use Rattle.tds_login.specs.declared.login.LoginFault.TheVariants.{Short, Length, Version}
use Rattle.tds_login.specs.Login.{login_length, long_at, short_at, tds_version, served_version, fields, is_outside, field_bytes, login_by, login_of}
use Rattle.tds_login.specs.Inside.{is_placed, IsInside}
use Rattle.tds_login.proofs.Refusals.{inside, none_at}

-- a byte is where it was
byte_same : (login rest : List ℕ) (offset k : ℕ) → offset + k < length login → slice_index (drop offset (login ++ rest)) k ≡ slice_index (drop offset login) k
byte_same login rest offset k lt =
    get_or-drop offset (login ++ rest) k 0 ∙ get_or_append_left login rest 0 (offset + k) lt ∙ sym (get_or-drop offset login k 0)

long_same : (login rest : List ℕ) (offset : ℕ) → offset + 4 ≤ length login → long_at (login ++ rest) offset ≡ long_at login offset
long_same login rest offset within =
    rw (byte_same login rest offset 0 (omega arith), byte_same login rest offset 1 (omega arith), byte_same login rest offset 2 (omega arith), byte_same login rest offset 3 (omega arith)) refl

short_same : (login rest : List ℕ) (offset : ℕ) → offset + 2 ≤ length login → short_at (login ++ rest) offset ≡ short_at login offset
short_same login rest offset within = rw (byte_same login rest offset 0 (omega arith), byte_same login rest offset 1 (omega arith)) refl

outside_same : (login rest : List ℕ) (field : Field) → 94 ≤ length login → is_placed field ≡ true → is_outside (login ++ rest) field ≡ is_outside login field
outside_same login rest field long placed =
    let place : field.place + 4 ≤ 94 = leb-true (field.place + 4) 94 (and_parts (leb (field.place + 4) 94) (leb field.unit 2) placed).0 in
    rw (short_same login rest (field.place + 2) (omega arith), short_same login rest field.place (omega arith), long_same login rest 0 (omega arith)) refl

find_same : (test other : Field → Bool) (xs : List Field) → list_all is_placed xs ≡ true → ((field : Field) → is_placed field ≡ true → test field ≡ other field) → find test xs ≡ find other xs
find_same test other [] all same = refl
find_same test other (x ∷ xs) all same =
    let parts = and_parts (is_placed x) (list_all is_placed xs) all in
    rw (same x parts.0, find_same test other xs parts.1 same) refl

part_same : (login rest : List ℕ) (offset count : ℕ) → (count ≡ 0) ⊎ (offset + 2 * count ≤ length login) → take (2 * count) (drop offset (login ++ rest)) ≡ take (2 * count) (drop offset login)
part_same login rest offset count (inl none) = rw none refl
part_same login rest offset count (inr within) =
    let behind : drop offset (login ++ rest) ≡ drop offset login ++ rest = drop-append-le offset login rest (omega arith) in
    rw behind (take-append-le (2 * count) (drop offset login) rest (omega (arith, length-drop offset login)))

field_same : (login rest : List ℕ) (place : ℕ) → 94 ≤ length login → place + 4 ≤ 94 → IsInside login place → field_bytes (login ++ rest) place ≡ field_bytes login place
field_same login rest place long placed within =
    rw (short_same login rest (place + 2) (omega arith), short_same login rest place (omega arith)) (part_same login rest (short_at login place) (short_at login (place + 2)) within)

said_same : (login rest : List ℕ) (field : Option Field) → 94 ≤ length login → login_length login ≡ length login → find (is_outside login) fields ≡ field → login_by (login ++ rest) field ≡ login_by login field
unfolding fields
said_same login rest (Some field) long whole is = refl
said_same login rest None long whole is =
    let no : Field = record { number = 0; place = 0; unit = 0 } in
    let user = field_same login rest 40 long (omega arith) (inside login 1 40 (omega arith) (none_at (is_outside login) fields 1 no is (omega arith))) in
    let password = field_same login rest 44 long (omega arith) (inside login 2 44 (omega arith) (none_at (is_outside login) fields 2 no is (omega arith))) in
    let database = field_same login rest 68 long (omega arith) (inside login 8 68 (omega arith) (none_at (is_outside login) fields 8 no is (omega arith))) in
    rw (long_same login rest 4 (omega arith), long_same login rest 8 (omega arith), user, password, database) refl

two_passed : {A B : Type 0} (a b : Bool) (x y : B) (rest : Result A B) → a ≡ false → b ≡ false → cond a (Err x) (cond b (Err y) rest) ≡ rest
two_passed a b x y rest first second = rw (first, second) refl

-- what is left to say behind the tests of the lengths
abbrev versioned : List ℕ → Result Login LoginFault
versioned payload = cond (not (tds_version payload == served_version)) (Err Version) (login_by payload (find (is_outside payload) fields))

lengths_passed : (payload : List ℕ) → 94 ≤ length payload → 94 ≤ login_length payload → login_length payload ≤ length payload → login_of payload ≡ versioned payload
unfolding login_of
lengths_passed payload long least whole =
    two_passed (ltb (length payload) 94) (ltb (login_length payload) 94 || ltb (length payload) (login_length payload)) Short Length (versioned payload)
    (le-ltb (length payload) 94 long)
    (or_from _ _ (le-ltb (login_length payload) 94 least) (le-ltb (length payload) (login_length payload) whole))

all_placed : list_all is_placed fields ≡ true
unfolding fields
all_placed = refl

versioned_same : (login rest : List ℕ) → 94 ≤ length login → login_length login ≡ length login → versioned (login ++ rest) ≡ versioned login
versioned_same login rest long whole =
    let found : find (is_outside (login ++ rest)) fields ≡ find (is_outside login) fields = find_same (is_outside (login ++ rest)) (is_outside login) fields all_placed (λ field is. outside_same login rest field long is) in
    let said = said_same login rest (find (is_outside login) fields) long whole refl in
    ap (λ version. cond (not (version == served_version)) (Err Version) (login_by (login ++ rest) (find (is_outside (login ++ rest)) fields))) (long_same login rest 4 (omega arith))
    ∙ ap (λ field. cond (not (tds_version login == served_version)) (Err Version) (login_by (login ++ rest) field)) found
    ∙ ap (λ said. cond (not (tds_version login == served_version)) (Err Version) said) said

pub behind_same : (login rest : List ℕ) → 94 ≤ length login → login_length login ≡ length login → login_of (login ++ rest) ≡ login_of login
behind_same login rest long whole =
    let total : login_length (login ++ rest) ≡ length login = long_same login rest 0 (omega arith) ∙ whole in
    let more : length (login ++ rest) ≡ length login + length rest = length-append login rest in
    lengths_passed (login ++ rest) (omega arith) (omega arith) (omega arith)
    ∙ versioned_same login rest long whole
    ∙ sym (lengths_passed login long (omega arith) (omega arith))
