-- The parameters of a driver's call that is read are of their types.
use Rattle.std.proofs.Common.{◌≡◌, ℕ, zero, suc, ◌+◌, ◌*◌, ◌-◌, ◌/◌, ◌%◌, ◌^◌, ◌<◌, ◌≤◌, Bool, true, false, cond, eqb, ltb, leb, List, [], ◌∷◌, ◌++◌, length, get_or, take, drop, map, All, Option, Some, None, Result, Ok, Err, refl, sym, subst, arith}
use Rattle.std.specs.Prelude.{min, not, ◌||◌, ◌&&◌, IfOk}
use Rattle.std.specs.Int.{w16, from_le_bytes}
use Rattle.std.proofs.Math.Nat.{min-le_right, le-min}
use Rattle.std.proofs.lemmas.Bool.{ltb-true, ltb-false, eqb-false}
use Rattle.std.proofs.lemmas.List.{length-map, take-append-drop}
use Rattle.std.proofs.lemmas.List.Elements.{All-nil, All-cons}
use Rattle.byteorder.specs.Endian.{little_number}
use Rattle.value_types.specs.declared.sql_type.SqlType.{SqlType}
use Rattle.value_types.specs.declared.sql_type.SqlType.TheVariants.{TinyInt, SmallInt, Int, BigInt, Bit as BitType, NText}
use Rattle.value_types.specs.declared.value.Value.{Value}
use Rattle.value_types.specs.declared.value.Value.TheVariants.{Null, Whole, Bit, Text}
use Rattle.value_types.specs.Units.{units_of}
use Rattle.rpc_requests.specs.declared.call.RpcParameter.{RpcParameter}
use Rattle.rpc_requests.specs.declared.call.DriverCall.{DriverCall}
use Rattle.rpc_requests.specs.declared.call.DriverProcedure.{DriverProcedure}
use Rattle.rpc_requests.specs.declared.call.DriverTarget.{DriverTarget}
use Rattle.rpc_requests.specs.declared.types.Form.{Form}
use Rattle.rpc_requests.specs.declared.types.Form.TheVariants as forms
use Rattle.rpc_requests.specs.declared.driver_types.DriverForm.{DriverForm}
use Rattle.rpc_requests.specs.declared.driver_types.DriverForm.TheVariants.{Number, Sized, Long, Chunks}
use Rattle.rpc_requests.specs.declared.fault.Refusal.{Refusal}
use Rattle.rpc_requests.specs.declared.fault.RpcFault.{RpcFault}
use Rattle.rpc_requests.specs.declared.fault.RpcKind.TheVariants as kinds
use Rattle.tds_tokens.specs.Spelling.{intntype, bitntype, nvarchartype}
use Rattle.rpc_requests.specs.Spelling.{bigvarchartype, by_number, charbin_null}
use Rattle.rpc_requests.specs.Fit.{name_limit, text_limit, AreDriverParameters, IsDriverParameter, IsKind, IsName, IsOf, IsFrontValue}
use Rattle.rpc_requests.specs.Reading.{◌>>=◌, Answers, behind_headers, bit_form, byte_at, bytes_at, formed, has_bit, kind_of, placed, refuse, short_at, units_at, value_at, whole_form}
use Rattle.rpc_requests.specs.Drivers.{bigchartype, bounded_text, chunk_at, chunked_of, chunks_at, driver_call_at, driver_call_of, driver_counted_at, driver_named_at, driver_parameter_at, driver_parameters_at, driver_tagged_at, driver_target_at, driver_target_of, driver_type_at, driver_value_at, is_half, joined_of, kind_of_form, long_at, long_form_at, long_long_at, long_null, long_of, max_size, most_at, narrow_form, narrow_or_chunks, nchartype, ntexttype, number_form, number_form_at, front_count, plp_null, plp_unknown, procedure_of_number, sized_of, target_of_number, text_form_at, text_of, texttype, unit_of_byte, units_in, whole_driver_call, wide_form, wide_or_chunks, windows_1252}
use Rattle.rpc_requests.proofs.Forms.{IsForm, number_kind}
use Rattle.rpc_requests.proofs.Takes.{IsBytes, IsBytes-rest, byte_takes, bytes_take, neither, short_takes, units_take}
use Rattle.rpc_requests.proofs.TakesCall.{value_takes}

-- ---- what is read of bytes

-- what is read is so, and bytes are left
abbrev Made : {A : Type 0} → (A → Type 0) → Result (A × List ℕ) Refusal → Type 0
Made P (Ok x) = P x.0 × IsBytes x.1
Made P (Err refusal) = Unit {0}

made_by : {A : Type 0} (P : A → Type 0) (r : Result (A × List ℕ) Refusal) → ((x : A × List ℕ) → r ≡ Ok x → P x.0 × IsBytes x.1) → Made P r
made_by P (Ok x) shown = shown x refl
made_by P (Err refusal) shown = tt

made_then : {A B : Type 0} (P : A → Type 0) (Q : B → Type 0) (r : Result (A × List ℕ) Refusal) (f : A × List ℕ → Result (B × List ℕ) Refusal) → Made P r → ((x : A × List ℕ) → P x.0 → IsBytes x.1 → Made Q (f x)) → Made Q (r >>= f)
made_then P Q (Ok x) f h g = g x h.0 h.1
made_then P Q (Err refusal) f h g = tt

made_if : {A : Type 0} (P : A → Type 0) (test : Bool) (x y : Result (A × List ℕ) Refusal) → (test ≡ true → Made P x) → (test ≡ false → Made P y) → Made P (cond test x y)
made_if P true x y one two = one refl
made_if P false x y one two = two refl

made_more : {A : Type 0} (P Q : A → Type 0) (r : Result (A × List ℕ) Refusal) → ((a : A) → P a → Q a) → Made P r → Made Q r
made_more P Q (Ok x) more h = (more x.0 h.0, h.1)
made_more P Q (Err refusal) more h = tt

abbrev Any : {A : Type 0} → A → Type 0
Any a = Unit {0}

-- so many bytes
abbrev IsPart : ℕ → List ℕ → Type 0
IsPart count text = (length text ≡ count) × IsBytes text

bytes_made : (count : ℕ) (bytes : List ℕ) → IsBytes bytes → Made (IsPart count) (bytes_at count bytes)
bytes_made count bytes fits = made_by (IsPart count) (bytes_at count bytes) (λ x e. let t = bytes_take count bytes x fits e in ((t.1, t.2), t.3))

byte_made : (bytes : List ℕ) → IsBytes bytes → Made {A = ℕ} Any (byte_at bytes)
byte_made bytes fits = made_by Any (byte_at bytes) (λ x e. let t = byte_takes bytes x fits e in (tt, t.2))

short_made : (bytes : List ℕ) → IsBytes bytes → Made {A = ℕ} Any (short_at bytes)
short_made bytes fits = made_by Any (short_at bytes) (λ x e. let t = short_takes bytes x fits e in (tt, t.2))

-- so many units
abbrev AreUnits : ℕ → List ℕ → Type 0
AreUnits count units = (length units ≡ count) × All (λ unit. unit < 2 ^ 16) units

units_made : (count : ℕ) (bytes : List ℕ) → IsBytes bytes → Made (AreUnits count) (units_at count bytes)
units_made count bytes fits = made_by (AreUnits count) (units_at count bytes) (λ x e. let t = units_take count bytes x fits e in ((t.1, t.2), t.3))

long_made : (bytes : List ℕ) → IsBytes bytes → Made {A = ℕ} Any (long_at bytes)
unfolding long_at
long_made bytes fits = made_then (IsPart 4) (Any {A = ℕ}) (bytes_at 4 bytes) _ (bytes_made 4 bytes fits) (λ x part rest. (tt, rest))

long_long_made : (bytes : List ℕ) → IsBytes bytes → Made {A = ℕ} Any (long_long_at bytes)
unfolding long_long_at
long_long_made bytes fits = made_then (IsPart 8) (Any {A = ℕ}) (bytes_at 8 bytes) _ (bytes_made 8 bytes fits) (λ x part rest. (tt, rest))

-- ---- types

-- a number or a bit, or a text of a type
abbrev IsDriverForm : DriverForm → Type 0
IsDriverForm (Number kind) = IsForm (forms.Number kind)
IsDriverForm (Sized wide size) = IsKind (kind_of_form (Sized wide size))
IsDriverForm (Long wide) = Unit {0}
IsDriverForm (Chunks wide) = Unit {0}

kind_fits : (form : DriverForm) → IsDriverForm form → IsKind (kind_of_form form)
kind_fits (Number kind) is = number_kind kind is
kind_fits (Sized wide size) is = is
kind_fits (Long wide) is = (omega arith, omega arith)
kind_fits (Chunks wide) is = (omega arith, omega arith)

abbrev IfForm : Option DriverForm → Type 0
IfForm None = Unit {0}
IfForm (Some form) = IsDriverForm form

form_if : (test : Bool) (x y : Option DriverForm) → (test ≡ true → IfForm x) → (test ≡ false → IfForm y) → IfForm (cond test x y)
form_if true x y one two = one refl
form_if false x y one two = two refl

wide_fits : (size : ℕ) → IfForm (wide_form size)
wide_fits size = form_if ((eqb (size % 2) 1 || eqb size 0) || ltb (2 * text_limit) size) None (Some (Sized true size)) (λ e. tt) (λ e.
    let a = neither (eqb (size % 2) 1 || eqb size 0) (ltb (2 * text_limit) size) e in
    let b = neither (eqb (size % 2) 1) (eqb size 0) a.0 in
    let odd = eqb-false (size % 2) 1 b.0 in
    let some = eqb-false size 0 b.1 in
    let small : size ≤ 2 * text_limit = ltb-false _ _ a.1 in
    let twice : 2 * (size / 2) ≡ size = grind (arith, odd) in
    (grind (arith, twice, some), omega (arith, twice, small)))

narrow_fits : (size : ℕ) → IfForm (narrow_form size)
narrow_fits size = form_if (eqb size 0 || ltb (2 * text_limit) size) None (Some (Sized false size)) (λ e. tt) (λ e.
    let a = neither (eqb size 0) (ltb (2 * text_limit) size) e in
    let none = eqb-false size 0 a.0 in
    let some : 1 ≤ size = grind (arith, none) in
    (le-min some (omega arith), min-le_right size text_limit))

wide_or_fits : (size : ℕ) → IfForm (wide_or_chunks size)
wide_or_fits size = form_if (eqb size max_size) (Some (Chunks true)) (wide_form size) (λ e. tt) (λ e. wide_fits size)

narrow_or_fits : (size : ℕ) → IfForm (narrow_or_chunks size)
narrow_or_fits size = form_if (eqb size max_size) (Some (Chunks false)) (narrow_form size) (λ e. tt) (λ e. narrow_fits size)

abbrev IfNumber : Option Form → Type 0
IfNumber None = Unit {0}
IfNumber (Some form) = IsForm (forms.Number (kind_of form))

number_if : (test : Bool) (x y : Option Form) → IfNumber x → IfNumber y → IfNumber (cond test x y)
number_if true x y one two = one
number_if false x y one two = two

whole_fits : (size : ℕ) → IfNumber (whole_form size)
whole_fits size = number_if (eqb size 1) _ _ tt (number_if (eqb size 2) _ _ tt (number_if (eqb size 4) _ _ tt (number_if (eqb size 8) _ _ tt tt)))

bit_fits : (size : ℕ) → IfNumber (bit_form size)
bit_fits size = number_if (eqb size 1) _ _ tt tt

number_fits : (form : Option Form) → IfNumber form → IfForm (number_form form)
number_fits None is = tt
number_fits (Some form) is = is

formed_made : (bytes : List ℕ) (form : Option DriverForm) (rest : List ℕ) → IfForm form → IsBytes rest → Made IsDriverForm (formed bytes form rest)
formed_made bytes None rest is fits = tt
formed_made bytes (Some form) rest is fits = (is, fits)

number_form_made : (form_of : ℕ → Option Form) (bytes : List ℕ) → ((size : ℕ) → IfNumber (form_of size)) → IsBytes bytes → Made IsDriverForm (number_form_at form_of bytes)
unfolding number_form_at
number_form_made form_of bytes all fits = made_then (IsPart 2) IsDriverForm (bytes_at 2 bytes) _ (bytes_made 2 bytes fits) (λ x part rest.
    formed_made bytes (number_form (form_of (get_or x.0 1 0))) x.1 (number_fits (form_of (get_or x.0 1 0)) (all (get_or x.0 1 0))) rest)

abbrev size_in : List ℕ → ℕ
size_in front = from_le_bytes w16 (take 2 (drop 1 front))

text_form_made : (form_of : ℕ → Option DriverForm) (bytes : List ℕ) → ((size : ℕ) → IfForm (form_of size)) → IsBytes bytes → Made IsDriverForm (text_form_at form_of bytes)
unfolding text_form_at
text_form_made form_of bytes all fits = made_then (IsPart 8) IsDriverForm (bytes_at 8 bytes) _ (bytes_made 8 bytes fits) (λ x part rest.
    formed_made bytes (form_of (size_in x.0)) x.1 (all (size_in x.0)) rest)

long_form_made : (wide : Bool) (bytes : List ℕ) → IsBytes bytes → Made IsDriverForm (long_form_at wide bytes)
unfolding long_form_at
long_form_made wide bytes fits = made_then (IsPart 10) IsDriverForm (bytes_at 10 bytes) _ (bytes_made 10 bytes fits) (λ x part rest. (tt, rest))

tagged_made : (tag : ℕ) (bytes : List ℕ) → IsBytes bytes → Made IsDriverForm (driver_tagged_at tag bytes)
unfolding driver_tagged_at
tagged_made tag bytes fits =
    made_if IsDriverForm (eqb tag intntype) _ _ (λ e. number_form_made whole_form bytes whole_fits fits) (λ e.
    made_if IsDriverForm (eqb tag bitntype) _ _ (λ e. number_form_made bit_form bytes bit_fits fits) (λ e.
    made_if IsDriverForm (eqb tag nvarchartype) _ _ (λ e. text_form_made wide_or_chunks bytes wide_or_fits fits) (λ e.
    made_if IsDriverForm (eqb tag bigvarchartype) _ _ (λ e. text_form_made narrow_or_chunks bytes narrow_or_fits fits) (λ e.
    made_if IsDriverForm (eqb tag nchartype) _ _ (λ e. text_form_made wide_form bytes wide_fits fits) (λ e.
    made_if IsDriverForm (eqb tag bigchartype) _ _ (λ e. text_form_made narrow_form bytes narrow_fits fits) (λ e.
    made_if IsDriverForm (eqb tag ntexttype) _ _ (λ e. long_form_made true bytes fits) (λ e.
    made_if IsDriverForm (eqb tag texttype) _ _ (λ e. long_form_made false bytes fits) (λ e. tt))))))))

type_made : (bytes : List ℕ) → IsBytes bytes → Made IsDriverForm (driver_type_at bytes)
unfolding driver_type_at
type_made bytes fits = made_then (Any {A = ℕ}) IsDriverForm (byte_at bytes) _ (byte_made bytes fits) (λ tag any rest. tagged_made tag.0 bytes fits)

-- ---- units

both : (a b : Bool) → (a && b) ≡ true → (a ≡ true) × (b ≡ true)
both true b e = (refl, e)
both false b e = absurd cc

abbrev are_small : List ℕ → Bool
are_small [] = true
are_small (unit ∷ units) = ltb unit (2 ^ 16) && are_small units

small_at : (table : List ℕ) (i : ℕ) → are_small table ≡ true → get_or table i 0 < 2 ^ 16
small_at [] i e = none
  where
    none : 0 < 2 ^ 16
    none = omega arith
small_at (unit ∷ table) zero e = ltb-true unit (2 ^ 16) (both (ltb unit (2 ^ 16)) (are_small table) e).0
small_at (unit ∷ table) (suc i) e = small_at table i (both (ltb unit (2 ^ 16)) (are_small table) e).1

table_small : (i : ℕ) → get_or windows_1252 i 0 < 2 ^ 16
unfolding windows_1252
table_small i = small_at windows_1252 i refl

small_if : (test : Bool) (a b : ℕ) → a < 2 ^ 16 → b < 2 ^ 16 → cond test a b < 2 ^ 16
small_if true a b one two = one
small_if false a b one two = two

letter_small : (byte : ℕ) → byte < 256 → unit_of_byte byte < 2 ^ 16
unfolding unit_of_byte
letter_small byte lt = small_if (ltb byte 0x80 || leb 0xA0 byte) byte (get_or windows_1252 (byte - 0x80) 0) (omega arith) (table_small (byte - 0x80))

letters_fit : (bytes : List ℕ) → IsBytes bytes → All (λ unit. unit < 2 ^ 16) (map unit_of_byte bytes)
letters_fit [] fits = All-nil (λ unit. unit < 2 ^ 16)
letters_fit (byte ∷ bytes) fits = All-cons (λ unit. unit < 2 ^ 16) (unit_of_byte byte) (map unit_of_byte bytes) (letter_small byte (fits 0)) (letters_fit bytes (λ i. fits (suc i)))

pairs_fit : (bytes : List ℕ) → IsBytes bytes → All (λ unit. unit < 2 ^ 16) (units_of bytes)
pairs_fit [] fits = All-nil (λ unit. unit < 2 ^ 16)
pairs_fit (low ∷ []) fits = All-nil (λ unit. unit < 2 ^ 16)
pairs_fit (low ∷ high ∷ bytes) fits = All-cons (λ unit. unit < 2 ^ 16) (low + 256 * high) (units_of bytes) (omega (arith, fits 0, fits 1)) (pairs_fit bytes (λ i. fits (suc (suc i))))

units_fit : (wide : Bool) (bytes : List ℕ) → IsBytes bytes → All (λ unit. unit < 2 ^ 16) (units_in wide bytes)
units_fit true bytes fits = pairs_fit bytes fits
units_fit false bytes fits = letters_fit bytes fits

pairs_fewer : (bytes : List ℕ) → 2 * length (units_of bytes) ≤ length bytes
pairs_fewer [] = omega arith
pairs_fewer (low ∷ []) = omega arith
pairs_fewer (low ∷ high ∷ bytes) = omega (arith, pairs_fewer bytes)

-- how many units so many bytes have room for
abbrev room_in : Bool → ℕ → ℕ
room_in true size = size / 2
room_in false size = size

units_fewer : (wide : Bool) (size : ℕ) (bytes : List ℕ) → length bytes ≤ size → length (units_in wide bytes) ≤ room_in wide size
units_fewer true size bytes le = omega (arith, pairs_fewer bytes)
units_fewer false size bytes le = omega (arith, length-map bytes unit_of_byte)

-- ---- values

-- NULL, or a text of at most so many units, and of at most so many
abbrev IsBoth : ℕ → ℕ → Value → Type 0
IsBoth n most value = IsOf (NText n) value × IsOf (NText most) value

bounded_made : (n most : ℕ) (start units rest : List ℕ) → length units ≤ n → All (λ unit. unit < 2 ^ 16) units → IsBytes rest → Made (IsBoth n most) (bounded_text most start units rest)
bounded_made n most start units rest few are fits =
    made_if (IsBoth n most) (ltb most (length units)) _ _ (λ e. tt) (λ e. (((few, are), (ltb-false most (length units) e, are)), fits))

text_made : (n most : ℕ) (wide : Bool) (count : ℕ) (start rest : List ℕ) → room_in wide count ≤ n → IsBytes rest → Made (IsBoth n most) (text_of most wide count start rest)
unfolding text_of
text_made n most wide count start rest room fits = made_if (IsBoth n most) (is_half wide count) _ _ (λ e. tt) (λ e.
    made_then (IsPart count) (IsBoth n most) (bytes_at count rest) _ (bytes_made count rest fits) (λ x part left.
    let few = units_fewer wide count x.0 (omega (arith, part.0)) in
    bounded_made n most start (units_in wide x.0) x.1 (omega (arith, few, room)) (units_fit wide x.0 part.1) left))

room_more : (wide : Bool) (count size : ℕ) → count ≤ size → room_in wide count ≤ room_in wide size
room_more true count size le = omega arith
room_more false count size le = le

sized_made : (most : ℕ) (wide : Bool) (size count : ℕ) (start rest : List ℕ) → IsBytes rest → Made (IsBoth (room_in wide size) most) (sized_of most wide size count start rest)
unfolding sized_of
sized_made most wide size count start rest fits = made_if (IsBoth (room_in wide size) most) (eqb count charbin_null) _ _ (λ e. ((tt, tt), fits)) (λ e.
    made_if (IsBoth (room_in wide size) most) (ltb size count) _ _ (λ g. tt) (λ g.
    text_made (room_in wide size) most wide count start rest (room_more wide count size (ltb-false size count g)) fits))

long_of_made : (most : ℕ) (wide : Bool) (count : ℕ) (start rest : List ℕ) → IsBytes rest → Made (IsOf (NText most)) (long_of most wide count start rest)
unfolding long_of
long_of_made most wide count start rest fits = made_if (IsOf (NText most)) (eqb count long_null) _ _ (λ e. (tt, fits)) (λ e.
    made_more (IsBoth (room_in wide count) most) (IsOf (NText most)) (text_of most wide count start rest) (λ value is. is.1) (text_made (room_in wide count) most wide count start rest (omega arith) fits))

IsBytes-both : (front rest : List ℕ) → IsBytes front → IsBytes rest → IsBytes (front ++ rest)
IsBytes-both [] rest a b i = b i
IsBytes-both (byte ∷ front) rest a b zero = a 0
IsBytes-both (byte ∷ front) rest a b (suc i) = IsBytes-both front rest (λ j. a (suc j)) b i

chunk_made : (bytes : List ℕ) → IsBytes bytes → Made IsBytes (chunk_at bytes)
unfolding chunk_at
chunk_made bytes fits = made_then (Any {A = ℕ}) IsBytes (long_at bytes) _ (long_made bytes fits) (λ x any rest.
    made_more (IsPart x.0) IsBytes (bytes_at x.0 x.1) (λ text part. part.1) (bytes_made x.0 x.1 rest))

chunks_made : (most : ℕ) (bytes : List ℕ) → IsBytes bytes → Made IsBytes (chunks_at most bytes)
unfolding chunks_at
chunks_made zero bytes fits = tt
chunks_made (suc most) bytes fits = made_then IsBytes IsBytes (chunk_at bytes) _ (chunk_made bytes fits) (λ x are rest.
    made_if IsBytes (eqb (length x.0) 0) _ _ (λ e. (are, rest)) (λ e.
    made_then IsBytes IsBytes (chunks_at most x.1) _ (chunks_made most x.1 rest) (λ y others left. (IsBytes-both x.0 y.0 are others, left))))

joined_made : (most : ℕ) (wide : Bool) (told : ℕ) (start joined rest : List ℕ) → IsBytes joined → IsBytes rest → Made (IsOf (NText most)) (joined_of most wide told start joined rest)
joined_made most wide told start joined rest are fits = made_if (IsOf (NText most)) (not (eqb told plp_unknown || eqb told (length joined)) || is_half wide (length joined)) _ _ (λ e. tt) (λ e.
    made_more (IsBoth (length (units_in wide joined)) most) (IsOf (NText most)) (bounded_text most start (units_in wide joined) rest) (λ value is. is.1)
    (bounded_made (length (units_in wide joined)) most start (units_in wide joined) rest (omega arith) (units_fit wide joined are) fits))

chunked_made : (most : ℕ) (wide : Bool) (told : ℕ) (start rest : List ℕ) → IsBytes rest → Made (IsOf (NText most)) (chunked_of most wide told start rest)
unfolding chunked_of
chunked_made most wide told start rest fits = made_if (IsOf (NText most)) (eqb told plp_null) _ _ (λ e. (tt, fits)) (λ e.
    made_then IsBytes (IsOf (NText most)) (chunks_at (length rest) rest) _ (chunks_made (length rest) rest fits) (λ x are left. joined_made most wide told start x.0 x.1 are left))

-- the value is one of the form; a text has at most so many units
abbrev IsValue : ℕ → DriverForm → Value → Type 0
IsValue most (Number kind) value = IsOf kind value
IsValue most (Sized wide size) value = IsBoth (room_in wide size) most value
IsValue most (Long wide) value = IsOf (NText most) value
IsValue most (Chunks wide) value = IsOf (NText most) value

value_made : (most : ℕ) (form : DriverForm) (bytes : List ℕ) → IsDriverForm form → IsBytes bytes → Made (IsValue most form) (driver_value_at most form bytes)
unfolding driver_value_at value_at
value_made most (Number kind) bytes is fits = made_by (IsOf kind) (driver_value_at most (Number kind) bytes) (λ x e. let v = value_takes (forms.Number kind) bytes x is fits e in (v.3, v.4))
value_made most (Sized wide size) bytes is fits = made_then (Any {A = ℕ}) (IsBoth (room_in wide size) most) (short_at bytes) _ (short_made bytes fits) (λ x any rest. sized_made most wide size x.0 bytes x.1 rest)
value_made most (Long wide) bytes is fits = made_then (Any {A = ℕ}) (IsOf (NText most)) (long_at bytes) _ (long_made bytes fits) (λ x any rest. long_of_made most wide x.0 bytes x.1 rest)
value_made most (Chunks wide) bytes is fits = made_then (Any {A = ℕ}) (IsOf (NText most)) (long_long_at bytes) _ (long_long_made bytes fits) (λ x any rest. chunked_made most wide x.0 bytes x.1 rest)

least_text : (n m : ℕ) (value : Value) → IsOf (NText n) value → IsOf (NText m) value → IsOf (NText (min n m)) value
least_text n m Null a b = tt
least_text n m (Whole number) a b = a
least_text n m (Bit bit) a b = a
least_text n m (Text units) a b = (le-min a.0 b.0, a.1)

-- with the limit of every text it is of the type
of_kind : (form : DriverForm) (value : Value) → IsValue text_limit form value → IsOf (kind_of_form form) value
of_kind (Number kind) value is = is
of_kind (Sized true size) value is = is.0
of_kind (Sized false size) value is = least_text size text_limit value is.0 is.1
of_kind (Long wide) value is = is
of_kind (Chunks wide) value is = is

front_number : (kind : SqlType) (value : Value) → IsForm (forms.Number kind) → IsOf kind value → IsFrontValue kind value
front_number TinyInt value is fit = fit
front_number SmallInt value is fit = fit
front_number Int value is fit = fit
front_number BigInt value is fit = fit
front_number BitType value is fit = fit
front_number (NText size) value is fit = absurd is

front_text : (n m : ℕ) (value : Value) → IsOf (NText n) value → IsFrontValue (NText m) value
front_text n m Null is = tt
front_text n m (Whole number) is = is
front_text n m (Bit bit) is = is
front_text n m (Text units) is = is.1

-- and with any limit it is of the type but for the length of a text
front_of_kind : (most : ℕ) (form : DriverForm) (value : Value) → IsDriverForm form → IsValue most form value → IsFrontValue (kind_of_form form) value
front_of_kind most (Number kind) value is fit = front_number kind value is fit
front_of_kind most (Sized true size) value is fit = front_text most (size / 2) value fit.1
front_of_kind most (Sized false size) value is fit = front_text most (min size text_limit) value fit.1
front_of_kind most (Long wide) value is fit = front_text most text_limit value fit
front_of_kind most (Chunks wide) value is fit = front_text most text_limit value fit

-- ---- parameters

parameter_fits : (ahead size : ℕ) (name : List ℕ) (status : ℕ) (form : DriverForm) (value : Value) → IsName name → IsDriverForm form → IsValue (most_at ahead size) form value
    → IsDriverParameter ahead (record { name = name; output = has_bit status 1; missing = has_bit status 2; kind = kind_of_form form; value = value })
parameter_fits zero size name status form value is_name is fit = record { name = is_name; kind = kind_fits form is; value = of_kind form value fit }
parameter_fits (suc ahead) size name status form value is_name is fit = (is_name, kind_fits form is, front_of_kind (most_at (suc ahead) size) form value is fit)

named_made : (ahead size : ℕ) (name bytes : List ℕ) → IsName name → IsBytes bytes → Made (IsDriverParameter ahead) (driver_named_at (most_at ahead size) name bytes)
unfolding driver_named_at
named_made ahead size name bytes is fits = made_then (Any {A = ℕ}) (IsDriverParameter ahead) (byte_at bytes) _ (byte_made bytes fits) (λ status any rest.
    made_then IsDriverForm (IsDriverParameter ahead) (driver_type_at status.1) _ (type_made status.1 rest) (λ form good behind.
    made_then (IsValue (most_at ahead size) form.0) (IsDriverParameter ahead) (driver_value_at (most_at ahead size) form.0 form.1) _ (value_made (most_at ahead size) form.0 form.1 good behind) (λ value fit left.
    (parameter_fits ahead size name status.0 form.0 value.0 is good fit, left))))

parameter_made : (ahead size : ℕ) (bytes : List ℕ) → IsBytes bytes → Made (IsDriverParameter ahead) (driver_parameter_at (most_at ahead size) bytes)
unfolding driver_parameter_at driver_counted_at
parameter_made ahead size bytes fits = made_then (Any {A = ℕ}) (IsDriverParameter ahead) (byte_at bytes) _ (byte_made bytes fits) (λ count any rest.
    made_if (IsDriverParameter ahead) (ltb name_limit count.0) _ _ (λ e. tt) (λ e.
    made_then (AreUnits count.0) (IsDriverParameter ahead) (units_at count.0 count.1) _ (units_made count.0 count.1 rest) (λ name are left.
    let small : count.0 ≤ name_limit = ltb-false _ _ e in
    named_made ahead size name.0 name.1 (omega (arith, are.0, small), are.1) left)))

abbrev AreMade : ℕ → Result (List RpcParameter) Refusal → Type 0
AreMade ahead (Ok parameters) = AreDriverParameters ahead parameters
AreMade ahead (Err refusal) = Unit {0}

made_with : (ahead : ℕ) (first : RpcParameter) (r : Result (List RpcParameter) Refusal) → IsDriverParameter ahead first → AreMade (ahead - 1) r → AreMade ahead (r >>= λ others. Ok (first ∷ others))
made_with ahead first (Ok others) one all = (one, all)
made_with ahead first (Err refusal) one all = tt

parameters_made : (ahead size most : ℕ) (bytes : List ℕ) → IsBytes bytes → AreMade ahead (driver_parameters_at ahead size most bytes)
unfolding driver_parameters_at
parameters_made ahead size zero [] fits = tt
parameters_made ahead size (suc most) [] fits = tt
parameters_made ahead size zero (byte ∷ bytes) fits = tt
parameters_made ahead size (suc most) (byte ∷ bytes) fits =
    by_first (driver_parameter_at (most_at ahead size) (byte ∷ bytes)) (parameter_made ahead size (byte ∷ bytes) fits) (λ rest left. parameters_made (ahead - 1) size most rest left)
  where
    by_first : (r : Result (RpcParameter × List ℕ) Refusal) → Made (IsDriverParameter ahead) r → ((rest : List ℕ) → IsBytes rest → AreMade (ahead - 1) (driver_parameters_at (ahead - 1) size most rest))
        → AreMade ahead (r >>= λ first. driver_parameters_at (ahead - 1) size most first.1 >>= λ others. Ok (first.0 ∷ others))
    by_first (Ok first) made more = made_with ahead first.0 (driver_parameters_at (ahead - 1) size most first.1) made.0 (more first.1 made.1)
    by_first (Err refusal) made more = tt

-- ---- calls

numbered_made : (bytes : List ℕ) (procedure : Option DriverProcedure) (rest : List ℕ) → IsBytes rest → Made {A = DriverTarget} Any (target_of_number bytes procedure rest)
numbered_made bytes None rest fits = tt
numbered_made bytes (Some procedure) rest fits = (tt, fits)

target_made : (bytes : List ℕ) → IsBytes bytes → Made {A = DriverTarget} Any (driver_target_at bytes)
unfolding driver_target_at driver_target_of
target_made bytes fits = made_then (Any {A = ℕ}) (Any {A = DriverTarget}) (short_at bytes) _ (short_made bytes fits) (λ count any rest.
    made_if (Any {A = DriverTarget}) (eqb count.0 by_number) _ _
    (λ e. made_then (Any {A = ℕ}) (Any {A = DriverTarget}) (short_at count.1) _ (short_made count.1 rest) (λ number any left. numbered_made count.1 (procedure_of_number number.0) number.1 left))
    (λ e. made_then (AreUnits count.0) (Any {A = DriverTarget}) (units_at count.0 count.1) _ (units_made count.0 count.1 rest) (λ name are left. (tt, left))))

abbrev IsMade : Result DriverCall Refusal → Type 0
IsMade (Ok call) = AreDriverParameters (front_count call.target) call.parameters
IsMade (Err refusal) = Unit {0}

call_made : (size : ℕ) (bytes : List ℕ) → IsBytes bytes → IsMade (driver_call_at size bytes)
unfolding driver_call_at
call_made size bytes fits = by_target (driver_target_at bytes) (target_made bytes fits)
  where
    by_parameters : (target : DriverTarget) (r : Result (List RpcParameter) Refusal) → AreMade (front_count target) r → IsMade (r >>= λ parameters. Ok (record { target = target; parameters = parameters }))
    by_parameters target (Ok parameters) are = are
    by_parameters target (Err refusal) are = tt

    by_flags : (target : DriverTarget) (r : Result (List ℕ × List ℕ) Refusal) → Made (IsPart 2) r
        → IsMade (r >>= λ flags. driver_parameters_at (front_count target) size (length flags.1) flags.1 >>= λ parameters. Ok (record { target = target; parameters = parameters }))
    by_flags target (Ok flags) made = by_parameters target (driver_parameters_at (front_count target) size (length flags.1) flags.1) (parameters_made (front_count target) size (length flags.1) flags.1 made.1)
    by_flags target (Err refusal) made = tt

    by_target : (r : Result (DriverTarget × List ℕ) Refusal) → Made Any r
        → IsMade (r >>= λ target. bytes_at 2 target.1 >>= λ flags. driver_parameters_at (front_count target.0) size (length flags.1) flags.1 >>= λ parameters. Ok (record { target = target.0; parameters = parameters }))
    by_target (Ok target) made = by_flags target.0 (bytes_at 2 target.1) (bytes_made 2 target.1 made.1)
    by_target (Err refusal) made = tt

IsBytes-drop : (count : ℕ) (bytes : List ℕ) → IsBytes bytes → IsBytes (drop count bytes)
IsBytes-drop count bytes fits = IsBytes-rest (take count bytes) (drop count bytes) (subst IsBytes (sym (take-append-drop count bytes)) fits)

whole_made : (payload : List ℕ) → IsBytes payload → IsMade (whole_driver_call payload)
unfolding whole_driver_call behind_headers
whole_made payload fits = by_test ((ltb (length payload) 4 || ltb (little_number 4 payload) 4) || ltb (length payload) (little_number 4 payload))
  where
    by_test : (bad : Bool) → IsMade (cond bad (refuse kinds.Headers payload) (Ok (drop (little_number 4 payload) payload)) >>= driver_call_at (length payload))
    by_test true = tt
    by_test false = call_made (length payload) (drop (little_number 4 payload) payload) (IsBytes-drop (little_number 4 payload) payload fits)

made_call : (size : ℕ) (r : Result DriverCall Refusal) (call : DriverCall) → placed size r ≡ Ok call → IsMade r → AreDriverParameters (front_count call.target) call.parameters
made_call size (Ok given) call is made = subst (λ (one : DriverCall). AreDriverParameters (front_count one.target) one.parameters) (let same : given ≡ call = cc in same) made
made_call size (Err refusal) call is made = absurd cc

-- what is answered has parameters of their types
pub fits : (payload : List ℕ) (result : Result DriverCall RpcFault) → IsBytes payload → Answers result (driver_call_of payload) → IfOk result (λ call. AreDriverParameters (front_count call.target) call.parameters)
unfolding driver_call_of
fits payload (Ok call) are is = made_call (length payload) (whole_driver_call payload) call is (whole_made payload are)
fits payload (Err fault) are is = tt
