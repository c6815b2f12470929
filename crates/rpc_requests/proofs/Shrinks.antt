-- A reader leaves no more bytes than it got, and a parameter leaves fewer.
use Rattle.std.proofs.Common.{ℕ, ◌*◌, ◌/◌, ◌%◌, ◌≤◌, Bool, true, false, cond, eqb, ltb, List, [], ◌∷◌, length, Option, Some, None, Result, Ok, Err, arith}
use Rattle.std.proofs.lemmas.List.{length-drop}
use Rattle.value_types.specs.declared.sql_type.SqlType.{SqlType}
use Rattle.value_types.specs.declared.value.Value.{Value}
use Rattle.value_types.specs.declared.value.Value.TheVariants.{Null, Text}
use Rattle.rpc_requests.specs.declared.call.RpcParameter.{RpcParameter}
use Rattle.rpc_requests.specs.declared.types.Form.{Form}
use Rattle.rpc_requests.specs.declared.types.Form.TheVariants.{Number, Units, Bytes}
use Rattle.rpc_requests.specs.declared.fault.Refusal.{Refusal}
use Rattle.rpc_requests.specs.declared.fault.RpcKind.TheVariants as kinds
use Rattle.rpc_requests.specs.Fit.{name_limit}
use Rattle.std.specs.Prelude.{◌||◌}
use Rattle.std.specs.List.{list_all}
use Rattle.tds_tokens.specs.Spelling.{intntype, bitntype, nvarchartype}
use Rattle.rpc_requests.specs.Spelling.{bigvarchartype, charbin_null}
use Rattle.rpc_requests.specs.Reading.{◌>>=◌, refuse, filled, size_of, ascii_text, bytes_at, byte_at, short_at, units_at, formed, whole_form, bit_form, units_form, bytes_form, sized_at, long_sized_at, tagged_at, type_at, ntext_of, ascii_of, filled_of, value_at, named_at, counted_at, parameter_at}

-- what is read leaves at most so many bytes
abbrev pub Leaves : {A : Type 0} → ℕ → Result (A × List ℕ) Refusal → Type 0
Leaves n (Ok x) = length x.1 ≤ n
Leaves n (Err refusal) = Unit {0}

pub leaves_then : {A B : Type 0} (n m : ℕ) (r : Result (A × List ℕ) Refusal) (f : A × List ℕ → Result (B × List ℕ) Refusal) → Leaves n r → ((x : A × List ℕ) → length x.1 ≤ n → Leaves m (f x)) → Leaves m (r >>= f)
leaves_then n m (Ok x) f h g = g x h
leaves_then n m (Err refusal) f h g = tt

pub leaves_if : {A : Type 0} (n : ℕ) (test : Bool) (x y : Result (A × List ℕ) Refusal) → Leaves n x → Leaves n y → Leaves n (cond test x y)
leaves_if n true x y h g = h
leaves_if n false x y h g = g

leaves_more : {A : Type 0} (n m : ℕ) (r : Result (A × List ℕ) Refusal) → n ≤ m → Leaves n r → Leaves m r
leaves_more n m (Ok x) le h = omega arith
leaves_more n m (Err refusal) le h = tt

pub bytes_leave : (count n : ℕ) (bytes : List ℕ) → length bytes ≤ n → Leaves n (bytes_at count bytes)
unfolding bytes_at
bytes_leave count n bytes le = leaves_if n (ltb (length bytes) count) _ _ tt (omega (arith, length-drop count bytes))

pub byte_leaves : (n : ℕ) (bytes : List ℕ) → length bytes ≤ n → Leaves n (byte_at bytes)
unfolding byte_at
byte_leaves n [] le = tt
byte_leaves n (byte ∷ bytes) le = omega arith

pub short_leaves : (n : ℕ) (bytes : List ℕ) → length bytes ≤ n → Leaves n (short_at bytes)
unfolding short_at
short_leaves n bytes le = leaves_then n n (bytes_at 2 bytes) _ (bytes_leave 2 n bytes le) (λ x h. h)

pub units_leave : (count n : ℕ) (bytes : List ℕ) → length bytes ≤ n → Leaves n (units_at count bytes)
unfolding units_at
units_leave count n bytes le = leaves_then n n (bytes_at (2 * count) bytes) _ (bytes_leave (2 * count) n bytes le) (λ x h. h)

pub formed_leaves : {A : Type 0} (n : ℕ) (bytes : List ℕ) (form : Option A) (rest : List ℕ) → length rest ≤ n → Leaves n (formed bytes form rest)
formed_leaves n bytes None rest le = tt
formed_leaves n bytes (Some form) rest le = le

sized_leaves : (form_of : ℕ → Option Form) (n : ℕ) (bytes : List ℕ) → length bytes ≤ n → Leaves n (sized_at form_of bytes)
unfolding sized_at
sized_leaves form_of n bytes le = leaves_then n n (bytes_at 2 bytes) _ (bytes_leave 2 n bytes le) (λ x h. formed_leaves n bytes _ x.1 h)

long_sized_leaves : (form_of : ℕ → Option Form) (n : ℕ) (bytes : List ℕ) → length bytes ≤ n → Leaves n (long_sized_at form_of bytes)
unfolding long_sized_at
long_sized_leaves form_of n bytes le = leaves_then n n (bytes_at 8 bytes) _ (bytes_leave 8 n bytes le) (λ x h. formed_leaves n bytes _ x.1 h)

tagged_leaves : (tag n : ℕ) (bytes : List ℕ) → length bytes ≤ n → Leaves n (tagged_at tag bytes)
unfolding tagged_at
tagged_leaves tag n bytes le =
    leaves_if n (eqb tag intntype) _ _ (sized_leaves whole_form n bytes le)
    (leaves_if n (eqb tag bitntype) _ _ (sized_leaves bit_form n bytes le)
    (leaves_if n (eqb tag nvarchartype) _ _ (long_sized_leaves units_form n bytes le)
    (leaves_if n (eqb tag bigvarchartype) _ _ (long_sized_leaves bytes_form n bytes le) tt)))

type_leaves : (n : ℕ) (bytes : List ℕ) → length bytes ≤ n → Leaves n (type_at bytes)
unfolding type_at
type_leaves n bytes le = leaves_then n n (byte_at bytes) _ (byte_leaves n bytes le) (λ x h. tagged_leaves x.0 n bytes le)

abbrev is : Value × List ℕ → Result (Value × List ℕ) Refusal
is x = Ok x

abbrev texts : List ℕ × List ℕ → Result (Value × List ℕ) Refusal
texts text = Ok (Text text.0, text.1)

ntext_leaves : (size count n : ℕ) (bytes rest : List ℕ) → length rest ≤ n → Leaves n (ntext_of size count bytes rest)
unfolding ntext_of
ntext_leaves size count n bytes rest le =
    leaves_if n (eqb count charbin_null) (is (Null, rest)) (cond (eqb (count % 2) 1 || ltb (2 * size) count) (refuse kinds.Value bytes) (units_at (count / 2) rest >>= texts)) le
    (leaves_if n (eqb (count % 2) 1 || ltb (2 * size) count) (refuse kinds.Value bytes) (units_at (count / 2) rest >>= texts) tt
    (leaves_then n n (units_at (count / 2) rest) texts (units_leave (count / 2) n rest le) (λ x h. h)))

ascii_leaves : (size count n : ℕ) (bytes rest : List ℕ) → length rest ≤ n → Leaves n (ascii_of size count bytes rest)
unfolding ascii_of
ascii_leaves size count n bytes rest le =
    let told : List ℕ × List ℕ → Result (Value × List ℕ) Refusal = λ text. ascii_text rest text.0 text.1 in
    leaves_if n (eqb count charbin_null) (is (Null, rest)) (cond (ltb size count) (refuse kinds.Value bytes) (bytes_at count rest >>= told)) le
    (leaves_if n (ltb size count) (refuse kinds.Value bytes) (bytes_at count rest >>= told) tt
    (leaves_then n n (bytes_at count rest) told (bytes_leave count n rest le) (λ x h. leaves_if n (list_all (λ byte. ltb byte 128) x.0) (is (Text x.0, x.1)) (refuse kinds.Value rest) h tt)))

pub filled_leaves : (kind : SqlType) (count n : ℕ) (bytes rest : List ℕ) → length rest ≤ n → Leaves n (filled_of kind count bytes rest)
unfolding filled_of
filled_leaves kind count n bytes rest le =
    let told : List ℕ × List ℕ → Result (Value × List ℕ) Refusal = λ part. Ok (filled kind part.0, part.1) in
    leaves_if n (eqb count 0) (is (Null, rest)) (cond (eqb count (size_of kind)) (bytes_at (size_of kind) rest >>= told) (refuse kinds.Value bytes)) le
    (leaves_if n (eqb count (size_of kind)) (bytes_at (size_of kind) rest >>= told) (refuse kinds.Value bytes)
    (leaves_then n n (bytes_at (size_of kind) rest) told (bytes_leave (size_of kind) n rest le) (λ x h. h)) tt)

value_leaves : (form : Form) (n : ℕ) (bytes : List ℕ) → length bytes ≤ n → Leaves n (value_at form bytes)
unfolding value_at
value_leaves (Number kind) n bytes le = leaves_then n n (byte_at bytes) _ (byte_leaves n bytes le) (λ x h. filled_leaves kind x.0 n bytes x.1 h)
value_leaves (Units size) n bytes le = leaves_then n n (short_at bytes) _ (short_leaves n bytes le) (λ x h. ntext_leaves size x.0 n bytes x.1 h)
value_leaves (Bytes size) n bytes le = leaves_then n n (short_at bytes) _ (short_leaves n bytes le) (λ x h. ascii_leaves size x.0 n bytes x.1 h)

named_leaves : (name : List ℕ) (n : ℕ) (bytes : List ℕ) → length bytes ≤ n → Leaves n (named_at name bytes)
unfolding named_at
named_leaves name n bytes le =
    leaves_then n n (byte_at bytes) _ (byte_leaves n bytes le) (λ x h.
    leaves_then n n (type_at x.1) _ (type_leaves n x.1 h) (λ y g.
    leaves_then n n (value_at y.0 y.1) _ (value_leaves y.0 n y.1 g) (λ z f. f)))

counted_leaves : (count n : ℕ) (bytes rest : List ℕ) → length rest ≤ n → Leaves n (counted_at count bytes rest)
unfolding counted_at
counted_leaves count n bytes rest le =
    let told : List ℕ × List ℕ → Result (RpcParameter × List ℕ) Refusal = λ name. named_at name.0 name.1 in
    leaves_if n (ltb name_limit count) (refuse kinds.Trailing bytes) (units_at count rest >>= told) tt
    (leaves_then n n (units_at count rest) told (units_leave count n rest le) (λ x h. named_leaves x.0 n x.1 h))

-- the count of a parameter's name is gone
pub parameter_leaves : (byte : ℕ) (bytes : List ℕ) → Leaves (length bytes) (parameter_at (byte ∷ bytes))
unfolding parameter_at byte_at
parameter_leaves byte bytes = counted_leaves byte (length bytes) (byte ∷ bytes) bytes (omega arith)
