-- What is spelled so is read: the bytes of a call, behind readable headers, are read as that call.
use Rattle.std.proofs.Common.{◌≡◌, ℕ, zero, suc, ◌+◌, ◌*◌, ◌/◌, ◌%◌, ◌^◌, ◌<◌, ◌≤◌, Bool, true, false, eqb, ltb, List, [], ◌∷◌, ◌++◌, length, All, Option, Some, Result, Ok, ℤ, pos, negsuc, refl, ap, ◌∙◌, append_assoc, arith}
use Rattle.std.specs.Prelude.{FitsSigned}
use Rattle.std.specs.List.{flat_map}
use Rattle.std.specs.Int.{w16, w32, w64, to_le_bytes, cast_signed, cast_unsigned}
use Rattle.std.proofs.lemmas.Bool.{le-ltb, ne_eqb, eq-eqb}
use Rattle.std.proofs.lemmas.Int.{ints, to_z-of_z}
use Rattle.std.proofs.lemmas.List.{take_at, drop_at, length-append}
use Rattle.std.proofs.lemmas.List.Elements.{All-head, All-tail}
use Rattle.std.proofs.lemmas.Nat.{from_le_bytes-to_le_bytes_2, from_le_bytes-to_le_bytes_4, from_le_bytes-to_le_bytes_8}
use Rattle.byteorder.specs.Endian.{little_number}
use Rattle.value_types.specs.declared.sql_type.SqlType.{SqlType}
use Rattle.value_types.specs.declared.sql_type.SqlType.TheVariants.{TinyInt, SmallInt, Int, BigInt, Bit as BitType, NText}
use Rattle.value_types.specs.declared.value.Value.{Value}
use Rattle.value_types.specs.declared.value.Value.TheVariants.{Null, Whole, Bit, Text}
use Rattle.value_types.specs.Units.{units_of, le_bytes_of}
use Rattle.rpc_requests.specs.declared.call.RpcCall.{RpcCall}
use Rattle.rpc_requests.specs.declared.call.RpcParameter.{RpcParameter}
use Rattle.rpc_requests.specs.declared.call.RpcTarget.{RpcTarget}
use Rattle.rpc_requests.specs.declared.call.RpcTarget.TheVariants.{Named, ExecuteSql}
use Rattle.rpc_requests.specs.declared.types.Form.{Form}
use Rattle.rpc_requests.specs.declared.types.Form.TheVariants.{Number, Units, Bytes}
use Rattle.rpc_requests.specs.declared.fault.Refusal.{Refusal}
use Rattle.tds_tokens.specs.Spelling.{collation, type_info, value_bytes}
use Rattle.rpc_requests.specs.Spelling.{charbin_null, by_number, sp_executesql, target_bytes, status_of, parameter_bytes, call_bytes}
use Rattle.rpc_requests.specs.Fit.{name_limit, text_limit, IsKind, IsOf, IsParameter, IsTarget, IsCall, AreHeaders}
use Rattle.rpc_requests.specs.Reading.{◌>>=◌, bytes_at, byte_at, short_at, units_at, whole_form, bit_form, units_form, sized_at, long_sized_at, tagged_at, type_at, ntext_of, ascii_of, size_of, filled, filled_of, value_at, has_bit, named_at, counted_at, parameter_at, parameters_at, numbered_of, numbered_at, target_of, target_at, call_at, behind_headers, whole_call, rpc_of}
use Rattle.rpc_requests.proofs.Texts.{ascii_passes}
use Rattle.rpc_requests.proofs.Forms.{form_of, form_again}

-- ---- numbers and texts

pub bytes_again : (count : ℕ) (part rest : List ℕ) → length part ≡ count → bytes_at count (part ++ rest) ≡ Ok (part, rest)
unfolding bytes_at
bytes_again count part rest len =
    let long : ltb (length (part ++ rest)) count ≡ false = le-ltb _ _ (omega (arith, length-append part rest)) in
    rw (long, take_at part rest count len, drop_at part rest count len) refl

pub short_again : (n : ℕ) (rest : List ℕ) → n < 2 ^ 16 → short_at (to_le_bytes w16 n ++ rest) ≡ Ok (n, rest)
unfolding short_at
short_again n rest lt = rw (bytes_again 2 (to_le_bytes w16 n) rest refl, from_le_bytes-to_le_bytes_2 n lt) refl

length-le_bytes_of : (units : List ℕ) → length (le_bytes_of units) ≡ 2 * length units
length-le_bytes_of [] = refl
length-le_bytes_of (unit ∷ units) = omega (arith, length-le_bytes_of units)

units_of-le_bytes_of : (units : List ℕ) → All (λ unit. unit < 2 ^ 16) units → units_of (le_bytes_of units) ≡ units
units_of-le_bytes_of [] are = refl
units_of-le_bytes_of (unit ∷ units) are =
    let lt : unit < 2 ^ 16 = All-head (λ u. u < 2 ^ 16) unit units are in
    let first : unit % 256 + 256 * (unit / 256 % 256) ≡ unit = omega arith in
    ap (λ u. u ∷ units_of (le_bytes_of units)) first ∙ ap (λ us. unit ∷ us) (units_of-le_bytes_of units (All-tail (λ u. u < 2 ^ 16) unit units are))

pub units_again : (units rest : List ℕ) → All (λ unit. unit < 2 ^ 16) units → units_at (length units) (le_bytes_of units ++ rest) ≡ Ok (units, rest)
unfolding units_at
units_again units rest are = rw (bytes_again (2 * length units) (le_bytes_of units) rest (length-le_bytes_of units), units_of-le_bytes_of units are) refl

-- ---- types

sized_again : (formed : ℕ → Option Form) (tag size : ℕ) (form : Form) (rest : List ℕ) → formed size ≡ Some form → sized_at formed (tag ∷ size ∷ rest) ≡ Ok (form, rest)
unfolding sized_at
sized_again formed tag size form rest e = rw (bytes_again 2 (tag ∷ size ∷ []) rest refl, e) refl

pub long_sized_again : (formed : ℕ → Option Form) (tag size : ℕ) (c : List ℕ) (form : Form) (rest : List ℕ) → length c ≡ 5 → size < 2 ^ 16 → formed size ≡ Some form → long_sized_at formed (tag ∷ (to_le_bytes w16 size ++ c) ++ rest) ≡ Ok (form, rest)
unfolding long_sized_at
long_sized_again formed tag size c form rest five lt e =
    rw (bytes_again 8 (tag ∷ to_le_bytes w16 size ++ c) rest (omega (arith, five)), from_le_bytes-to_le_bytes_2 size lt, e) refl

pub units_form_again : (size : ℕ) → 1 ≤ size → size ≤ text_limit → units_form (2 * size) ≡ Some (Units size)
units_form_again size low high =
    let even : eqb (2 * size % 2) 1 ≡ false = ne_eqb (2 * size % 2) 1 (λ same. omega arith) in
    let some : eqb (2 * size) 0 ≡ false = ne_eqb (2 * size) 0 (λ same. omega arith) in
    let small : ltb (2 * text_limit) (2 * size) ≡ false = le-ltb _ _ (omega arith) in
    let half : 2 * size / 2 ≡ size = omega arith in
    rw (even, some, small, half) refl

pub type_again : (kind : SqlType) (rest : List ℕ) → IsKind kind → type_at (type_info kind ++ rest) ≡ Ok (form_of kind, rest)
unfolding type_at byte_at tagged_at
type_again TinyInt rest is = sized_again whole_form 0x26 1 (Number TinyInt) rest refl
type_again SmallInt rest is = sized_again whole_form 0x26 2 (Number SmallInt) rest refl
type_again Int rest is = sized_again whole_form 0x26 4 (Number Int) rest refl
type_again BigInt rest is = sized_again whole_form 0x26 8 (Number BigInt) rest refl
type_again BitType rest is = sized_again bit_form 0x68 1 (Number BitType) rest refl
type_again (NText size) rest is = long_sized_again units_form 0xE7 (2 * size) collation (Units size) rest refl (omega (arith, is.1)) (units_form_again size is.0 is.1)

-- ---- values

pub filled_again : (kind : SqlType) (part rest start : List ℕ) (value : Value) → length part ≡ size_of kind → eqb (size_of kind) 0 ≡ false → filled kind part ≡ value → filled_of kind (size_of kind) start (part ++ rest) ≡ Ok (value, rest)
unfolding filled_of
filled_again kind part rest start value len some e =
    rw (some, eq-eqb (size_of kind) (size_of kind) refl, bytes_again (size_of kind) part rest len, e) refl

bits16 : (z : ℤ) → FitsSigned w16 z → cast_unsigned w16 z < 2 ^ 16
bits16 (pos n) fits = omega (arith, fits.sfits)
bits16 (negsuc n) fits = omega (arith, fits.sfits)

bits32 : (z : ℤ) → FitsSigned w32 z → cast_unsigned w32 z < 2 ^ 32
bits32 (pos n) fits = omega (arith, fits.sfits)
bits32 (negsuc n) fits = omega (arith, fits.sfits)

bits64 : (z : ℤ) → FitsSigned w64 z → cast_unsigned w64 z < 2 ^ 64
bits64 (pos n) fits = omega (arith, fits.sfits)
bits64 (negsuc n) fits = omega (arith, fits.sfits)

tiny_again : (n : ℕ) (rest : List ℕ) → n < 2 ^ 8 → value_at (Number TinyInt) (value_bytes TinyInt (Whole (pos n)) ++ rest) ≡ Ok (Whole (pos n), rest)
unfolding value_at byte_at
tiny_again n rest lt =
    let same : n % 256 ≡ n = omega arith in
    filled_again TinyInt (n % 256 ∷ []) rest (1 ∷ n % 256 ∷ rest) (Whole (pos n)) refl refl (ap (λ (k : ℕ). Whole (pos k)) same)

ntext_again : (size : ℕ) (units rest : List ℕ) → size ≤ text_limit → length units ≤ size → All (λ unit. unit < 2 ^ 16) units → value_at (Units size) (value_bytes (NText size) (Text units) ++ rest) ≡ Ok (Text units, rest)
unfolding value_at ntext_of
ntext_again size units rest high le are =
    let count = 2 * length units in
    let there : eqb count charbin_null ≡ false = ne_eqb count charbin_null (λ same. omega arith) in
    let even : eqb (count % 2) 1 ≡ false = ne_eqb (count % 2) 1 (λ same. omega arith) in
    let small : ltb (2 * size) count ≡ false = le-ltb _ _ (omega arith) in
    let half : count / 2 ≡ length units = omega arith in
    rw (short_again count (le_bytes_of units ++ rest) (omega (arith, high, le)), there, even, small, half, units_again units rest are) refl

pub ascii_again : (size : ℕ) (units rest : List ℕ) → size ≤ text_limit → length units ≤ size → All (λ unit. unit < 128) units → value_at (Bytes size) ((to_le_bytes w16 (length units) ++ units) ++ rest) ≡ Ok (Text units, rest)
unfolding value_at ascii_of
ascii_again size units rest high le are =
    let count = length units in
    let there : eqb count charbin_null ≡ false = ne_eqb count charbin_null (λ same. omega arith) in
    let small : ltb size count ≡ false = le-ltb _ _ le in
    rw (short_again count (units ++ rest) (omega (arith, high, le)), there, small, bytes_again count units rest refl, ascii_passes units are) refl

null_text_again : (size : ℕ) (rest : List ℕ) → value_at (Units size) (value_bytes (NText size) Null ++ rest) ≡ Ok (Null, rest)
unfolding value_at ntext_of
null_text_again size rest = rw (short_again charbin_null rest (omega arith)) refl

pub null_ascii_again : (size : ℕ) (rest : List ℕ) → value_at (Bytes size) (value_bytes (NText size) Null ++ rest) ≡ Ok (Null, rest)
unfolding value_at ascii_of
null_ascii_again size rest = rw (short_again charbin_null rest (omega arith)) refl

pub value_again : (kind : SqlType) (value : Value) (rest : List ℕ) → IsKind kind → IsOf kind value → value_at (form_of kind) (value_bytes kind value ++ rest) ≡ Ok (value, rest)
unfolding value_at byte_at filled_of
value_again TinyInt Null rest is of = refl
value_again TinyInt (Whole (pos n)) rest is of = tiny_again n rest (omega (arith, ints, of.1))
value_again TinyInt (Whole (negsuc n)) rest is of = absurd (omega (arith, ints, of.0))
value_again TinyInt (Bit bit) rest is of = absurd of
value_again TinyInt (Text units) rest is of = absurd of
value_again SmallInt Null rest is of = refl
value_again SmallInt (Whole z) rest is of =
    filled_again SmallInt (to_le_bytes w16 (cast_unsigned w16 z)) rest (2 ∷ to_le_bytes w16 (cast_unsigned w16 z) ++ rest) (Whole z) refl refl (ap Whole (ap (cast_signed w16) (from_le_bytes-to_le_bytes_2 (cast_unsigned w16 z) (bits16 z of)) ∙ to_z-of_z w16 z of))
value_again SmallInt (Bit bit) rest is of = absurd of
value_again SmallInt (Text units) rest is of = absurd of
value_again Int Null rest is of = refl
value_again Int (Whole z) rest is of =
    filled_again Int (to_le_bytes w32 (cast_unsigned w32 z)) rest (4 ∷ to_le_bytes w32 (cast_unsigned w32 z) ++ rest) (Whole z) refl refl (ap Whole (ap (cast_signed w32) (from_le_bytes-to_le_bytes_4 (cast_unsigned w32 z) (bits32 z of)) ∙ to_z-of_z w32 z of))
value_again Int (Bit bit) rest is of = absurd of
value_again Int (Text units) rest is of = absurd of
value_again BigInt Null rest is of = refl
value_again BigInt (Whole z) rest is of =
    filled_again BigInt (to_le_bytes w64 (cast_unsigned w64 z)) rest (8 ∷ to_le_bytes w64 (cast_unsigned w64 z) ++ rest) (Whole z) refl refl (ap Whole (ap (cast_signed w64) (from_le_bytes-to_le_bytes_8 (cast_unsigned w64 z) (bits64 z of)) ∙ to_z-of_z w64 z of))
value_again BigInt (Bit bit) rest is of = absurd of
value_again BigInt (Text units) rest is of = absurd of
value_again BitType Null rest is of = refl
value_again BitType (Whole z) rest is of = absurd of
value_again BitType (Bit true) rest is of = filled_again BitType (1 ∷ []) rest (1 ∷ 1 ∷ rest) (Bit true) refl refl refl
value_again BitType (Bit false) rest is of = filled_again BitType (0 ∷ []) rest (1 ∷ 0 ∷ rest) (Bit false) refl refl refl
value_again BitType (Text units) rest is of = absurd of
value_again (NText size) Null rest is of = null_text_again size rest
value_again (NText size) (Whole z) rest is of = absurd of
value_again (NText size) (Bit bit) rest is of = absurd of
value_again (NText size) (Text units) rest is of = ntext_again size units rest is.1 of.0 of.1

-- ---- parameters

status_again : (output missing : Bool) → (has_bit (status_of output missing) 1 ≡ output) × (has_bit (status_of output missing) 2 ≡ missing)
status_again true true = (refl, refl)
status_again true false = (refl, refl)
status_again false true = (refl, refl)
status_again false false = (refl, refl)

named_again : (p : RpcParameter) (rest : List ℕ) → IsParameter p → named_at p.name ((status_of p.output p.missing ∷ type_info p.kind ++ value_bytes p.kind p.value) ++ rest) ≡ Ok (p, rest)
unfolding named_at byte_at
named_again p rest is =
    let s = status_again p.output p.missing in
    rw (append_assoc (type_info p.kind) (value_bytes p.kind p.value) rest, type_again p.kind (value_bytes p.kind p.value ++ rest) is.kind, value_again p.kind p.value rest is.kind is.value, form_again p.kind, s.0, s.1) refl

parameter_again : (p : RpcParameter) (rest : List ℕ) → IsParameter p → parameter_at (parameter_bytes p ++ rest) ≡ Ok (p, rest)
unfolding parameter_at byte_at counted_at
parameter_again p rest is =
    let told = status_of p.output p.missing ∷ type_info p.kind ++ value_bytes p.kind p.value in
    let small : ltb name_limit (length p.name) ≡ false = le-ltb _ _ is.name.0 in
    rw (small, append_assoc (le_bytes_of p.name) told rest, units_again p.name (told ++ rest) is.name.1) (named_again p rest is)

parameters_again : (ps : List RpcParameter) (most : ℕ) → length (flat_map parameter_bytes ps) ≤ most → All IsParameter ps → parameters_at most (flat_map parameter_bytes ps) ≡ Ok ps
unfolding parameters_at
parameters_again [] zero le are = refl
parameters_again [] (suc most) le are = refl
parameters_again (p ∷ ps) zero le are = absurd (omega arith)
parameters_again (p ∷ ps) (suc most) le are =
    let fewer : length (flat_map parameter_bytes ps) ≤ most = omega (arith, length-append (parameter_bytes p) (flat_map parameter_bytes ps)) in
    rw (parameter_again p (flat_map parameter_bytes ps) (All-head IsParameter p ps are), parameters_again ps most fewer (All-tail IsParameter p ps are)) refl

-- ---- calls

pub numbered_again : (rest : List ℕ) → target_at (target_bytes ExecuteSql ++ rest) ≡ Ok (ExecuteSql, rest)
unfolding target_at target_of numbered_at numbered_of
numbered_again rest = rw (short_again by_number (to_le_bytes w16 sp_executesql ++ rest) (omega arith), short_again sp_executesql rest (omega arith)) refl

target_again : (target : RpcTarget) (rest : List ℕ) → IsTarget target → target_at (target_bytes target ++ rest) ≡ Ok (target, rest)
unfolding target_at target_of
target_again (Named name) rest is =
    let other : eqb (length name) 0xFFFF ≡ false = ne_eqb (length name) 0xFFFF (λ same. omega (arith, is.0)) in
    rw (append_assoc (to_le_bytes w16 (length name)) (le_bytes_of name) rest, short_again (length name) (le_bytes_of name ++ rest) (omega (arith, is.0)), other, units_again name rest is.1) refl
target_again ExecuteSql rest is = numbered_again rest

abbrev call_of : RpcTarget → List RpcParameter → Result RpcCall Refusal
call_of target parameters = Ok (record { target = target; parameters = parameters })

abbrev behind_target : RpcTarget × List ℕ → Result RpcCall Refusal
behind_target target = bytes_at 2 target.1 >>= λ flags. parameters_at (length flags.1) flags.1 >>= λ parameters. call_of target.0 parameters

behind_again : (target : RpcTarget) (parameters : List RpcParameter) → All IsParameter parameters → behind_target (target, to_le_bytes w16 0 ++ flat_map parameter_bytes parameters) ≡ call_of target parameters
behind_again target parameters are =
    let ps = flat_map parameter_bytes parameters in
    rw (bytes_again 2 (to_le_bytes w16 0) ps refl, parameters_again parameters (length ps) (omega arith) are) refl

call_shape : (call : RpcCall) → call_bytes call ≡ target_bytes call.target ++ (to_le_bytes w16 0 ++ flat_map parameter_bytes call.parameters)
call_shape call = append_assoc (target_bytes call.target) (to_le_bytes w16 0) (flat_map parameter_bytes call.parameters)

call_again : (call : RpcCall) → IsCall call → call_at (call_bytes call) ≡ Ok call
unfolding call_at
call_again call is =
    let ps : List ℕ = flat_map parameter_bytes call.parameters in
    let first : (target_at (target_bytes call.target ++ (to_le_bytes w16 0 ++ ps)) >>= behind_target) ≡ behind_target (call.target, to_le_bytes w16 0 ++ ps) =
    ap (λ (r : Result (RpcTarget × List ℕ) Refusal). r >>= behind_target) (target_again call.target (to_le_bytes w16 0 ++ ps) is.target) in
    ap call_at (call_shape call) ∙ first ∙ behind_again call.target call.parameters is.parameters

pub headers_again : (headers rest : List ℕ) → AreHeaders headers → behind_headers (headers ++ rest) ≡ Ok rest
unfolding behind_headers
headers_again [] rest are = absurd (omega (arith, are.0))
headers_again (a ∷ []) rest are = absurd (omega (arith, are.0))
headers_again (a ∷ b ∷ []) rest are = absurd (omega (arith, are.0))
headers_again (a ∷ b ∷ c ∷ []) rest are = absurd (omega (arith, are.0))
headers_again (a ∷ b ∷ c ∷ d ∷ more) rest are =
    let headers = a ∷ b ∷ c ∷ d ∷ more in
    let total : little_number 4 (headers ++ rest) ≡ length headers = are.1 in
    let long : ltb (length (headers ++ rest)) 4 ≡ false = le-ltb _ _ (omega (arith, length-append headers rest)) in
    let some : ltb (length headers) 4 ≡ false = le-ltb _ _ are.0 in
    let inside : ltb (length (headers ++ rest)) (length headers) ≡ false = le-ltb _ _ (omega (arith, length-append headers rest)) in
    rw (total, long, some, inside, drop_at headers rest (length headers) refl) refl

pub written_again : (headers : List ℕ) (call : RpcCall) → AreHeaders headers → IsCall call → rpc_of (headers ++ call_bytes call) ≡ Ok call
unfolding rpc_of whole_call
written_again headers call are is = rw (headers_again headers (call_bytes call) are, call_again call is) refl
