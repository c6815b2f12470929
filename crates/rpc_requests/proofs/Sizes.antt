-- A call has no text that is longer than the payload that says it.
use Rattle.std.proofs.Common.{◌≡◌, ℕ, zero, suc, ◌*◌, ◌/◌, ◌%◌, ◌≤◌, Bool, true, false, cond, eqb, ltb, List, [], ◌∷◌, length, length-take, drop, Option, None, Some, Result, Ok, Err, subst, arith}
use Rattle.std.specs.Prelude.{◌||◌}
use Rattle.std.specs.List.{AllByRecursion}
use Rattle.std.proofs.lemmas.List.{length-drop}
use Rattle.value_types.specs.Units.{units_of}
use Rattle.byteorder.specs.Endian.{little_number}
use Rattle.value_types.specs.declared.sql_type.SqlType.{SqlType}
use Rattle.value_types.specs.declared.sql_type.SqlType.TheVariants.{TinyInt, SmallInt, Int, BigInt, Bit as BitType, NText}
use Rattle.value_types.specs.declared.value.Value.{Value}
use Rattle.value_types.specs.declared.value.Value.TheVariants.{Null, Whole, Bit, Text}
use Rattle.tds_tokens.specs.Spelling.{intntype, bitntype, nvarchartype}
use Rattle.rpc_requests.specs.declared.call.RpcCall.{RpcCall}
use Rattle.rpc_requests.specs.declared.call.RpcParameter.{RpcParameter}
use Rattle.rpc_requests.specs.declared.call.RpcTarget.{RpcTarget}
use Rattle.rpc_requests.specs.declared.call.RpcTarget.TheVariants.{Named, ExecuteSql}
use Rattle.rpc_requests.specs.declared.fault.Refusal.{Refusal}
use Rattle.rpc_requests.specs.declared.fault.RpcKind.TheVariants as kinds
use Rattle.rpc_requests.specs.declared.types.Form.{Form}
use Rattle.rpc_requests.specs.declared.types.Form.TheVariants.{Number, Units, Bytes}
use Rattle.rpc_requests.specs.Fit.{name_limit}
use Rattle.rpc_requests.specs.Spelling.{bigvarchartype, by_number, charbin_null, sp_executesql}
use Rattle.rpc_requests.specs.Reading.{◌>>=◌, ascii_of, behind_headers, bit_form, byte_at, bytes_at, bytes_form, call_at, counted_at, filled, filled_of, formed, is_ascii, long_sized_at, named_at, ntext_of, numbered_at, numbered_of, parameter_at, parameters_at, placed, refuse, rpc_of, short_at, size_of, sized_at, tagged_at, target_at, target_of, type_at, units_at, units_form, value_at, whole_call, whole_form}

-- ---- what is read, and how many bytes it leaves

-- what is read is so, and at most so many bytes are left
abbrev pub Bounded : {A : Type 0} → (A → Type 0) → ℕ → Result (A × List ℕ) Refusal → Type 0
Bounded P n (Ok x) = P x.0 × (length x.1 ≤ n)
Bounded P n (Err refusal) = Unit {0}

pub bounded_then : {A B : Type 0} (P : A → Type 0) (Q : B → Type 0) (n : ℕ) (r : Result (A × List ℕ) Refusal) (f : A × List ℕ → Result (B × List ℕ) Refusal) → Bounded P n r → ((x : A × List ℕ) → P x.0 → length x.1 ≤ n → Bounded Q n (f x)) → Bounded Q n (r >>= f)
bounded_then P Q n (Ok x) f h g = g x h.0 h.1
bounded_then P Q n (Err refusal) f h g = tt

pub bounded_if : {A : Type 0} (P : A → Type 0) (n : ℕ) (test : Bool) (x y : Result (A × List ℕ) Refusal) → Bounded P n x → Bounded P n y → Bounded P n (cond test x y)
bounded_if P n true x y one two = one
bounded_if P n false x y one two = two

abbrev pub Any : {A : Type 0} → A → Type 0
Any a = Unit {0}

-- a list is no longer than that
abbrev pub AtMost : ℕ → List ℕ → Type 0
AtMost n list = length list ≤ n

pub bytes_bounded : (count n : ℕ) (bytes : List ℕ) → length bytes ≤ n → Bounded (AtMost n) n (bytes_at count bytes)
unfolding bytes_at
bytes_bounded count n bytes le = bounded_if (AtMost n) n (ltb (length bytes) count) _ _ tt (omega (arith, length-take count bytes), omega (arith, length-drop count bytes))

pub byte_bounded : (n : ℕ) (bytes : List ℕ) → length bytes ≤ n → Bounded {A = ℕ} Any n (byte_at bytes)
unfolding byte_at
byte_bounded n [] le = tt
byte_bounded n (byte ∷ bytes) le = (tt, omega arith)

pub short_bounded : (n : ℕ) (bytes : List ℕ) → length bytes ≤ n → Bounded {A = ℕ} Any n (short_at bytes)
unfolding short_at
short_bounded n bytes le = bounded_then (AtMost n) (Any {A = ℕ}) n (bytes_at 2 bytes) _ (bytes_bounded 2 n bytes le) (λ x few left. (tt, left))

pub units_fewer : (bytes : List ℕ) → length (units_of bytes) ≤ length bytes
units_fewer [] = omega arith
units_fewer (low ∷ []) = omega arith
units_fewer (low ∷ high ∷ bytes) = omega (arith, units_fewer bytes)

pub units_bounded : (count n : ℕ) (bytes : List ℕ) → length bytes ≤ n → Bounded (AtMost n) n (units_at count bytes)
unfolding units_at
units_bounded count n bytes le = bounded_then (AtMost n) (AtMost n) n (bytes_at (2 * count) bytes) _ (bytes_bounded (2 * count) n bytes le) (λ x few left. (omega (arith, units_fewer x.0, few), left))

-- ---- types

pub formed_bounded : {A : Type 0} (n : ℕ) (bytes : List ℕ) (form : Option A) (rest : List ℕ) → length rest ≤ n → Bounded {A = A} Any n (formed bytes form rest)
formed_bounded n bytes None rest le = tt
formed_bounded n bytes (Some form) rest le = (tt, le)

sized_bounded : (form_of : ℕ → Option Form) (n : ℕ) (bytes : List ℕ) → length bytes ≤ n → Bounded {A = Form} Any n (sized_at form_of bytes)
unfolding sized_at
sized_bounded form_of n bytes le = bounded_then (AtMost n) (Any {A = Form}) n (bytes_at 2 bytes) _ (bytes_bounded 2 n bytes le) (λ x few left. formed_bounded n bytes _ x.1 left)

long_bounded : (form_of : ℕ → Option Form) (n : ℕ) (bytes : List ℕ) → length bytes ≤ n → Bounded {A = Form} Any n (long_sized_at form_of bytes)
unfolding long_sized_at
long_bounded form_of n bytes le = bounded_then (AtMost n) (Any {A = Form}) n (bytes_at 8 bytes) _ (bytes_bounded 8 n bytes le) (λ x few left. formed_bounded n bytes _ x.1 left)

tagged_bounded : (tag n : ℕ) (bytes : List ℕ) → length bytes ≤ n → Bounded {A = Form} Any n (tagged_at tag bytes)
unfolding tagged_at
tagged_bounded tag n bytes le =
    bounded_if (Any {A = Form}) n (eqb tag intntype) _ _ (sized_bounded whole_form n bytes le)
    (bounded_if (Any {A = Form}) n (eqb tag bitntype) _ _ (sized_bounded bit_form n bytes le)
    (bounded_if (Any {A = Form}) n (eqb tag nvarchartype) _ _ (long_bounded units_form n bytes le)
    (bounded_if (Any {A = Form}) n (eqb tag bigvarchartype) _ _ (long_bounded bytes_form n bytes le) tt)))

type_bounded : (n : ℕ) (bytes : List ℕ) → length bytes ≤ n → Bounded {A = Form} Any n (type_at bytes)
unfolding type_at
type_bounded n bytes le = bounded_then (Any {A = ℕ}) (Any {A = Form}) n (byte_at bytes) _ (byte_bounded n bytes le) (λ x any left. tagged_bounded x.0 n bytes le)

-- ---- values

-- a text has at most so many units
abbrev pub IsSmall : ℕ → Value → Type 0
IsSmall n (Text units) = length units ≤ n
IsSmall n Null = Unit {0}
IsSmall n (Whole number) = Unit {0}
IsSmall n (Bit bit) = Unit {0}

ntext_bounded : (size count n : ℕ) (bytes rest : List ℕ) → length rest ≤ n → Bounded (IsSmall n) n (ntext_of size count bytes rest)
unfolding ntext_of
ntext_bounded size count n bytes rest le = bounded_if (IsSmall n) n (eqb count charbin_null) _ _ (tt, le)
    (bounded_if (IsSmall n) n (eqb (count % 2) 1 || ltb (2 * size) count) _ _ tt
    (bounded_then (AtMost n) (IsSmall n) n (units_at (count / 2) rest) _ (units_bounded (count / 2) n rest le) (λ x few left. (few, left))))

ascii_bounded : (size count n : ℕ) (bytes rest : List ℕ) → length rest ≤ n → Bounded (IsSmall n) n (ascii_of size count bytes rest)
unfolding ascii_of
ascii_bounded size count n bytes rest le = bounded_if (IsSmall n) n (eqb count charbin_null) _ _ (tt, le)
    (bounded_if (IsSmall n) n (ltb size count) _ _ tt
    (bounded_then (AtMost n) (IsSmall n) n (bytes_at count rest) _ (bytes_bounded count n rest le) (λ x few left. bounded_if (IsSmall n) n (is_ascii x.0) _ _ (few, left) tt)))

filled_small : (n : ℕ) (kind : SqlType) (bytes : List ℕ) → IsSmall n (filled kind bytes)
filled_small n TinyInt bytes = tt
filled_small n SmallInt bytes = tt
filled_small n Int bytes = tt
filled_small n BigInt bytes = tt
filled_small n BitType bytes = tt
filled_small n (NText size) bytes = tt

pub filled_bounded : (kind : SqlType) (count n : ℕ) (bytes rest : List ℕ) → length rest ≤ n → Bounded (IsSmall n) n (filled_of kind count bytes rest)
unfolding filled_of
filled_bounded kind count n bytes rest le = bounded_if (IsSmall n) n (eqb count 0) _ _ (tt, le)
    (bounded_if (IsSmall n) n (eqb count (size_of kind)) _ _
    (bounded_then (AtMost n) (IsSmall n) n (bytes_at (size_of kind) rest) _ (bytes_bounded (size_of kind) n rest le) (λ x few left. (filled_small n kind x.0, left))) tt)

value_bounded : (form : Form) (n : ℕ) (bytes : List ℕ) → length bytes ≤ n → Bounded (IsSmall n) n (value_at form bytes)
unfolding value_at
value_bounded (Units size) n bytes le = bounded_then (Any {A = ℕ}) (IsSmall n) n (short_at bytes) _ (short_bounded n bytes le) (λ x any left. ntext_bounded size x.0 n bytes x.1 left)
value_bounded (Bytes size) n bytes le = bounded_then (Any {A = ℕ}) (IsSmall n) n (short_at bytes) _ (short_bounded n bytes le) (λ x any left. ascii_bounded size x.0 n bytes x.1 left)
value_bounded (Number kind) n bytes le = bounded_then (Any {A = ℕ}) (IsSmall n) n (byte_at bytes) _ (byte_bounded n bytes le) (λ x any left. filled_bounded kind x.0 n bytes x.1 left)

-- ---- parameters

abbrev pub HasSmall : ℕ → RpcParameter → Type 0
HasSmall n parameter = IsSmall n parameter.value

named_bounded : (n : ℕ) (name bytes : List ℕ) → length bytes ≤ n → Bounded (HasSmall n) n (named_at name bytes)
unfolding named_at
named_bounded n name bytes le = bounded_then (Any {A = ℕ}) (HasSmall n) n (byte_at bytes) _ (byte_bounded n bytes le) (λ status any left.
    bounded_then (Any {A = Form}) (HasSmall n) n (type_at status.1) _ (type_bounded n status.1 left) (λ form any left.
    bounded_then (IsSmall n) (HasSmall n) n (value_at form.0 form.1) _ (value_bounded form.0 n form.1 left) (λ value small left. (small, left))))

parameter_bounded : (n : ℕ) (bytes : List ℕ) → length bytes ≤ n → Bounded (HasSmall n) n (parameter_at bytes)
unfolding parameter_at counted_at
parameter_bounded n bytes le = bounded_then (Any {A = ℕ}) (HasSmall n) n (byte_at bytes) _ (byte_bounded n bytes le) (λ count any left.
    bounded_if (HasSmall n) n (ltb name_limit count.0) _ _ tt
    (bounded_then (AtMost n) (HasSmall n) n (units_at count.0 count.1) _ (units_bounded count.0 n count.1 left) (λ name few left. named_bounded n name.0 name.1 left)))

abbrev pub AreSmall : ℕ → Result (List RpcParameter) Refusal → Type 0
AreSmall n (Ok parameters) = AllByRecursion (HasSmall n) parameters
AreSmall n (Err refusal) = Unit {0}

pub small_with : (n : ℕ) (first : RpcParameter) (r : Result (List RpcParameter) Refusal) → HasSmall n first → AreSmall n r → AreSmall n (r >>= λ others. Ok (first ∷ others))
small_with n first (Ok others) one all = (one, all)
small_with n first (Err refusal) one all = tt

parameters_small : (most n : ℕ) (bytes : List ℕ) → length bytes ≤ n → AreSmall n (parameters_at most bytes)
unfolding parameters_at
parameters_small zero n [] le = tt
parameters_small (suc most) n [] le = tt
parameters_small zero n (byte ∷ bytes) le = tt
parameters_small (suc most) n (byte ∷ bytes) le = by_first (parameter_at (byte ∷ bytes)) (parameter_bounded n (byte ∷ bytes) le) (λ rest left. parameters_small most n rest left)
  where
    by_first : (r : Result (RpcParameter × List ℕ) Refusal) → Bounded (HasSmall n) n r → ((rest : List ℕ) → length rest ≤ n → AreSmall n (parameters_at most rest)) → AreSmall n (r >>= λ first. parameters_at most first.1 >>= λ others. Ok (first.0 ∷ others))
    by_first (Ok first) bounded more = small_with n first.0 (parameters_at most first.1) bounded.0 (more first.1 bounded.1)
    by_first (Err refusal) bounded more = tt

-- ---- calls

abbrev pub HasShort : ℕ → RpcTarget → Type 0
HasShort n (Named name) = length name ≤ n
HasShort n ExecuteSql = Unit {0}

target_bounded : (n : ℕ) (bytes : List ℕ) → length bytes ≤ n → Bounded (HasShort n) n (target_at bytes)
unfolding target_at target_of numbered_at numbered_of
target_bounded n bytes le = bounded_then (Any {A = ℕ}) (HasShort n) n (short_at bytes) _ (short_bounded n bytes le) (λ count any left.
    bounded_if (HasShort n) n (eqb count.0 by_number) _ _
    (bounded_then (Any {A = ℕ}) (HasShort n) n (short_at count.1) _ (short_bounded n count.1 left) (λ number any left. bounded_if (HasShort n) n (eqb number.0 sp_executesql) _ _ (tt, left) tt))
    (bounded_then (AtMost n) (HasShort n) n (units_at count.0 count.1) _ (units_bounded count.0 n count.1 left) (λ name few left. (few, left))))

-- the procedure's name and all texts have at most so many units
abbrev pub IsSmallCall : ℕ → RpcCall → Type 0
IsSmallCall n call = HasShort n call.target × AllByRecursion (HasSmall n) call.parameters

abbrev AnswersSmall : ℕ → Result RpcCall Refusal → Type 0
AnswersSmall n (Ok call) = IsSmallCall n call
AnswersSmall n (Err refusal) = Unit {0}

call_small : (n : ℕ) (bytes : List ℕ) → length bytes ≤ n → AnswersSmall n (call_at bytes)
unfolding call_at
call_small n bytes le = by_target (target_at bytes) (target_bounded n bytes le)
  where
    by_parameters : (target : RpcTarget) → HasShort n target → (r : Result (List RpcParameter) Refusal) → AreSmall n r → AnswersSmall n (r >>= λ parameters. Ok (record { target = target; parameters = parameters }))
    by_parameters target short (Ok parameters) small = (short, small)
    by_parameters target short (Err refusal) small = tt

    by_flags : (target : RpcTarget) → HasShort n target → (r : Result (List ℕ × List ℕ) Refusal) → Bounded (AtMost n) n r
        → AnswersSmall n (r >>= λ flags. parameters_at (length flags.1) flags.1 >>= λ parameters. Ok (record { target = target; parameters = parameters }))
    by_flags target short (Ok flags) bounded = by_parameters target short (parameters_at (length flags.1) flags.1) (parameters_small (length flags.1) n flags.1 bounded.1)
    by_flags target short (Err refusal) bounded = tt

    by_target : (r : Result (RpcTarget × List ℕ) Refusal) → Bounded (HasShort n) n r
        → AnswersSmall n (r >>= λ target. bytes_at 2 target.1 >>= λ flags. parameters_at (length flags.1) flags.1 >>= λ parameters. Ok (record { target = target.0; parameters = parameters }))
    by_target (Ok target) bounded = by_flags target.0 bounded.0 (bytes_at 2 target.1) (bytes_bounded 2 n target.1 bounded.1)
    by_target (Err refusal) bounded = tt

whole_small : (payload : List ℕ) → AnswersSmall (length payload) (whole_call payload)
unfolding whole_call behind_headers
whole_small payload = by_test ((ltb (length payload) 4 || ltb (little_number 4 payload) 4) || ltb (length payload) (little_number 4 payload))
  where
    by_test : (bad : Bool) → AnswersSmall (length payload) (cond bad (refuse kinds.Headers payload) (Ok (drop (little_number 4 payload) payload)) >>= call_at)
    by_test true = tt
    by_test false = call_small (length payload) (drop (little_number 4 payload) payload) (omega (arith, length-drop (little_number 4 payload) payload))

small_by : (size n : ℕ) (r : Result RpcCall Refusal) (call : RpcCall) → placed size r ≡ Ok call → AnswersSmall n r → IsSmallCall n call
small_by size n (Ok given) call is small = subst (IsSmallCall n) (let same : given ≡ call = cc in same) small
small_by size n (Err refusal) call is small = absurd cc

pub rpc_small : (payload : List ℕ) (call : RpcCall) → rpc_of payload ≡ Ok call → IsSmallCall (length payload) call
unfolding rpc_of
rpc_small payload call is = small_by (length payload) (length payload) (whole_call payload) call is (whole_small payload)
