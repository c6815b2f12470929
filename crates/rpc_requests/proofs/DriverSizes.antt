-- A driver's call has no text that is longer than the payload that says it.
use Rattle.std.proofs.Common.{◌≡◌, ℕ, zero, suc, ◌+◌, ◌-◌, ◌≤◌, Bool, true, false, cond, eqb, ltb, List, [], ◌∷◌, ◌++◌, length, length-take, drop, Option, None, Some, Result, Ok, Err, subst, arith}
use Rattle.std.specs.Prelude.{not, ◌||◌}
use Rattle.std.specs.List.{AllByRecursion}
use Rattle.std.proofs.lemmas.List.{length-append, length-drop, length-map}
use Rattle.byteorder.specs.Endian.{little_number}
use Rattle.rpc_requests.specs.declared.call.RpcParameter.{RpcParameter}
use Rattle.rpc_requests.specs.declared.call.DriverCall.{DriverCall}
use Rattle.rpc_requests.specs.declared.call.DriverProcedure.{DriverProcedure}
use Rattle.rpc_requests.specs.declared.call.DriverTarget.{DriverTarget}
use Rattle.rpc_requests.specs.declared.call.DriverTarget.TheVariants.{Named, System}
use Rattle.rpc_requests.specs.declared.types.Form.{Form}
use Rattle.rpc_requests.specs.declared.driver_types.DriverForm.{DriverForm}
use Rattle.rpc_requests.specs.declared.driver_types.DriverForm.TheVariants.{Number, Sized, Long, Chunks}
use Rattle.rpc_requests.specs.declared.fault.Refusal.{Refusal}
use Rattle.rpc_requests.specs.declared.fault.RpcKind.TheVariants as kinds
use Rattle.tds_tokens.specs.Spelling.{intntype, bitntype, nvarchartype}
use Rattle.rpc_requests.specs.Fit.{name_limit}
use Rattle.rpc_requests.specs.Spelling.{bigvarchartype, by_number, charbin_null}
use Rattle.rpc_requests.specs.Reading.{◌>>=◌, behind_headers, bit_form, byte_at, bytes_at, placed, refuse, short_at, units_at, whole_form}
use Rattle.rpc_requests.specs.Drivers.{bigchartype, bounded_text, chunk_at, chunked_of, chunks_at, driver_call_at, driver_call_of, driver_counted_at, driver_named_at, driver_parameter_at, driver_parameters_at, driver_tagged_at, driver_target_at, driver_target_of, driver_type_at, driver_value_at, is_half, joined_of, long_at, long_form_at, long_long_at, long_null, long_of, most_at, narrow_form, narrow_or_chunks, nchartype, ntexttype, number_form_at, front_count, plp_null, plp_unknown, procedure_of_name, procedure_of_number, sized_of, target_of_name, target_of_number, text_form_at, text_of, texttype, unit_of_byte, units_in, whole_driver_call, wide_form, wide_or_chunks}
use Rattle.rpc_requests.proofs.Sizes.{AtMost, Any, AreSmall, Bounded, HasSmall, IsSmall, bounded_if, bounded_then, byte_bounded, bytes_bounded, filled_bounded, formed_bounded, short_bounded, small_with, units_bounded, units_fewer}

-- ---- numbers and types

long_bounded : (n : ℕ) (bytes : List ℕ) → length bytes ≤ n → Bounded {A = ℕ} Any n (long_at bytes)
unfolding long_at
long_bounded n bytes le = bounded_then (AtMost n) (Any {A = ℕ}) n (bytes_at 4 bytes) _ (bytes_bounded 4 n bytes le) (λ x few left. (tt, left))

long_long_bounded : (n : ℕ) (bytes : List ℕ) → length bytes ≤ n → Bounded {A = ℕ} Any n (long_long_at bytes)
unfolding long_long_at
long_long_bounded n bytes le = bounded_then (AtMost n) (Any {A = ℕ}) n (bytes_at 8 bytes) _ (bytes_bounded 8 n bytes le) (λ x few left. (tt, left))

number_form_bounded : (form_of : ℕ → Option Form) (n : ℕ) (bytes : List ℕ) → length bytes ≤ n → Bounded {A = DriverForm} Any n (number_form_at form_of bytes)
unfolding number_form_at
number_form_bounded form_of n bytes le = bounded_then (AtMost n) (Any {A = DriverForm}) n (bytes_at 2 bytes) _ (bytes_bounded 2 n bytes le) (λ x few left. formed_bounded n bytes _ x.1 left)

text_form_bounded : (form_of : ℕ → Option DriverForm) (n : ℕ) (bytes : List ℕ) → length bytes ≤ n → Bounded {A = DriverForm} Any n (text_form_at form_of bytes)
unfolding text_form_at
text_form_bounded form_of n bytes le = bounded_then (AtMost n) (Any {A = DriverForm}) n (bytes_at 8 bytes) _ (bytes_bounded 8 n bytes le) (λ x few left. formed_bounded n bytes _ x.1 left)

long_form_bounded : (wide : Bool) (n : ℕ) (bytes : List ℕ) → length bytes ≤ n → Bounded {A = DriverForm} Any n (long_form_at wide bytes)
unfolding long_form_at
long_form_bounded wide n bytes le = bounded_then (AtMost n) (Any {A = DriverForm}) n (bytes_at 10 bytes) _ (bytes_bounded 10 n bytes le) (λ x few left. (tt, left))

tagged_bounded : (tag n : ℕ) (bytes : List ℕ) → length bytes ≤ n → Bounded {A = DriverForm} Any n (driver_tagged_at tag bytes)
unfolding driver_tagged_at
tagged_bounded tag n bytes le =
    bounded_if (Any {A = DriverForm}) n (eqb tag intntype) _ _ (number_form_bounded whole_form n bytes le)
    (bounded_if (Any {A = DriverForm}) n (eqb tag bitntype) _ _ (number_form_bounded bit_form n bytes le)
    (bounded_if (Any {A = DriverForm}) n (eqb tag nvarchartype) _ _ (text_form_bounded wide_or_chunks n bytes le)
    (bounded_if (Any {A = DriverForm}) n (eqb tag bigvarchartype) _ _ (text_form_bounded narrow_or_chunks n bytes le)
    (bounded_if (Any {A = DriverForm}) n (eqb tag nchartype) _ _ (text_form_bounded wide_form n bytes le)
    (bounded_if (Any {A = DriverForm}) n (eqb tag bigchartype) _ _ (text_form_bounded narrow_form n bytes le)
    (bounded_if (Any {A = DriverForm}) n (eqb tag ntexttype) _ _ (long_form_bounded true n bytes le)
    (bounded_if (Any {A = DriverForm}) n (eqb tag texttype) _ _ (long_form_bounded false n bytes le) tt)))))))

type_bounded : (n : ℕ) (bytes : List ℕ) → length bytes ≤ n → Bounded {A = DriverForm} Any n (driver_type_at bytes)
unfolding driver_type_at
type_bounded n bytes le = bounded_then (Any {A = ℕ}) (Any {A = DriverForm}) n (byte_at bytes) _ (byte_bounded n bytes le) (λ x any left. tagged_bounded x.0 n bytes le)

-- ---- values

-- there are no more units than bytes
units_in_fewer : (wide : Bool) (bytes : List ℕ) → length (units_in wide bytes) ≤ length bytes
units_in_fewer true bytes = units_fewer bytes
units_in_fewer false bytes = omega (arith, length-map bytes unit_of_byte)

text_bounded : (most n : ℕ) (wide : Bool) (start bytes rest : List ℕ) → length bytes ≤ n → length rest ≤ n → Bounded (IsSmall n) n (bounded_text most start (units_in wide bytes) rest)
text_bounded most n wide start bytes rest few left = bounded_if (IsSmall n) n (ltb most (length (units_in wide bytes))) _ _ tt (omega (arith, units_in_fewer wide bytes, few), left)

text_of_bounded : (most : ℕ) (wide : Bool) (count n : ℕ) (start rest : List ℕ) → length rest ≤ n → Bounded (IsSmall n) n (text_of most wide count start rest)
unfolding text_of
text_of_bounded most wide count n start rest le = bounded_if (IsSmall n) n (is_half wide count) _ _ tt
    (bounded_then (AtMost n) (IsSmall n) n (bytes_at count rest) _ (bytes_bounded count n rest le) (λ x few left. text_bounded most n wide start x.0 x.1 few left))

sized_bounded : (most : ℕ) (wide : Bool) (size count n : ℕ) (start rest : List ℕ) → length rest ≤ n → Bounded (IsSmall n) n (sized_of most wide size count start rest)
unfolding sized_of
sized_bounded most wide size count n start rest le = bounded_if (IsSmall n) n (eqb count charbin_null) _ _ (tt, le)
    (bounded_if (IsSmall n) n (ltb size count) _ _ tt (text_of_bounded most wide count n start rest le))

long_of_bounded : (most : ℕ) (wide : Bool) (count n : ℕ) (start rest : List ℕ) → length rest ≤ n → Bounded (IsSmall n) n (long_of most wide count start rest)
unfolding long_of
long_of_bounded most wide count n start rest le = bounded_if (IsSmall n) n (eqb count long_null) _ _ (tt, le) (text_of_bounded most wide count n start rest le)

-- what is read and what is left have at most so many bytes together
abbrev Splits : ℕ → Result (List ℕ × List ℕ) Refusal → Type 0
Splits n (Ok x) = length x.0 + length x.1 ≤ n
Splits n (Err refusal) = Unit {0}

splits_if : (n : ℕ) (test : Bool) (x y : Result (List ℕ × List ℕ) Refusal) → Splits n x → Splits n y → Splits n (cond test x y)
splits_if n true x y one two = one
splits_if n false x y one two = two

splits_then : {A : Type 0} (P : A → Type 0) (n m : ℕ) (r : Result (A × List ℕ) Refusal) (f : A × List ℕ → Result (List ℕ × List ℕ) Refusal) → Bounded P n r → ((x : A × List ℕ) → length x.1 ≤ n → Splits m (f x)) → Splits m (r >>= f)
splits_then P n m (Ok x) f h g = g x h.1
splits_then P n m (Err refusal) f h g = tt

bytes_split : (count n : ℕ) (bytes : List ℕ) → length bytes ≤ n → Splits n (bytes_at count bytes)
unfolding bytes_at
bytes_split count n bytes le = splits_if n (ltb (length bytes) count) _ _ tt (omega (arith, length-take count bytes, length-drop count bytes, le))

chunk_splits : (n : ℕ) (bytes : List ℕ) → length bytes ≤ n → Splits n (chunk_at bytes)
unfolding chunk_at
chunk_splits n bytes le = splits_then (Any {A = ℕ}) n n (long_at bytes) _ (long_bounded n bytes le) (λ x left. bytes_split x.0 n x.1 left)

-- one more chunk in front of the others
splits_more : (n : ℕ) (front rest : List ℕ) (r : Result (List ℕ × List ℕ) Refusal) → length front + length rest ≤ n → Splits (length rest) r → Splits n (r >>= λ others. Ok (front ++ others.0, others.1))
splits_more n front rest (Ok x) le h = omega (arith, length-append front x.0, h, le)
splits_more n front rest (Err refusal) le h = tt

chunks_split : (most n : ℕ) (bytes : List ℕ) → length bytes ≤ n → Splits n (chunks_at most bytes)
unfolding chunks_at
chunks_split zero n bytes le = tt
chunks_split (suc most) n bytes le = by_chunk (chunk_at bytes) (chunk_splits n bytes le) (λ rest. chunks_split most (length rest) rest (omega arith))
  where
    by_chunk : (r : Result (List ℕ × List ℕ) Refusal) → Splits n r → ((rest : List ℕ) → Splits (length rest) (chunks_at most rest))
        → Splits n (r >>= λ chunk. cond (eqb (length chunk.0) 0) (Ok chunk) (chunks_at most chunk.1 >>= λ others. Ok (chunk.0 ++ others.0, others.1)))
    by_chunk (Ok x) h more = splits_if n (eqb (length x.0) 0) _ _ h (splits_more n x.0 x.1 (chunks_at most x.1) h (more x.1))
    by_chunk (Err refusal) h more = tt

joined_bounded : (most : ℕ) (wide : Bool) (told n : ℕ) (start joined rest : List ℕ) → length joined + length rest ≤ n → Bounded (IsSmall n) n (joined_of most wide told start joined rest)
joined_bounded most wide told n start joined rest le = bounded_if (IsSmall n) n (not (eqb told plp_unknown || eqb told (length joined)) || is_half wide (length joined)) _ _ tt
    (text_bounded most n wide start joined rest (omega (arith, le)) (omega (arith, le)))

chunked_bounded : (most : ℕ) (wide : Bool) (told n : ℕ) (start rest : List ℕ) → length rest ≤ n → Bounded (IsSmall n) n (chunked_of most wide told start rest)
unfolding chunked_of
chunked_bounded most wide told n start rest le = bounded_if (IsSmall n) n (eqb told plp_null) _ _ (tt, le) (by_chunks (chunks_at (length rest) rest) (chunks_split (length rest) n rest le))
  where
    by_chunks : (r : Result (List ℕ × List ℕ) Refusal) → Splits n r → Bounded (IsSmall n) n (r >>= λ chunks. joined_of most wide told start chunks.0 chunks.1)
    by_chunks (Ok x) h = joined_bounded most wide told n start x.0 x.1 h
    by_chunks (Err refusal) h = tt

value_bounded : (most : ℕ) (form : DriverForm) (n : ℕ) (bytes : List ℕ) → length bytes ≤ n → Bounded (IsSmall n) n (driver_value_at most form bytes)
unfolding driver_value_at
value_bounded most (Number kind) n bytes le = bounded_then (Any {A = ℕ}) (IsSmall n) n (byte_at bytes) _ (byte_bounded n bytes le) (λ x any left. filled_bounded kind x.0 n bytes x.1 left)
value_bounded most (Sized wide size) n bytes le = bounded_then (Any {A = ℕ}) (IsSmall n) n (short_at bytes) _ (short_bounded n bytes le) (λ x any left. sized_bounded most wide size x.0 n bytes x.1 left)
value_bounded most (Long wide) n bytes le = bounded_then (Any {A = ℕ}) (IsSmall n) n (long_at bytes) _ (long_bounded n bytes le) (λ x any left. long_of_bounded most wide x.0 n bytes x.1 left)
value_bounded most (Chunks wide) n bytes le = bounded_then (Any {A = ℕ}) (IsSmall n) n (long_long_at bytes) _ (long_long_bounded n bytes le) (λ x any left. chunked_bounded most wide x.0 n bytes x.1 left)

-- ---- parameters

named_bounded : (most n : ℕ) (name bytes : List ℕ) → length bytes ≤ n → Bounded (HasSmall n) n (driver_named_at most name bytes)
unfolding driver_named_at
named_bounded most n name bytes le = bounded_then (Any {A = ℕ}) (HasSmall n) n (byte_at bytes) _ (byte_bounded n bytes le) (λ status any left.
    bounded_then (Any {A = DriverForm}) (HasSmall n) n (driver_type_at status.1) _ (type_bounded n status.1 left) (λ form any left.
    bounded_then (IsSmall n) (HasSmall n) n (driver_value_at most form.0 form.1) _ (value_bounded most form.0 n form.1 left) (λ value small left. (small, left))))

parameter_bounded : (most n : ℕ) (bytes : List ℕ) → length bytes ≤ n → Bounded (HasSmall n) n (driver_parameter_at most bytes)
unfolding driver_parameter_at driver_counted_at
parameter_bounded most n bytes le = bounded_then (Any {A = ℕ}) (HasSmall n) n (byte_at bytes) _ (byte_bounded n bytes le) (λ count any left.
    bounded_if (HasSmall n) n (ltb name_limit count.0) _ _ tt
    (bounded_then (AtMost n) (HasSmall n) n (units_at count.0 count.1) _ (units_bounded count.0 n count.1 left) (λ name few left. named_bounded most n name.0 name.1 left)))

parameters_small : (ahead size most n : ℕ) (bytes : List ℕ) → length bytes ≤ n → AreSmall n (driver_parameters_at ahead size most bytes)
unfolding driver_parameters_at
parameters_small ahead size zero n [] le = tt
parameters_small ahead size (suc most) n [] le = tt
parameters_small ahead size zero n (byte ∷ bytes) le = tt
parameters_small ahead size (suc most) n (byte ∷ bytes) le =
    by_first (driver_parameter_at (most_at ahead size) (byte ∷ bytes)) (parameter_bounded (most_at ahead size) n (byte ∷ bytes) le) (λ rest left. parameters_small (ahead - 1) size most n rest left)
  where
    by_first : (r : Result (RpcParameter × List ℕ) Refusal) → Bounded (HasSmall n) n r → ((rest : List ℕ) → length rest ≤ n → AreSmall n (driver_parameters_at (ahead - 1) size most rest))
        → AreSmall n (r >>= λ first. driver_parameters_at (ahead - 1) size most first.1 >>= λ others. Ok (first.0 ∷ others))
    by_first (Ok first) bounded more = small_with n first.0 (driver_parameters_at (ahead - 1) size most first.1) bounded.0 (more first.1 bounded.1)
    by_first (Err refusal) bounded more = tt

-- ---- calls

abbrev pub HasShort : ℕ → DriverTarget → Type 0
HasShort n (Named name) = length name ≤ n
HasShort n (System procedure) = Unit {0}

short_name : (n : ℕ) (name : List ℕ) (procedure : Option DriverProcedure) → length name ≤ n → HasShort n (target_of_name name procedure)
short_name n name None le = le
short_name n name (Some procedure) le = tt

numbered_bounded : (n : ℕ) (bytes : List ℕ) (procedure : Option DriverProcedure) (rest : List ℕ) → length rest ≤ n → Bounded (HasShort n) n (target_of_number bytes procedure rest)
numbered_bounded n bytes None rest le = tt
numbered_bounded n bytes (Some procedure) rest le = (tt, le)

target_bounded : (n : ℕ) (bytes : List ℕ) → length bytes ≤ n → Bounded (HasShort n) n (driver_target_at bytes)
unfolding driver_target_at driver_target_of
target_bounded n bytes le = bounded_then (Any {A = ℕ}) (HasShort n) n (short_at bytes) _ (short_bounded n bytes le) (λ count any left.
    bounded_if (HasShort n) n (eqb count.0 by_number) _ _
    (bounded_then (Any {A = ℕ}) (HasShort n) n (short_at count.1) _ (short_bounded n count.1 left) (λ number any left. numbered_bounded n count.1 (procedure_of_number number.0) number.1 left))
    (bounded_then (AtMost n) (HasShort n) n (units_at count.0 count.1) _ (units_bounded count.0 n count.1 left) (λ name few left. (short_name n name.0 (procedure_of_name name.0) few, left))))

-- the procedure's name and all texts have at most so many units
abbrev pub IsSmallCall : ℕ → DriverCall → Type 0
IsSmallCall n call = HasShort n call.target × AllByRecursion (HasSmall n) call.parameters

abbrev AnswersSmall : ℕ → Result DriverCall Refusal → Type 0
AnswersSmall n (Ok call) = IsSmallCall n call
AnswersSmall n (Err refusal) = Unit {0}

call_small : (size n : ℕ) (bytes : List ℕ) → length bytes ≤ n → AnswersSmall n (driver_call_at size bytes)
unfolding driver_call_at
call_small size n bytes le = by_target (driver_target_at bytes) (target_bounded n bytes le)
  where
    by_parameters : (target : DriverTarget) → HasShort n target → (r : Result (List RpcParameter) Refusal) → AreSmall n r → AnswersSmall n (r >>= λ parameters. Ok (record { target = target; parameters = parameters }))
    by_parameters target short (Ok parameters) small = (short, small)
    by_parameters target short (Err refusal) small = tt

    by_flags : (target : DriverTarget) → HasShort n target → (r : Result (List ℕ × List ℕ) Refusal) → Bounded (AtMost n) n r
        → AnswersSmall n (r >>= λ flags. driver_parameters_at (front_count target) size (length flags.1) flags.1 >>= λ parameters. Ok (record { target = target; parameters = parameters }))
    by_flags target short (Ok flags) bounded = by_parameters target short (driver_parameters_at (front_count target) size (length flags.1) flags.1) (parameters_small (front_count target) size (length flags.1) n flags.1 bounded.1)
    by_flags target short (Err refusal) bounded = tt

    by_target : (r : Result (DriverTarget × List ℕ) Refusal) → Bounded (HasShort n) n r
        → AnswersSmall n (r >>= λ target. bytes_at 2 target.1 >>= λ flags. driver_parameters_at (front_count target.0) size (length flags.1) flags.1 >>= λ parameters. Ok (record { target = target.0; parameters = parameters }))
    by_target (Ok target) bounded = by_flags target.0 bounded.0 (bytes_at 2 target.1) (bytes_bounded 2 n target.1 bounded.1)
    by_target (Err refusal) bounded = tt

whole_small : (payload : List ℕ) → AnswersSmall (length payload) (whole_driver_call payload)
unfolding whole_driver_call behind_headers
whole_small payload = by_test ((ltb (length payload) 4 || ltb (little_number 4 payload) 4) || ltb (length payload) (little_number 4 payload))
  where
    by_test : (bad : Bool) → AnswersSmall (length payload) (cond bad (refuse kinds.Headers payload) (Ok (drop (little_number 4 payload) payload)) >>= driver_call_at (length payload))
    by_test true = tt
    by_test false = call_small (length payload) (length payload) (drop (little_number 4 payload) payload) (omega (arith, length-drop (little_number 4 payload) payload))

small_by : (size n : ℕ) (r : Result DriverCall Refusal) (call : DriverCall) → placed size r ≡ Ok call → AnswersSmall n r → IsSmallCall n call
small_by size n (Ok given) call is small = subst (IsSmallCall n) (let same : given ≡ call = cc in same) small
small_by size n (Err refusal) call is small = absurd cc

pub driver_small : (payload : List ℕ) (call : DriverCall) → driver_call_of payload ≡ Ok call → IsSmallCall (length payload) call
unfolding driver_call_of
driver_small payload call is = small_by (length payload) (length payload) (whole_driver_call payload) call is (whole_small payload)
