-- A reader of a driver's call leaves no more bytes than it got, and a parameter and a chunk leave fewer.
use Rattle.std.proofs.Common.{ℕ, zero, suc, ◌≤◌, Bool, true, false, eqb, ltb, List, ◌∷◌, length, Option, arith}
use Rattle.std.specs.Prelude.{not, ◌||◌}
use Rattle.std.proofs.lemmas.List.{length-drop}
use Rattle.rpc_requests.specs.declared.types.Form.{Form}
use Rattle.rpc_requests.specs.declared.driver_types.DriverForm.{DriverForm}
use Rattle.rpc_requests.specs.declared.driver_types.DriverForm.TheVariants.{Number, Sized, Long, Chunks}
use Rattle.rpc_requests.specs.Fit.{name_limit}
use Rattle.tds_tokens.specs.Spelling.{intntype, bitntype, nvarchartype}
use Rattle.rpc_requests.specs.Spelling.{bigvarchartype, charbin_null}
use Rattle.rpc_requests.specs.Reading.{bytes_at, byte_at, short_at, units_at, whole_form, bit_form}
use Rattle.rpc_requests.specs.Drivers.{bigchartype, bounded_text, chunk_at, chunked_of, chunks_at, driver_counted_at, driver_named_at, driver_parameter_at, driver_tagged_at, driver_type_at, driver_value_at, is_half, joined_of, long_at, long_form_at, long_long_at, long_null, long_of, narrow_form, narrow_or_chunks, nchartype, ntexttype, number_form_at, plp_null, plp_unknown, sized_of, text_form_at, text_of, texttype, units_in, wide_form, wide_or_chunks}
use Rattle.rpc_requests.proofs.Shrinks.{Leaves, leaves_then, leaves_if, bytes_leave, byte_leaves, short_leaves, units_leave, formed_leaves, filled_leaves}

-- ---- types

number_form_leaves : (form_of : ℕ → Option Form) (n : ℕ) (bytes : List ℕ) → length bytes ≤ n → Leaves n (number_form_at form_of bytes)
unfolding number_form_at
number_form_leaves form_of n bytes le = leaves_then n n (bytes_at 2 bytes) _ (bytes_leave 2 n bytes le) (λ x h. formed_leaves n bytes _ x.1 h)

text_form_leaves : (form_of : ℕ → Option DriverForm) (n : ℕ) (bytes : List ℕ) → length bytes ≤ n → Leaves n (text_form_at form_of bytes)
unfolding text_form_at
text_form_leaves form_of n bytes le = leaves_then n n (bytes_at 8 bytes) _ (bytes_leave 8 n bytes le) (λ x h. formed_leaves n bytes _ x.1 h)

long_form_leaves : (wide : Bool) (n : ℕ) (bytes : List ℕ) → length bytes ≤ n → Leaves n (long_form_at wide bytes)
unfolding long_form_at
long_form_leaves wide n bytes le = leaves_then n n (bytes_at 10 bytes) _ (bytes_leave 10 n bytes le) (λ x h. h)

tagged_leaves : (tag n : ℕ) (bytes : List ℕ) → length bytes ≤ n → Leaves n (driver_tagged_at tag bytes)
unfolding driver_tagged_at
tagged_leaves tag n bytes le =
    leaves_if n (eqb tag intntype) _ _ (number_form_leaves whole_form n bytes le)
    (leaves_if n (eqb tag bitntype) _ _ (number_form_leaves bit_form n bytes le)
    (leaves_if n (eqb tag nvarchartype) _ _ (text_form_leaves wide_or_chunks n bytes le)
    (leaves_if n (eqb tag bigvarchartype) _ _ (text_form_leaves narrow_or_chunks n bytes le)
    (leaves_if n (eqb tag nchartype) _ _ (text_form_leaves wide_form n bytes le)
    (leaves_if n (eqb tag bigchartype) _ _ (text_form_leaves narrow_form n bytes le)
    (leaves_if n (eqb tag ntexttype) _ _ (long_form_leaves true n bytes le)
    (leaves_if n (eqb tag texttype) _ _ (long_form_leaves false n bytes le) tt)))))))

type_leaves : (n : ℕ) (bytes : List ℕ) → length bytes ≤ n → Leaves n (driver_type_at bytes)
unfolding driver_type_at
type_leaves n bytes le = leaves_then n n (byte_at bytes) _ (byte_leaves n bytes le) (λ x h. tagged_leaves x.0 n bytes le)

-- ---- values

-- the four bytes are gone
long_less : (n : ℕ) (bytes : List ℕ) → length bytes ≤ suc n → Leaves n (long_at bytes)
unfolding long_at bytes_at
long_less n bytes le = leaves_then n n (bytes_at 4 bytes) _ (leaves_if n (ltb (length bytes) 4) _ _ tt (omega (arith, length-drop 4 bytes))) (λ x h. h)

long_long_leaves : (n : ℕ) (bytes : List ℕ) → length bytes ≤ n → Leaves n (long_long_at bytes)
unfolding long_long_at
long_long_leaves n bytes le = leaves_then n n (bytes_at 8 bytes) _ (bytes_leave 8 n bytes le) (λ x h. h)

bounded_leaves : (most n : ℕ) (start units rest : List ℕ) → length rest ≤ n → Leaves n (bounded_text most start units rest)
bounded_leaves most n start units rest le = leaves_if n (ltb most (length units)) _ _ tt le

text_leaves : (most : ℕ) (wide : Bool) (count n : ℕ) (start rest : List ℕ) → length rest ≤ n → Leaves n (text_of most wide count start rest)
unfolding text_of
text_leaves most wide count n start rest le = leaves_if n (is_half wide count) _ _ tt
    (leaves_then n n (bytes_at count rest) _ (bytes_leave count n rest le) (λ x h. bounded_leaves most n start (units_in wide x.0) x.1 h))

sized_leaves : (most : ℕ) (wide : Bool) (size count n : ℕ) (start rest : List ℕ) → length rest ≤ n → Leaves n (sized_of most wide size count start rest)
unfolding sized_of
sized_leaves most wide size count n start rest le = leaves_if n (eqb count charbin_null) _ _ le
    (leaves_if n (ltb size count) _ _ tt (text_leaves most wide count n start rest le))

long_of_leaves : (most : ℕ) (wide : Bool) (count n : ℕ) (start rest : List ℕ) → length rest ≤ n → Leaves n (long_of most wide count start rest)
unfolding long_of
long_of_leaves most wide count n start rest le = leaves_if n (eqb count long_null) _ _ le (text_leaves most wide count n start rest le)

-- its length is gone
pub chunk_leaves : (n : ℕ) (bytes : List ℕ) → length bytes ≤ suc n → Leaves n (chunk_at bytes)
unfolding chunk_at
chunk_leaves n bytes le = leaves_then n n (long_at bytes) _ (long_less n bytes le) (λ x h. bytes_leave x.0 n x.1 h)

chunks_leave : (most n : ℕ) (bytes : List ℕ) → length bytes ≤ n → Leaves n (chunks_at most bytes)
unfolding chunks_at
chunks_leave zero n bytes le = tt
chunks_leave (suc most) n bytes le = leaves_then n n (chunk_at bytes) _ (chunk_leaves n bytes (omega arith)) (λ x h. leaves_if n (eqb (length x.0) 0) _ _ h
    (leaves_then n n (chunks_at most x.1) _ (chunks_leave most n x.1 h) (λ y g. g)))

joined_leaves : (most : ℕ) (wide : Bool) (told n : ℕ) (start joined rest : List ℕ) → length rest ≤ n → Leaves n (joined_of most wide told start joined rest)
joined_leaves most wide told n start joined rest le = leaves_if n (not (eqb told plp_unknown || eqb told (length joined)) || is_half wide (length joined)) _ _ tt
    (bounded_leaves most n start (units_in wide joined) rest le)

chunked_leaves : (most : ℕ) (wide : Bool) (told n : ℕ) (start rest : List ℕ) → length rest ≤ n → Leaves n (chunked_of most wide told start rest)
unfolding chunked_of
chunked_leaves most wide told n start rest le = leaves_if n (eqb told plp_null) _ _ le
    (leaves_then n n (chunks_at (length rest) rest) _ (chunks_leave (length rest) n rest le) (λ x h. joined_leaves most wide told n start x.0 x.1 h))

value_leaves : (most : ℕ) (form : DriverForm) (n : ℕ) (bytes : List ℕ) → length bytes ≤ n → Leaves n (driver_value_at most form bytes)
unfolding driver_value_at
value_leaves most (Number kind) n bytes le = leaves_then n n (byte_at bytes) _ (byte_leaves n bytes le) (λ x h. filled_leaves kind x.0 n bytes x.1 h)
value_leaves most (Sized wide size) n bytes le = leaves_then n n (short_at bytes) _ (short_leaves n bytes le) (λ x h. sized_leaves most wide size x.0 n bytes x.1 h)
value_leaves most (Long wide) n bytes le = leaves_then n n (long_at bytes) _ (long_less n bytes (omega arith)) (λ x h. long_of_leaves most wide x.0 n bytes x.1 h)
value_leaves most (Chunks wide) n bytes le = leaves_then n n (long_long_at bytes) _ (long_long_leaves n bytes le) (λ x h. chunked_leaves most wide x.0 n bytes x.1 h)

-- ---- parameters

named_leaves : (most : ℕ) (name : List ℕ) (n : ℕ) (bytes : List ℕ) → length bytes ≤ n → Leaves n (driver_named_at most name bytes)
unfolding driver_named_at
named_leaves most name n bytes le =
    leaves_then n n (byte_at bytes) _ (byte_leaves n bytes le) (λ x h.
    leaves_then n n (driver_type_at x.1) _ (type_leaves n x.1 h) (λ y g.
    leaves_then n n (driver_value_at most y.0 y.1) _ (value_leaves most y.0 n y.1 g) (λ z f. f)))

counted_leaves : (most count n : ℕ) (start rest : List ℕ) → length rest ≤ n → Leaves n (driver_counted_at most count start rest)
unfolding driver_counted_at
counted_leaves most count n start rest le = leaves_if n (ltb name_limit count) _ _ tt
    (leaves_then n n (units_at count rest) _ (units_leave count n rest le) (λ x h. named_leaves most x.0 n x.1 h))

-- the count of a parameter's name is gone
pub parameter_leaves : (most byte : ℕ) (bytes : List ℕ) → Leaves (length bytes) (driver_parameter_at most (byte ∷ bytes))
unfolding driver_parameter_at byte_at
parameter_leaves most byte bytes = counted_leaves most byte (length bytes) (byte ∷ bytes) bytes (omega arith)
