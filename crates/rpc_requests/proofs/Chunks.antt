-- Reading chunks one after another, as a loop does.
use Rattle.std.proofs.Common.{◌≡◌, ℕ, zero, suc, ◌<◌, ◌≤◌, Bool, true, false, cond, eqb, List, [], ◌∷◌, ◌++◌, length, Result, Ok, Err, refl, sym, ap, subst, ◌∙◌, append_assoc, arith}
use Rattle.std.proofs.lemmas.Bool.{eqb-true}
use Rattle.std.proofs.lemmas.List.{append-nil, nil_from_length}
use Rattle.rpc_requests.specs.declared.fault.Refusal.{Refusal}
use Rattle.rpc_requests.specs.declared.fault.ReadFault.{ReadFault}
use Rattle.rpc_requests.specs.declared.fault.ReadFault.TheVariants as faults
use Rattle.rpc_requests.specs.Reading.{◌>>=◌, Fails, bytes_at}
use Rattle.rpc_requests.specs.Drivers.{chunk_at, chunks_at, long_at}
use Rattle.rpc_requests.proofs.Shrinks.{Leaves}
use Rattle.rpc_requests.proofs.DriverShrinks.{chunk_leaves}

-- bytes that were read before, and those that are still read
abbrev pub onto : List ℕ → Result (List ℕ × List ℕ) Refusal → Result (List ℕ × List ℕ) Refusal
onto front read = read >>= λ others. Ok (front ++ others.0, others.1)

-- a chunk is the last, or others stand behind it
abbrev Step : ℕ → List ℕ × List ℕ → Result (List ℕ × List ℕ) Refusal
Step most chunk = cond (eqb (length chunk.0) 0) (Ok chunk) (onto chunk.0 (chunks_at most chunk.1))

one_step : (n m : ℕ) (r : Result (List ℕ × List ℕ) Refusal) → Leaves n r → Leaves m r → ((after : List ℕ) → length after ≤ n → length after ≤ m → chunks_at n after ≡ chunks_at m after) → (r >>= Step n) ≡ (r >>= Step m)
one_step n m (Ok x) h g same = ap (λ (read : Result (List ℕ × List ℕ) Refusal). cond (eqb (length x.0) 0) (Ok x) (onto x.0 read)) (same x.1 h g)
one_step n m (Err refusal) h g same = refl

-- where nothing is left there is no chunk
none_left : (m : ℕ) → chunks_at zero [] ≡ chunks_at m []
unfolding chunks_at chunk_at long_at bytes_at
none_left zero = refl
none_left (suc m) = refl

more_is_enough : (n m : ℕ) (bytes : List ℕ) → length bytes ≤ n → length bytes ≤ m → chunks_at n bytes ≡ chunks_at m bytes
unfolding chunks_at
more_is_enough zero m [] a b = none_left m
more_is_enough zero m (byte ∷ bytes) a b = absurd (omega arith)
more_is_enough (suc n) zero [] a b = sym (none_left (suc n))
more_is_enough (suc n) zero (byte ∷ bytes) a b = absurd (omega arith)
more_is_enough (suc n) (suc m) bytes a b = one_step n m (chunk_at bytes) (chunk_leaves n bytes a) (chunk_leaves m bytes b) (λ after le lt. more_is_enough n m after le lt)

-- the chunks up to the last
abbrev pub all_chunks : List ℕ → Result (List ℕ × List ℕ) Refusal
all_chunks bytes = chunks_at (length bytes) bytes

-- the same, of which the first was read
abbrev pub all_from : List ℕ → List ℕ → Result (List ℕ × List ℕ) Refusal
all_from chunk rest = cond (eqb (length chunk) 0) (Ok (chunk, rest)) (onto chunk (all_chunks rest))

-- one more step does not matter
one_more : (bytes : List ℕ) → all_chunks bytes ≡ (chunk_at bytes >>= Step (length bytes))
unfolding chunks_at
one_more bytes = more_is_enough (length bytes) (suc (length bytes)) bytes (omega arith) (omega arith)

begun : (bytes chunk after : List ℕ) → chunk_at bytes ≡ Ok (chunk, after) → all_chunks bytes ≡ all_from chunk after
begun bytes chunk after h =
    let fewer : length after ≤ length bytes = subst (Leaves (length bytes)) h (chunk_leaves (length bytes) bytes (omega arith)) in
    let same : chunks_at (length bytes) after ≡ all_chunks after = more_is_enough (length bytes) (length after) after fewer (omega arith) in
    one_more bytes ∙ ap (λ (r : Result (List ℕ × List ℕ) Refusal). r >>= Step (length bytes)) h
    ∙ ap (λ (r : Result (List ℕ × List ℕ) Refusal). cond (eqb (length chunk) 0) (Ok (chunk, after)) (onto chunk r)) same

onto_none : (r : Result (List ℕ × List ℕ) Refusal) → onto [] r ≡ r
onto_none (Ok x) = refl
onto_none (Err refusal) = refl

onto_both : (a b : List ℕ) (r : Result (List ℕ × List ℕ) Refusal) → onto a (onto b r) ≡ onto (a ++ b) r
onto_both a b (Ok x) = ap (λ (l : List ℕ). Ok (l, x.1)) (sym (append_assoc a b x.0))
onto_both a b (Err refusal) = refl

-- the first was read
pub begins : (bytes chunk after : List ℕ) → chunk_at bytes ≡ Ok (chunk, after) → onto [] (all_from chunk after) ≡ all_chunks bytes
begins bytes chunk after h = onto_none (all_from chunk after) ∙ sym (begun bytes chunk after h)

-- and was refused
pub fails : (fault : ReadFault) (bytes : List ℕ) → Fails fault (chunk_at bytes) → Fails fault (all_chunks bytes)
fails faults.Memory bytes h = tt
fails (faults.Refused refusal) bytes h = one_more bytes ∙ ap (λ (r : Result (List ℕ × List ℕ) Refusal). r >>= Step (length bytes)) h

others : (front chunk rest : List ℕ) (total : Result (List ℕ × List ℕ) Refusal) → eqb (length chunk) 0 ≡ false → onto front (all_from chunk rest) ≡ total → onto (front ++ chunk) (all_chunks rest) ≡ total
others front chunk rest total some so_far =
    sym (onto_both front chunk (all_chunks rest)) ∙ ap (λ (test : Bool). onto front (cond test (Ok (chunk, rest)) (onto chunk (all_chunks rest)))) (sym some) ∙ so_far

chunk_fewer : (bytes next after : List ℕ) → chunk_at bytes ≡ Ok (next, after) → length after < length bytes
unfolding chunk_at long_at bytes_at
chunk_fewer [] next after h = absurd cc
chunk_fewer (byte ∷ bytes) next after h =
    let fewer : length after ≤ length bytes = subst (Leaves (length bytes)) h (chunk_leaves (length bytes) (byte ∷ bytes) (omega arith)) in
    omega arith

-- one more was read behind one that was not the last: the rest is shorter, and what is left decides
pub goes_on : (front chunk rest next after : List ℕ) (total : Result (List ℕ × List ℕ) Refusal) → eqb (length chunk) 0 ≡ false → chunk_at rest ≡ Ok (next, after)
    → onto front (all_from chunk rest) ≡ total → (onto (front ++ chunk) (all_from next after) ≡ total) × (length after < length rest)
goes_on front chunk rest next after total some h so_far =
    (ap (onto (front ++ chunk)) (sym (begun rest next after h)) ∙ others front chunk rest total some so_far, chunk_fewer rest next after h)

pub ends : (fault : ReadFault) (front chunk rest : List ℕ) (total : Result (List ℕ × List ℕ) Refusal) → eqb (length chunk) 0 ≡ false → Fails fault (chunk_at rest)
    → onto front (all_from chunk rest) ≡ total → Fails fault total
ends faults.Memory front chunk rest total some h so_far = tt
ends (faults.Refused refusal) front chunk rest total some h so_far =
    sym (others front chunk rest total some so_far) ∙ ap (onto (front ++ chunk)) (fails (faults.Refused refusal) rest h)

-- the last was read
pub is_done : (front chunk rest : List ℕ) (total : Result (List ℕ × List ℕ) Refusal) → eqb (length chunk) 0 ≡ true → onto front (all_from chunk rest) ≡ total → total ≡ Ok (front, rest)
is_done front chunk rest total last so_far =
    let none : chunk ≡ [] = nil_from_length chunk (eqb-true (length chunk) 0 last) in
    let all : all_from chunk rest ≡ Ok (chunk, rest) = ap (λ (test : Bool). cond test (Ok (chunk, rest)) (onto chunk (all_chunks rest))) last in
    sym so_far ∙ ap (onto front) all ∙ ap (λ (l : List ℕ). Ok (front ++ l, rest)) none ∙ ap (λ (l : List ℕ). Ok (l, rest)) (append-nil front)
