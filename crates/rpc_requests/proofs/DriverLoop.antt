-- Reading the parameters of a driver's call one after another, as a loop does, with so many front ones ahead.
use Rattle.std.proofs.Common.{◌≡◌, ◌≢◌, ℕ, zero, suc, ◌-◌, ◌<◌, ◌≤◌, List, [], ◌∷◌, ◌++◌, length, Result, Ok, Err, refl, sym, ap, subst, ◌∙◌, arith}
use Rattle.std.proofs.lemmas.List.{append-nil}
use Rattle.rpc_requests.specs.declared.call.RpcParameter.{RpcParameter}
use Rattle.rpc_requests.specs.declared.fault.Refusal.{Refusal}
use Rattle.rpc_requests.specs.declared.fault.ReadFault.{ReadFault}
use Rattle.rpc_requests.specs.declared.fault.ReadFault.TheVariants as faults
use Rattle.rpc_requests.specs.Reading.{◌>>=◌, Fails}
use Rattle.rpc_requests.specs.Drivers.{driver_parameter_at, driver_parameters_at, most_at}
use Rattle.rpc_requests.proofs.Shrinks.{Leaves}
use Rattle.rpc_requests.proofs.DriverShrinks.{parameter_leaves}
use Rattle.rpc_requests.proofs.Loop.{with_front, regroup, whole_front}

-- one more parameter, and then those that are left
abbrev Rest : ℕ → ℕ → ℕ → RpcParameter × List ℕ → Result (List RpcParameter) Refusal
Rest ahead size most first = driver_parameters_at (ahead - 1) size most first.1 >>= λ others. Ok (first.0 ∷ others)

one_step : (ahead size n m : ℕ) (bytes : List ℕ) (r : Result (RpcParameter × List ℕ) Refusal) → Leaves (length bytes) r
    → ((after : List ℕ) → length after ≤ length bytes → driver_parameters_at (ahead - 1) size n after ≡ driver_parameters_at (ahead - 1) size m after)
    → (r >>= Rest ahead size n) ≡ (r >>= Rest ahead size m)
one_step ahead size n m bytes (Ok x) h same = ap (λ (read : Result (List RpcParameter) Refusal). read >>= λ others. Ok (x.0 ∷ others)) (same x.1 h)
one_step ahead size n m bytes (Err refusal) h same = refl

more_is_enough : (ahead size n m : ℕ) (bytes : List ℕ) → length bytes ≤ n → length bytes ≤ m → driver_parameters_at ahead size n bytes ≡ driver_parameters_at ahead size m bytes
unfolding driver_parameters_at
more_is_enough ahead size zero zero [] a b = refl
more_is_enough ahead size zero (suc m) [] a b = refl
more_is_enough ahead size (suc n) zero [] a b = refl
more_is_enough ahead size (suc n) (suc m) [] a b = refl
more_is_enough ahead size zero m (byte ∷ bytes) a b = absurd (omega arith)
more_is_enough ahead size (suc n) zero (byte ∷ bytes) a b = absurd (omega arith)
more_is_enough ahead size (suc n) (suc m) (byte ∷ bytes) a b =
    one_step ahead size n m bytes (driver_parameter_at (most_at ahead size) (byte ∷ bytes)) (parameter_leaves (most_at ahead size) byte bytes)
    (λ after le. more_is_enough (ahead - 1) size n m after (omega arith) (omega arith))

-- the parameters up to the end
abbrev pub all_at : ℕ → ℕ → List ℕ → Result (List RpcParameter) Refusal
all_at ahead size bytes = driver_parameters_at ahead size (length bytes) bytes

pub begins : (ahead size : ℕ) (bytes : List ℕ) → with_front [] (all_at ahead size bytes) ≡ all_at ahead size bytes
begins ahead size bytes = whole_front (all_at ahead size bytes)

-- one more was read: the rest is shorter, and what is left decides
pub goes_on : (ahead size : ℕ) (front : List RpcParameter) (bytes : List ℕ) (p : RpcParameter) (after : List ℕ) (total : Result (List RpcParameter) Refusal) → bytes ≢ [] → driver_parameter_at (most_at ahead size) bytes ≡ Ok (p, after)
    → with_front front (all_at ahead size bytes) ≡ total → (with_front (front ++ p ∷ []) (all_at (ahead - 1) size after) ≡ total) × (length after < length bytes)
unfolding driver_parameters_at
goes_on ahead size front [] p after total some h so_far = absurd (some refl)
goes_on ahead size front (byte ∷ bytes) p after total some h so_far =
    let shorter : length after ≤ length bytes = subst (Leaves (length bytes)) h (parameter_leaves (most_at ahead size) byte bytes) in
    let one : all_at ahead size (byte ∷ bytes) ≡ (driver_parameters_at (ahead - 1) size (length bytes) after >>= λ others. Ok (p ∷ others)) = ap (λ (r : Result (RpcParameter × List ℕ) Refusal). r >>= Rest ahead size (length bytes)) h in
    let two : driver_parameters_at (ahead - 1) size (length bytes) after ≡ all_at (ahead - 1) size after = more_is_enough (ahead - 1) size (length bytes) (length after) after shorter (omega arith) in
    let whole = one ∙ ap (λ (r : Result (List RpcParameter) Refusal). r >>= λ others. Ok (p ∷ others)) two in
    (sym (regroup front p (all_at (ahead - 1) size after)) ∙ ap (with_front front) (sym whole) ∙ so_far, omega arith)

pub ends : (fault : ReadFault) (ahead size : ℕ) (front : List RpcParameter) (bytes : List ℕ) (total : Result (List RpcParameter) Refusal) → bytes ≢ [] → Fails fault (driver_parameter_at (most_at ahead size) bytes)
    → with_front front (all_at ahead size bytes) ≡ total → Fails fault total
unfolding driver_parameters_at
ends faults.Memory ahead size front bytes total some h so_far = tt
ends (faults.Refused refusal) ahead size front [] total some h so_far = absurd (some refl)
ends (faults.Refused refusal) ahead size front (byte ∷ bytes) total some h so_far =
    let one : all_at ahead size (byte ∷ bytes) ≡ Err refusal = ap (λ (r : Result (RpcParameter × List ℕ) Refusal). r >>= Rest ahead size (length bytes)) h in
    sym so_far ∙ ap (with_front front) one

pub is_done : (ahead size : ℕ) (front : List RpcParameter) (bytes : List ℕ) (total : Result (List RpcParameter) Refusal) → bytes ≡ [] → with_front front (all_at ahead size bytes) ≡ total → total ≡ Ok front
unfolding driver_parameters_at
is_done ahead size front bytes total none so_far = sym so_far ∙ ap (λ (b : List ℕ). with_front front (all_at ahead size b)) none ∙ ap (λ (ps : List RpcParameter). Ok ps) (append-nil front)
