-- What is refused before a statement on transactions asks.
use Rattle.std.proofs.Common.{◌≡◌, Bool, true, false, if◌then◌else◌, List, Result, Ok, Err, refl, ap, ◌∙◌, subst}
use Rattle.std.specs.Prelude.{nat_lt, IfOk}
use Rattle.std.specs.Result.{IsErr, IsErrAnd}
use Rattle.value_types.specs.declared.memory.Memory.{Memory}
use Rattle.step_model.specs.Port.{PortPast}
use Rattle.tds_tokens.specs.declared.token.Token.{Token}
use Rattle.batch_meaning.specs.declared.failure.Failure.{Failure}
use Rattle.batch_meaning.specs.Failures.{plain}
use Rattle.batch_meaning.specs.Selecting.{result_full}
use Rattle.batch_meaning.specs.Progress.{SessionProgress, size_of}
use Rattle.batch_meaning.specs.Doing.{Doing, Did}
use Rattle.batch_meaning.specs.Asking.{fails, if_bytes_left, with_room}
use Rattle.batch_meaning.proofs.Composed.{does_over, does_reads, does_room}
use Rattle.batch_exec.specs.Running.{IsAffordable}

-- tokens that can't be made or sent
pub does_unaffordable : {past : PortPast} {A : Type 0} (tokens : List Token) (made : Result (List Token) Memory) (next : Doing (Result A Failure)) {p : SessionProgress} (failure : Failure) (result : Result A Failure) → IsErr result → IsErrAnd result (λ x. x ≡ failure)
    → IfOk made (λ these. these ≡ tokens) → IsAffordable p made (Err failure) → Did past past (with_room (if_bytes_left tokens next)) p (Ok result) p
does_unaffordable tokens made next failure (Ok a) err same are is = absurd (let never : false ≡ true = err in cc)
does_unaffordable {past = past} {A = A} tokens (Ok these) next {p = p} failure (Err x) err same are is = does_room true (does_reads (by_test (nat_lt p.bytes_left (size_of tokens)) (subst (λ (t : List Token). Err x ≡ (if nat_lt p.bytes_left (size_of t) then Err (plain result_full) else Ok t)) are (ap Err same ∙ is))))
  where
    by_test : (full : Bool) → Err x ≡ (if full then Err (plain result_full) else Ok tokens) → Did past past (if full then fails {A = A} result_full else next) p (Ok (Err x)) p
    by_test true full = subst (λ (f : Failure). Did past past (fails {A = A} result_full) p (Ok (Err f)) p) (let so : plain result_full ≡ x = cc in so) (does_over refl)
    by_test false fits = absurd cc
does_unaffordable {past = past} {A = A} tokens (Err memory) next {p = p} failure (Err x) err same are is = does_room false (subst (λ (f : Failure). Did past past (fails {A = A} 701) p (Ok (Err f)) p) (let so : plain 701 ≡ x = cc in so) (does_over refl))
