-- Tokens that the batch may still send, or not, where nothing is asked.
use Rattle.std.proofs.Common.{◌≡◌, Bool, true, false, if◌then◌else◌, List, Result, Ok, Err}
use Rattle.std.specs.Prelude.{nat_lt}
use Rattle.value_types.specs.declared.memory.Memory.{Memory}
use Rattle.tds_tokens.specs.declared.token.Token.{Token}
use Rattle.batch_meaning.specs.declared.failure.Failure.{Failure}
use Rattle.batch_meaning.specs.Failures.{plain}
use Rattle.batch_meaning.specs.Selecting.{result_full}
use Rattle.batch_meaning.specs.Progress.{SessionProgress, size_of}
use Rattle.batch_meaning.specs.Doing.{Doing}
use Rattle.batch_meaning.specs.Asking.{fails, if_bytes_left}
use Rattle.session_state.specs.Parts.{Stepped}
use Rattle.session_state.proofs.Stepping.{stepped_made, stepped_reads}

-- they are too many bytes
pub stepped_full : {A : Type 0} (tokens : List Token) (next : Doing (Result A Failure)) {failure : Failure} {p : SessionProgress} → true ≡ nat_lt p.bytes_left (size_of tokens) → failure ≡ plain result_full → Stepped (if_bytes_left tokens next) p (Ok (Err failure)) p
stepped_full {A = A} tokens next {failure = failure} {p = p} full is = stepped_reads (by_test (nat_lt p.bytes_left (size_of tokens)) full)
  where
    why : Stepped (fails {A = A} result_full) p (Ok (Err failure)) p
    why = stepped_made (let same : ◌≡◌ {A = Result A Failure} (Err failure) (Err (plain result_full)) = (λ i. Err (is i)) in same)

    by_test : (test : Bool) → true ≡ test → Stepped (if test then fails {A = A} result_full else next) p (Ok (Err failure)) p
    by_test true same = why
    by_test false same = absurd (let no : true ≡ false = same in cc)

-- they are not
pub stepped_fits : {A : Type 0} (tokens : List Token) (next : Doing (Result A Failure)) {p new : SessionProgress} {result : Result (Result A Failure) Memory} → false ≡ nat_lt p.bytes_left (size_of tokens) → Stepped next p result new → Stepped (if_bytes_left tokens next) p result new
stepped_fits {A = A} tokens next {p = p} {new = new} {result = result} fits was = stepped_reads (by_test (nat_lt p.bytes_left (size_of tokens)) fits)
  where
    by_test : (test : Bool) → false ≡ test → Stepped (if test then fails {A = A} result_full else next) p result new
    by_test true same = absurd (let no : false ≡ true = same in cc)
    by_test false same = was
