-- What one side of a line is behind what went through the other.
use Rattle.std.proofs.Common.{◌≡◌, ℕ, List, [], Option, sym, subst}
use Rattle.std.specs.Io.KnownBytes.{Appends, Consumes}
use Rattle.std.proofs.KnownBytes.{Appends-nil}
use Rattle.outside_io.specs.Bytes.{Takes}

-- what was taken stays what was taken
pub takes_still : {S : Type 0} (left given : S → Option (List ℕ)) (old mid new : S) {bytes : List ℕ} → left new ≡ left mid → given new ≡ given mid → Takes left given old mid bytes → Takes left given old new bytes
takes_still left given old mid new {bytes} same_left same_given took = record {
  from_left = subst (λ (at : Option (List ℕ)). Consumes (left old) at bytes) (sym same_left) took.from_left;
  to_given = subst (λ (at : Option (List ℕ)). Appends (given old) at bytes) (sym same_given) took.to_given;
}

-- nothing was written
pub appends_none : {old new : Option (List ℕ)} → new ≡ old → Appends old new []
appends_none {old} same = subst (λ (at : Option (List ℕ)). Appends old at []) (sym same) (Appends-nil old)
