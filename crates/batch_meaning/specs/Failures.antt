-- Own: why a statement failed: the number of its error, and what the error's text names.
use Rattle.std.specs.Prelude.{ℕ, pos, List, Some, None}
use Rattle.batch_meaning.specs.declared.failure.Failure.{Failure}

-- an error of this number that names nothing
abbrev pub plain : ℕ → Failure
plain number = record { number = pos number; name = None }

-- one that names this
abbrev pub naming : ℕ → List ℕ → Failure
naming number name = record { number = pos number; name = Some name }
