-- Own: an answer is what is meant; want of memory says nothing.
use Rattle.std.specs.Prelude.{◌≡◌, Option, Some, None, Result, Ok, Err}
use Rattle.scalar_eval.specs.declared.fault.EvalFault.{EvalFault}
use Rattle.scalar_eval.specs.declared.fault.EvalFault.TheVariants.{Number, Named, Memory}

-- nothing is wrong, or this is
abbrev pub Finds : Result (Unit {0}) EvalFault → Option EvalFault → Type 0
Finds (Ok done) wrong = wrong ≡ None
Finds (Err (Number number)) wrong = wrong ≡ Some (Number number)
Finds (Err (Named number name)) wrong = wrong ≡ Some (Named number name)
Finds (Err Memory) wrong = Unit {0}
