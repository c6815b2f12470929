-- What fails, fails whatever comes after it.
use Rattle.std.proofs.Common.{refl}
use Rattle.typed_nodes.specs.declared.fault.BindFault.{BindFault}
use Rattle.typed_nodes.specs.declared.fault.BindFault.TheVariants.{Number, Memory}
use Rattle.typed_nodes.specs.Refusals.{Fails, Outcome, after}

pub fails_after : {A B : Type 0} (fault : BindFault) (outcome : Outcome A) (next : A → Outcome B) → Fails fault outcome → Fails fault (after outcome next)
fails_after (Number number name) outcome next fails = rw fails refl
fails_after Memory outcome next fails = tt
