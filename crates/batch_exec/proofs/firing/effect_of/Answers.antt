use Rattle.std.proofs.Common.{Ok, refl, ap}
use Rattle.batch_meaning.specs.Writes.{Written}
use Rattle.batch_exec.proofs.firing.effect_of.Goals as goal

pub returns-in-Ok : goal.returns-in-Ok
returns-in-Ok c = λ one. rw c.in-Ok.is (ap Ok (ap (λ (w : Written). w.effect) c.written.view_is))

pub returns-in-Err : goal.returns-in-Err
returns-in-Err c = λ one. rw c.in-Err.is refl
