use Rattle.std.proofs.Common.{true, false, refl}
use Rattle.std.proofs.lemmas.Result.{err_from_is_err_and}
use Rattle.dml_exec.specs.Writing.{works}
use Rattle.dml_exec.proofs.Held.{asks_behind, asks_failed, asks_over, asks_room}
use Rattle.dml_exec.proofs.writing.work.Goals as goal

pub returns-in_err-write_all-clause-asks : goal.returns-in_err-write_all-clause-asks
unfolding works
returns-in_err-write_all-clause-asks g c =
    let p = err_from_is_err_and c.from_residual.result c.from_residual.ensures.1 in
    rw (p.1, p.2) (asks_failed _ _ _ c.in_err-write_all.ensures.asks)

pub returns-in-Ok-clause-asks : goal.returns-in-Ok-clause-asks
unfolding works
returns-in-Ok-clause-asks g c = asks_behind _ _ _ _ c.in_ok-write_all.ensures.asks (asks_room true _ (rw (c.as_slice.ensures.value, c.in-Ok.ensures) at c.check_all.ensures.asks))

pub returns-in-Err-clause-asks : goal.returns-in-Err-clause-asks
unfolding works
returns-in-Err-clause-asks g c = asks_behind _ _ _ _ c.in_ok-write_all.ensures.asks (asks_room false _ (asks_over refl))
