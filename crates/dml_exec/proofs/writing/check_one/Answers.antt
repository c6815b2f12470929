use Rattle.std.proofs.Common.{◌≡◌, ◌∙◌, sym, rules, to_z, of_z, w32}
use Rattle.std.proofs.lemmas.Result.{err_from_is_err_and}
use Rattle.dml_exec.specs.Writing.{checks_one}
use Rattle.dml_exec.proofs.Held.{asks_behind, asks_failed}
use Rattle.dml_exec.proofs.Writes.{check_breaks, check_holds}
use Rattle.dml_exec.proofs.writing.check_one.Goals as goal

pub returns-in_err-rows-clause-asks : goal.returns-in_err-rows-clause-asks
unfolding checks_one
returns-in_err-rows-clause-asks g c =
    let p = err_from_is_err_and c.from_residual.result c.from_residual.ensures.1 in
    rw (p.1, p.2) (asks_failed _ _ _ c.in_err-rows.ensures.asks)

pub returns-in-None-clause-asks : goal.returns-in-None-clause-asks
unfolding checks_one
returns-in-None-clause-asks g c = asks_behind _ _ _ _ c.in_ok-rows.ensures.asks (check_holds c.args.read.now _ (sym c.judge.ensures ∙ c.in-None.is))

pub returns-clause-asks : goal.returns-clause-asks
unfolding checks_one
returns-clause-asks g c =
    let same : to_z w32 (of_z w32 c.in-Some.number) ≡ c.in-Some.number = search rules in
    asks_behind _ _ _ _ c.in_ok-rows.ensures.asks (check_breaks c.args.read.now _ _ _ (sym c.judge.ensures ∙ c.in-Some.is) (rw same at c.broken.ensures))
