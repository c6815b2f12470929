use Rattle.std.proofs.Common.{◌∙◌, refl}
use Rattle.std.proofs.lemmas.Result.{err_from_is_err_and}
use Rattle.dml_exec.specs.Writing.{checks_all, checks_one}
use Rattle.dml_exec.proofs.RangeSteps.{may_on, parts_done, parts_failed, parts_next}
use Rattle.dml_exec.proofs.writing.check_all.Goals as goal

pub returns-in_err-check_one-clause-asks : goal.returns-in_err-check_one-clause-asks
unfolding checks_all
returns-in_err-check_one-clause-asks g c =
    let p = err_from_is_err_and c.from_residual.result c.from_residual.ensures.1 in
    rw (p.1, p.2)
    (parts_failed (checks_one c.args.shapes.now) (checks_all c.args.shapes.now) refl (λ x xs. refl) c.args.reads.now c.loop-read.read-index c.loop-read.invariant.leads c.read-item.result c.loop-read-test.true c.read-item.is _
    c.in_err-check_one.ensures.asks)

pub loop-read-preserved : goal.loop-read-preserved
unfolding checks_all
loop-read-preserved g c = record {
  may = may_on c.loop-read.invariant.may c.in_ok-check_one.ensures.standing;
  standing = c.in_ok-check_one.ensures.standing ∙ c.loop-read.invariant.standing;
  leads = parts_next (checks_one c.args.shapes.now) (checks_all c.args.shapes.now) refl (λ x xs. refl) c.args.reads.now c.loop-read.read-index c.loop-read.invariant.leads c.read-item.result c.loop-read-test.true c.read-item.is
      c.in_ok-check_one.ensures.asks;
}

pub returns-clause-asks : goal.returns-clause-asks
unfolding checks_all
returns-clause-asks g c =
    parts_done (checks_one c.args.shapes.now) (checks_all c.args.shapes.now) refl (λ x xs. refl) c.args.reads.now c.loop-read.read-index c.loop-read.invariant.leads c.loop-read-test.false
