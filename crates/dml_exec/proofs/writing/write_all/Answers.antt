use Rattle.std.proofs.Common.{◌+◌, ◌∙◌, drop}
use Rattle.std.proofs.lemmas.Result.{err_from_is_err_and}
use Rattle.dml_exec.proofs.KeySteps.{change_failed, change_next, changes_done, left_is, none_left}
use Rattle.dml_exec.proofs.RangeSteps.{may_on}
use Rattle.dml_exec.proofs.writing.write_all.Goals as goal

pub returns-in_err-write_told-clause-asks : goal.returns-in_err-write_told-clause-asks
returns-in_err-write_told-clause-asks g c =
    let p = err_from_is_err_and c.from_residual.result c.from_residual.ensures.1 in
    let changes = c.args.changes.now in
    let is = left_is changes c.loop-change.change-index c.change-item.result c.loop-change-test.true c.change-item.is in
    rw (p.1, p.2)
    (change_failed c.args.shapes.now c.loop-change.rest.now (drop c.loop-change.change-index changes) c.change-item.result (drop (c.loop-change.change-index + 1) changes) is c.loop-change.invariant.leads _
    (rw c.found_of.ensures at c.in_err-write_told.ensures.asks))

pub loop-change-preserved : goal.loop-change-preserved
loop-change-preserved g c =
    let changes = c.args.changes.now in
    let is = left_is changes c.loop-change.change-index c.change-item.result c.loop-change-test.true c.change-item.is in
    record {
      may = may_on c.loop-change.invariant.may c.in_ok-write_told.ensures.standing;
      standing = c.in_ok-write_told.ensures.standing ∙ c.loop-change.invariant.standing;
      leads = rw c.found_behind-rest.ensures
          (change_next c.args.shapes.now c.loop-change.rest.now (drop c.loop-change.change-index changes) c.change-item.result (drop (c.loop-change.change-index + 1) changes) is c.loop-change.invariant.leads
          (rw c.found_of.ensures at c.in_ok-write_told.ensures.asks));
    }

pub returns-clause-asks : goal.returns-clause-asks
returns-clause-asks g c =
    changes_done c.args.shapes.now c.loop-change.rest.now (drop c.loop-change.change-index c.args.changes.now) (none_left c.args.changes.now c.loop-change.change-index c.loop-change-test.false) c.loop-change.invariant.leads
