use Rattle.std.proofs.Common.{◌≡◌, ◌+◌, ◌∙◌, true, false, refl, drop, rules}
use Rattle.std.proofs.lemmas.Result.{err_from_is_err_and}
use Rattle.step_model.proofs.Dialogs.{front_here}
use Rattle.dml_exec.specs.Planning.{is_asked}
use Rattle.dml_exec.proofs.KeySteps.{keys_done, keys_failed, keys_full, keys_next, keys_passed, left_is, none_left}
use Rattle.dml_exec.proofs.RangeSteps.{may_on}
use Rattle.dml_exec.proofs.index_keys.ask_keys.Goals as goal
use Rattle.dml_exec.proofs.index_keys.ask_keys.Goals.{then-is_asked+in_ok-there+else-not-add, else-is_asked}

pub loop-change-init : goal.loop-change-init
loop-change-init g c = record { may = c.requires.may; standing = refl; leads = rw c.new-found.ensures.items front_here }

pub returns-in_err-there-clause-asks : goal.returns-in_err-there-clause-asks
returns-in_err-there-clause-asks g c =
    let p = err_from_is_err_and c.from_residual.result c.from_residual.ensures.1 in
    let changes = c.args.changes.now in
    let is = left_is changes c.loop-change.change-index c.change-item.result c.loop-change-test.true c.change-item.is in
    let asked : is_asked c.change-item.result ≡ true = search rules in
    rw (p.1, p.2)
    (keys_failed c.loop-change.found.items (drop c.loop-change.change-index changes) c.change-item.result (drop (c.loop-change.change-index + 1) changes) is c.loop-change.invariant.leads asked _ c.in_err-there.ensures.asks)

pub returns-then-not-add-clause-asks : goal.returns-then-not-add-clause-asks
returns-then-not-add-clause-asks g c =
    let changes = c.args.changes.now in
    let is = left_is changes c.loop-change.change-index c.change-item.result c.loop-change-test.true c.change-item.is in
    let asked : is_asked c.change-item.result ≡ true = search rules in
    keys_full c.loop-change.found.items (drop c.loop-change.change-index changes) c.change-item.result (drop (c.loop-change.change-index + 1) changes) is c.loop-change.invariant.leads asked _ c.in_ok-there.ensures.asks

pub loop-change-preserved : goal.loop-change-preserved
loop-change-preserved g c =
    let changes = c.args.changes.now in
    let is = left_is changes c.loop-change.change-index c.change-item.result c.loop-change-test.true c.change-item.is in
    elim c.if-is_asked.branch [
      | then-is_asked+in_ok-there+else-not-add w ↦ rw (w.port-is, w.found-is) record {
        may = may_on c.loop-change.invariant.may w.in_ok-there.ensures.standing;
        standing = w.in_ok-there.ensures.standing ∙ c.loop-change.invariant.standing;
        leads = rw (w.add.ensures (search rules))
            (keys_next c.loop-change.found.items (drop c.loop-change.change-index changes) c.change-item.result (drop (c.loop-change.change-index + 1) changes) is c.loop-change.invariant.leads (search rules) _ w.in_ok-there.ensures.asks);
      }
      | else-is_asked w ↦ rw (w.port-is, w.found-is) record {
        may = c.loop-change.invariant.may;
        standing = c.loop-change.invariant.standing;
        leads = keys_passed c.loop-change.found.items (drop c.loop-change.change-index changes) c.change-item.result (drop (c.loop-change.change-index + 1) changes) is c.loop-change.invariant.leads (search rules);
      }
    ]

pub returns-clause-asks : goal.returns-clause-asks
returns-clause-asks g c =
    keys_done c.loop-change.found.items (drop c.loop-change.change-index c.args.changes.now) (none_left c.args.changes.now c.loop-change.change-index c.loop-change-test.false) c.loop-change.invariant.leads
