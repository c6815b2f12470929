use Rattle.std.proofs.Common.{◌∙◌, refl, arith}
use Rattle.std.proofs.lemmas.Result.{err_from_is_err_and}
use Rattle.step_model.proofs.Dialogs.{front_here}
use Rattle.std.specs.Option.{option_map}
use Rattle.dml_exec.specs.Reading.{fits, key_width}
use Rattle.dml_exec.proofs.RangeSteps.{may_on, from_fetches, range_ended, range_failed, range_limited, range_next}
use Rattle.dml_exec.proofs.ranges.read_rows.Goals as goal

pub loop-left-init : goal.loop-left-init
loop-left-init g c = record { may = c.requires.may; fetch = c.requires.fetch; standing = refl; leads = rw c.new-rows.ensures.items front_here }

pub returns-in_err-start-clause-asks : goal.returns-in_err-start-clause-asks
returns-in_err-start-clause-asks g c =
    let p = err_from_is_err_and c.from_residual.result c.from_residual.ensures.1 in
    rw (p.1, p.2) (range_failed (key_width (option_map (λ of. of.now) c.args.shape) c.args.part) (fits (option_map (λ of. of.now) c.args.shape) c.args.part) c.loop-left.fetch c.loop-left.rows.items c.loop-left.left _ c.loop-left-test.true c.loop-left.invariant.leads c.in_err-start.ensures.asks)

pub returns-in-None-clause-asks : goal.returns-in-None-clause-asks
returns-in-None-clause-asks g c =
    range_ended (key_width (option_map (λ of. of.now) c.args.shape) c.args.part) (fits (option_map (λ of. of.now) c.args.shape) c.args.part) c.loop-left.fetch c.loop-left.rows.items c.loop-left.left _ c.loop-left-test.true c.loop-left.invariant.leads (rw c.in-None.is at c.in_ok-start.ensures.asks)

pub loop-left-preserved : goal.loop-left-preserved
loop-left-preserved g c = record {
  may = may_on c.loop-left.invariant.may c.in_ok-start.ensures.standing;
  fetch = rw c.begin_at.ensures (from_fetches _ _ c.loop-left.invariant.fetch);
  standing = c.in_ok-start.ensures.standing ∙ c.loop-left.invariant.standing;
  leads = rw c.begin_at.ensures
      (range_next (key_width (option_map (λ of. of.now) c.args.shape) c.args.part) (fits (option_map (λ of. of.now) c.args.shape) c.args.part) c.loop-left.fetch c.loop-left.rows.items c.loop-left.left _ _ c.loop-left-test.true c.loop-left.invariant.leads (rw c.in-Some.is at c.in_ok-start.ensures.asks));
}

pub returns-clause-asks : goal.returns-clause-asks
returns-clause-asks g c = range_limited (key_width (option_map (λ of. of.now) c.args.shape) c.args.part) (fits (option_map (λ of. of.now) c.args.shape) c.args.part) c.loop-left.fetch c.loop-left.rows.items c.loop-left.left (omega (arith, c.loop-left-test.false)) c.loop-left.invariant.leads
