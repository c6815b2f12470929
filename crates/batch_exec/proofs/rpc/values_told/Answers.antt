use Rattle.std.proofs.Common.{refl}
use Rattle.session_state.proofs.Fitting.{fit_none}
use Rattle.batch_exec.proofs.Parameters.{fits_at, told_all, told_more}
use Rattle.batch_exec.proofs.rpc.values_told.Goals as goal

pub loop-place-init : goal.loop-place-init
loop-place-init c = record { goes = rw c.new-tokens.ensures.items refl; fit = rw c.new-tokens.ensures.items fit_none }

pub add_value-requires : goal.add_value-requires
add_value-requires c = record { fits = fits_at _ _ _ c.requires.fits c.loop-place-test.true c.index-parameters-place.is }

pub loop-place-preserved : goal.loop-place-preserved
loop-place-preserved c = record {
  goes = told_more c.args.vars.now _ _ _ _ _ _ c.loop-place-test.true c.index-parameters-place.is c.in_ok-add_value.ensures.told c.loop-place.invariant.goes;
  fit = c.in_ok-add_value.ensures.fit c.loop-place.invariant.fit;
}

pub returns-clause-told : goal.returns-clause-told
returns-clause-told c = told_all c.args.vars.now _ _ _ _ c.loop-place-test.false c.loop-place.invariant.goes
