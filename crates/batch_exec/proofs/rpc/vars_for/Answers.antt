use Rattle.std.proofs.Common.{arith}
use Rattle.batch_exec.proofs.Parameters.{fits_at, vars_all, vars_many, vars_more}
use Rattle.batch_exec.proofs.rpc.vars_for.Goals as goal

pub declare-requires : goal.declare-requires
declare-requires c = record {
  room = omega arith;
  fits = fits_at _ _ _ c.requires.fits c.loop-parameter-test.true c.parameter-item.is;
}

pub loop-parameter-preserved : goal.loop-parameter-preserved
loop-parameter-preserved c = record {
  goes = vars_more _ _ _ _ _ _ c.loop-parameter-test.true c.parameter-item.is c.loop-parameter.invariant.many c.in_ok-declare.ensures c.loop-parameter.invariant.goes;
  many = vars_many _ _ _ _ c.loop-parameter.invariant.many c.in_ok-declare.ensures;
}

pub returns : goal.returns
returns c = vars_all _ _ _ _ c.loop-parameter-test.false c.loop-parameter.invariant.goes
