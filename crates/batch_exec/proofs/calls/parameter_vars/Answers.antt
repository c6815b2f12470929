use Rattle.std.proofs.Common.{sym, ◌∙◌}
use Rattle.std.proofs.lemmas.List.{nil_from_length}
use Rattle.dml_exec.proofs.Pairs.{none_of, rest_is}
use Rattle.batch_exec.proofs.Called.{typed_both, vars_done, vars_more, vars_short}
use Rattle.batch_exec.proofs.calls.parameter_vars.Goals as goal

pub declare-requires : goal.declare-requires
declare-requires c = record { typed = (typed_both _ _ _ _ _ _ (rest_is _ _ c.in-len1-up.len_at_least c.parameter-item.is) c.in-Some.ensures.steps.0 c.loop-value.invariant.typed).0 }

pub loop-value-preserved : goal.loop-value-preserved
loop-value-preserved c = record {
  goes = vars_more _ _ _ _ c.loop-value.invariant.goes _ _ _ _ _ (rest_is _ _ c.in-len1-up.len_at_least c.parameter-item.is) c.in-Some.ensures.steps.0 c.in_ok-declare.ensures;
  typed = (typed_both _ _ _ _ _ _ (rest_is _ _ c.in-len1-up.len_at_least c.parameter-item.is) c.in-Some.ensures.steps.0 c.loop-value.invariant.typed).1;
}

pub returns-in_default : goal.returns-in_default
returns-in_default c = vars_short _ _ _ _ c.loop-value.invariant.goes (none_of c.loop-value.rest.now c.in_default.len_below)

pub returns : goal.returns
returns c = vars_done _ _ _ _ c.loop-value.invariant.goes (nil_from_length c.loop-value.value-iterator.rest.items (sym c.loop-value.value-iterator.rest.ok.0 ∙ c.in-None.ensures.steps.0))
