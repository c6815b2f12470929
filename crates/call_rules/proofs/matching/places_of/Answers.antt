use Rattle.std.proofs.Common.{◌-◌, ap, sym, ◌∙◌, arith}
use Rattle.tsql_tree.specs.declared.definition.Parameter.{Parameter}
use Rattle.call_rules.proofs.Named.{one_more, all_placed}
use Rattle.call_rules.proofs.matching.places_of.Goals as goal

pub loop-place-preserved : goal.loop-place-preserved
loop-place-preserved c = record {
  within = omega (arith, c.loop-place.invariant.within);
  places = one_more c.loop-place.places c.insert.new.self c.args.parameters.now c.loop-place.place (c.loop-place.place - 1) c.index-parameters-place.result c.in_ok-copy.field-0
      (omega (arith, c.loop-place-test.true)) (omega (arith, c.loop-place-test.true, c.loop-place.invariant.within)) c.index-parameters-place.is (c.in_ok-copy.ensures ∙ ap (λ (p : Parameter). p.name) (sym c.index-parameters-place.is)) c.in_ok-insert.ensures.updates.0 c.loop-place.invariant.places;
}

pub returns : goal.returns
returns c = all_placed c.loop-place.places c.args.parameters.now c.loop-place.place c.loop-place-test.false c.loop-place.invariant.places
