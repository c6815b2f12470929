use Rattle.std.proofs.Common.{◌≡◌, ◌++◌, [], ◌∷◌, Ok, inl, rules, sym}
use Rattle.batch_meaning.specs.Values.{assigned_onto}
use Rattle.session_state.proofs.Assigning.{goes_next, goes_placed, goes_valued, sets_more}
use Rattle.session_state.proofs.values.assigned.Goals as goal
use Rattle.session_state.proofs.values.assigned.Goals.{then-loop-at-test+else-at-values, else-loop-at-test}

pub loop-at-preserved : goal.loop-at-preserved
loop-at-preserved c =
    let added : c.add.new.sets.items ≡ c.loop-at.sets.items ++ c.in_ok-one.one ∷ [] = c.add.ensures (search rules) in
    record {
      same = goes_next _ _ _ c.loop-at.at _ _ c.index-values-at.result c.in_ok-one.one c.loop-at-test.true c.if-at-values.true c.index-values-at.is c.in_ok-one.ensures.came added c.loop-at.invariant.same;
      fits = sets_more _ _ _ _ added c.loop-at.invariant.fits c.in_ok-one.ensures.fits;
    }

-- no place is left, or no value
pub returns-clause-came : goal.returns-clause-came
returns-clause-came c =
    let done : assigned_onto c.args.vars.now [] c.args.places.now c.args.values.now ≡ Ok c.loop-at.sets.items = elim c.loop-at-test.branch [
      | then-loop-at-test+else-at-values w ↦ goes_valued _ _ _ c.loop-at.at _ w.if-at-values.false c.loop-at.invariant.same
      | else-loop-at-test w ↦ goes_placed _ _ _ c.loop-at.at _ w.loop-at-test.false c.loop-at.invariant.same
    ] in
    inl (sym done)
