use Rattle.std.proofs.lemmas.Iterator.Consumers.{YieldsList-end}
use Rattle.std.proofs.lemmas.Iterator.Adapters.{YieldsList-from_rev_slice}
use Rattle.wait_graph.proofs.Steps.{took, passed, came_back}
use Rattle.wait_graph.proofs.trail.Trail.back.Goals as goal

pub loop-step-preserved-in_ok-push : goal.loop-step-preserved-in_ok-push
loop-step-preserved-in_ok-push c =
    let both = took c.self.inside.session c.loop-step.wanted c.loop-step.yielded c.in-Some.step c.loop-step.edges.items c.push.new.self.items c.in_ok-copy.field-0 c.loop-step.invariant.edges c.loop-step.invariant.wanted c.if-step-wanted.true c.in_ok-copy.ensures c.in_ok-push.ensures.items in
    record { edges = both.0; wanted = both.1 }

pub loop-step-preserved : goal.loop-step-preserved
loop-step-preserved c =
    let both = passed c.self.inside.session c.loop-step.wanted c.loop-step.yielded c.in-Some.step c.loop-step.edges.items c.loop-step.invariant.edges c.loop-step.invariant.wanted c.if-step-wanted.false in
    record { edges = both.0; wanted = both.1 }

pub returns : goal.returns
returns c =
    let all = YieldsList-end (YieldsList-from_rev_slice c.self.inside.steps.items cc) c.loop-step.yielded _ c.loop-step.yielded_by _ _ c.in-None.is c.next.ensures.steps in
    rw (← c.self.view_is) (record { back = came_back c.self.inside.session c.loop-step.yielded c.self.inside.steps.items c.loop-step.edges.items all.0 c.loop-step.invariant.edges })
