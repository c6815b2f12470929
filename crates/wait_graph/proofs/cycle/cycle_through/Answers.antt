use Rattle.std.proofs.Common.{arith, ◌≡◌, ◌∙◌, ◌<◌, ℕ, None, true, List, length, inr, sym, subst}
use Rattle.std.specs.Borrow.{Bor}
use Rattle.std.specs.Global.{Vec}
use Rattle.step_model.specs.declared.edge.Edge.{Edge}
use Rattle.step_model.specs.Cycles.{is_waiter}
use Rattle.wait_graph.specs.Lists.{AreAmong}
use Rattle.wait_graph.specs.Lists.{AreListed, shown}
use Rattle.wait_graph.proofs.Searches.{searches_first, searches_more, nothing_back, cycle_handed, few, waiter_waits}
use Rattle.wait_graph.proofs.cycle.cycle_through.Goals as goal

pub loop-next-init : goal.loop-next-init
loop-next-init c =
    let listed = subst (λ (items : List (Vec (Bor Edge))). AreListed c.args.edges.now (shown items)) (sym c.deref.ensures.value) c.in_ok-waiting.ensures in
    searches_first c.args.edges.now c.args.session c.new-trail.result c.follow.new.self c.new-trail.ensures.session c.in_ok-follow.ensures.grows
    (c.in_ok-follow.ensures.among c.args.edges.now listed (subst (λ (es : List Edge). AreAmong es c.args.edges.now) (sym c.new-trail.ensures.edges) tt)) (c.in_ok-follow.ensures.waiters c.args.edges.now listed)

pub follow-requires-in-loop-next-clause-behind : goal.follow-requires-in-loop-next-clause-behind
follow-requires-in-loop-next-clause-behind c =
    inr (subst (λ (n : ℕ). is_waiter n c.loop-next.trail.edges ≡ true) (sym c.waiter-holder.ensures) (waiter_waits c.loop-next.next c.loop-next.trail.edges (subst (λ (n : ℕ). c.loop-next.next < n) c.len.ensures.count c.loop-next-test.true)))

pub loop-next-smaller : goal.loop-next-smaller
loop-next-smaller c =
    let less : c.loop-next.next < length c.args.edges.now = (let at_most = few c.args.edges.now c.args.session c.loop-next.next c.loop-next.trail c.len.ensures.trail c.loop-next.invariant in omega (arith, at_most, c.loop-next-test.true, c.len.ensures.count)) in
    omega (arith, less)

pub loop-next-preserved : goal.loop-next-preserved
loop-next-preserved c =
    let listed = subst (λ (items : List (Vec (Bor Edge))). AreListed c.args.edges.now (shown items)) (sym c.deref-in-loop-next.ensures.value) c.in_ok-waiting.ensures in
    searches_more c.args.edges.now c.args.session c.loop-next.next c.waiter-holder.result c.loop-next.trail c.follow-in-loop-next.new.self (subst (λ (n : ℕ). c.loop-next.next < n) c.len.ensures.count c.loop-next-test.true) c.waiter-holder.ensures
    c.in_ok-follow-2.ensures.grows (c.in_ok-follow-2.ensures.among c.args.edges.now listed c.loop-next.invariant.among) (c.in_ok-follow-2.ensures.waiters c.args.edges.now listed) c.loop-next.invariant

pub returns-clause-found : goal.returns-clause-found
returns-clause-found c = cycle_handed c.args.edges.now c.args.session c.loop-next.next c.loop-next.trail c.in_ok-back.back.items c.if_any.result c.len.ensures.trail c.loop-next.invariant c.in_ok-back.ensures.back c.if_any.ensures.some

pub returns-clause-none : goal.returns-clause-none
returns-clause-none c none =
    let nothing : c.if_any.result ≡ None = cc in
    nothing_back c.args.edges.now c.args.session c.loop-next.next c.loop-next.trail (rw (← c.len.ensures.count) c.loop-next-test.false) c.loop-next.invariant (sym c.in_ok-back.ensures.back ∙ c.if_any.ensures.none nothing)
