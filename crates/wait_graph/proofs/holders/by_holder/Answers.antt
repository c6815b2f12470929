use Rattle.std.proofs.Common.{◌≡◌, ◌∙◌, ◌+◌, sym, subst, true, false, take}
use Rattle.wait_graph.specs.Lists.{AreListed, shown}
use Rattle.wait_graph.proofs.Listed.{none_listed, next_listed, next_passed, shown_push}
use Rattle.wait_graph.proofs.holders.by_holder.Goals as goal
use Rattle.wait_graph.proofs.holders.by_holder.Goals.{then-conflicts+in_ok-push, else-conflicts}

pub loop-edge-init : goal.loop-edge-init
loop-edge-init c = none_listed (shown c.in_ok-made.made.items) c.in_ok-made.ensures

pub loop-edge-preserved : goal.loop-edge-preserved
loop-edge-preserved c =
    elim c.if-conflicts.branch [
      | then-conflicts+in_ok-push w ↦ rw w.made-is (
          subst (AreListed (take (c.loop-edge.edge-index + 1) c.args.edges.now))
          (sym (shown_push c.loop-edge.made.items w.list_of.result w.index_mut.result.now w.push.new.self _ (rw c.loop-edge.invariant.count w.list_of.ensures.within) w.index_mut.ensures.value w.in_ok-push.ensures.items))
          (next_listed c.args.edges.now c.loop-edge.edge-index c.edge-item.result (shown c.loop-edge.made.items) w.list_of.result c.loop-edge-test.true c.edge-item.is (c.conflicts.ensures.0 w.if-conflicts.true) w.list_of.ensures.at
          w.list_of.ensures.within c.loop-edge.invariant))
      | else-conflicts w ↦ rw w.made-is (
          next_passed c.args.edges.now c.loop-edge.edge-index c.edge-item.result (shown c.loop-edge.made.items) c.loop-edge-test.true c.edge-item.is (λ conflicts. let h : true ≡ false = sym (c.conflicts.ensures.1 conflicts) ∙ w.if-conflicts.false in cc)
          c.loop-edge.invariant)
    ]
