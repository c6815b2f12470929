use Rattle.std.proofs.Common.{◌≡◌, true, false, sym, ap, ◌∙◌}
use Rattle.step_model.specs.declared.edge.Edge.{Edge}
use Rattle.step_model.specs.Victims.{rank_of}
use Rattle.wait_graph.proofs.Ranks.{some_below, first_any, first_sooner, first_stays, victim_found}
use Rattle.wait_graph.proofs.rank.victim.Goals as goal
use Rattle.wait_graph.proofs.rank.victim.Goals.{then-falls_before, else-falls_before}

pub loop-edge-init : goal.loop-edge-init
loop-edge-init c = first_any c.args.cycle.now c.args.ranks.now 0 c.index-cycle-0.result c.unwrap-first.result (some_below c.args.cycle.now c.requires.some) c.index-cycle-0.is (ap (λ (edge : Edge). rank_of edge.waiter c.args.ranks.now) c.index-cycle-0.is ∙ sym c.rank_of.ensures ∙ c.unwrap-first.ensures)

pub loop-edge-preserved : goal.loop-edge-preserved
loop-edge-preserved c =
    elim c.if-falls_before.branch [
      | then-falls_before w ↦ rw w.first-is (first_sooner c.args.cycle.now c.args.ranks.now c.loop-edge.first c.loop-edge.edge-index c.edge-item.result c.unwrap-rank.result c.loop-edge-test.true c.edge-item.is
          (sym c.rank_of-in-loop-edge.ensures ∙ c.unwrap-rank.ensures) (c.falls_before.ensures.0 w.if-falls_before.true) c.loop-edge.invariant)
      | else-falls_before w ↦ rw w.first-is (first_stays c.args.cycle.now c.args.ranks.now c.loop-edge.first c.loop-edge.edge-index c.edge-item.result c.unwrap-rank.result c.loop-edge-test.true c.edge-item.is
          (sym c.rank_of-in-loop-edge.ensures ∙ c.unwrap-rank.ensures) (λ falls. let h : true ≡ false = sym (c.falls_before.ensures.1 falls) ∙ w.if-falls_before.false in cc) c.loop-edge.invariant)
    ]

pub returns : goal.returns
returns c = victim_found c.args.cycle.now c.args.ranks.now c.loop-edge.first c.loop-edge.edge-index c.loop-edge-test.false c.loop-edge.invariant
