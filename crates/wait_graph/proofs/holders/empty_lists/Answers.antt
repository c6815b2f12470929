use Rattle.std.proofs.Common.{arith, ◌≡◌, ℕ, List, [], ap, ◌∙◌, replicate}
use Rattle.step_model.specs.declared.edge.Edge.{Edge}
use Rattle.wait_graph.specs.Lists.{shown, lists}
use Rattle.wait_graph.proofs.Listed.{shown_more}
use Rattle.wait_graph.proofs.holders.empty_lists.Goals as goal

pub loop-init : goal.loop-init
loop-init c = ap shown c.new-made.ensures.items

pub loop-preserved : goal.loop-preserved
loop-preserved c = ap shown c.in_ok-push.ensures.items ∙ shown_more c.loop.made.items c.loop.counter c.new.result c.loop.invariant c.new.ensures.items

pub returns : goal.returns
returns c =
    let all : c.loop.counter ≡ lists = omega (arith, c.loop-test.false) in
    c.loop.invariant ∙ ap (λ (n : ℕ). replicate {A = List Edge} n []) all
