use Rattle.std.proofs.Common.{ℕ, ◌<◌, ◌%◌, sym, subst}
use Rattle.std.specs.List.{AllByRecursion, Contains}
use Rattle.step_model.specs.Cycles.{Conflicts}
use Rattle.wait_graph.specs.Lists.{shown, lists}
use Rattle.wait_graph.specs.Trails.{IsBehind}
use Rattle.wait_graph.proofs.Follows.{follows_none, follows_one, follows_other, followed, list_looked, item_of_list, grows_behind}
use Rattle.wait_graph.proofs.trail.Trail.follow.Goals as goal
use Rattle.wait_graph.proofs.trail.Trail.follow.Goals.{then-edge-holder+in_ok-add, else-edge-holder}

pub loop-edge-init : goal.loop-edge-init
loop-edge-init c = follows_none c.deref-edge-items.result.now c.args.holder c.args.self.now

pub add-requires-clause-conflicts : goal.add-requires-clause-conflicts
add-requires-clause-conflicts c =
    item_of_list Conflicts c.requires.listed.0 c.args.waiting.now c.args.holder c.list_of.result c.index-waiting-list_of.result c.deref-edge-items.result.now c.loop-edge.edge-index c.edge-item.result c.requires.listed.1 c.list_of.ensures.at
    c.list_of.ensures.within c.index-waiting-list_of.is c.deref-edge-items.ensures.value c.loop-edge-test.true c.edge-item.is c.requires.listed.1.conflict

pub add-requires-clause-behind : goal.add-requires-clause-behind
add-requires-clause-behind c = subst (λ (n : ℕ). IsBehind n c.loop-edge.self) (sym c.if-edge-holder.true) (grows_behind c.args.holder c.args.self.now c.loop-edge.self c.loop-edge.invariant.grows c.requires.behind)

pub loop-edge-preserved : goal.loop-edge-preserved
loop-edge-preserved c =
    elim c.if-edge-holder.branch [
      | then-edge-holder+in_ok-add w ↦ rw w.self-is (
          follows_one c.deref-edge-items.result.now c.args.holder c.loop-edge.edge-index c.edge-item.result c.args.self.now c.loop-edge.self w.add.new.self c.loop-edge-test.true c.edge-item.is w.in_ok-add.ensures c.loop-edge.invariant)
      | else-edge-holder w ↦ rw w.self-is (
          follows_other c.deref-edge-items.result.now c.args.holder c.loop-edge.edge-index c.edge-item.result c.args.self.now c.loop-edge.self c.loop-edge-test.true c.edge-item.is w.if-edge-holder.false c.loop-edge.invariant)
    ]

pub returns-clause-grows : goal.returns-clause-grows
returns-clause-grows c = c.loop-edge.invariant.grows

pub returns-clause-among : goal.returns-clause-among
returns-clause-among c all listed among =
    c.loop-edge.invariant.among all
    (subst (AllByRecursion (Contains all)) (list_looked all c.args.waiting.now c.args.holder c.list_of.result c.index-waiting-list_of.result c.deref-edge-items.result.now listed c.list_of.ensures.at c.list_of.ensures.within c.index-waiting-list_of.is c.deref-edge-items.ensures.value)
    (listed.given (c.args.holder % lists) (subst (λ (n : ℕ). n < lists) c.list_of.ensures.at c.list_of.ensures.within)))
    among

pub returns-clause-waiters : goal.returns-clause-waiters
returns-clause-waiters c all listed =
    followed all (shown c.args.waiting.now) c.deref-edge-items.result.now c.args.holder c.loop-edge.edge-index c.args.self.now c.loop-edge.self listed
    (list_looked all c.args.waiting.now c.args.holder c.list_of.result c.index-waiting-list_of.result c.deref-edge-items.result.now listed c.list_of.ensures.at c.list_of.ensures.within c.index-waiting-list_of.is c.deref-edge-items.ensures.value)
    c.loop-edge-test.false c.loop-edge.invariant
