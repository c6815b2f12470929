use Rattle.std.proofs.Common.{◌≡◌, ◌++◌, ℕ, ◌+◌, [], map, take, Option, Vec, Global, append-nil, sym, ap, ◌∙◌}
use Rattle.std.specs.List.{cons_option}
use Rattle.step_model.specs.declared.edge.Edge.{Edge}
use Rattle.step_model.specs.declared.resource.Resource.{Resource}
use Rattle.step_model.specs.Locks.{pair_on}
use Rattle.step_model.specs.State.{Engine, locks_of, pair_of}
use Rattle.lock_table.specs.Table.{of_session}
use Rattle.engine_core.specs.Breaking.{edge_if, edges_by}
use Rattle.engine_core.specs.Shown.{shown_transaction}
use Rattle.engine_core.proofs.Edges.{edges_next}
use Rattle.engine_core.proofs.Showing.{locks_shown}
use Rattle.engine_core.proofs.parts.Parts.add_edges.Goals as goal
use Rattle.engine_core.proofs.parts.Parts.add_edges.Goals.{in-Some+in_ok-push, in_default}

-- what the holder has there
pair_there : (c : goal.Joined-branch-2) → c.of.result ≡ pair_of c.open-item.result.session c.args.wait.now.on c.args.self.now
pair_there c =
    c.of.ensures ∙ c.pairs-pairs.ensures c.session-holder.result
    ∙ ap (λ (on : Resource). pair_on on (of_session c.session-holder.result c.self.inside.locks)) c.on.ensures
    ∙ ap (pair_on c.args.wait.now.on) (sym (locks_shown c.self.inside.rows c.self.inside.locks c.self.inside.active.items c.self.inside.log.items c.self.invariant.idle c.session-holder.result) ∙ ap (locks_of c.session-holder.result) c.self.view_is)
    ∙ ap (λ (n : ℕ). pair_of n c.args.wait.now.on c.args.self.now) c.session-holder.ensures

next : (c : goal.Joined-branch-2) → c.loop-open.edges.items ++ cons_option c.in_ok-edge.field-0 [] ≡ c.args.edges.now.items ++ edges_by c.args.self.now c.args.waiter c.args.wait.now (take (c.loop-open.open-index + 1) c.args.self.now.active)
next c = edges_next c.self.inside.rows c.self.inside.locks c.args.self.now c.deref-open-items.result.now
    (ap (map (shown_transaction c.self.inside.rows c.self.inside.locks)) c.deref-open-items.ensures.value ∙ ap (λ (e : Engine). e.active) c.self.view_is)
    c.args.waiter c.args.wait.now c.loop-open.open-index c.open-item.result c.loop-open-test.true c.open-item.is c.args.edges.now.items c.loop-open.edges.items c.loop-open.invariant
    c.of.result (pair_there c) c.in_ok-edge.field-0 (c.in_ok-edge.ensures ∙ ap (λ (n : ℕ). edge_if c.args.waiter c.args.wait.now n c.of.result) c.session-holder.ensures)

pub loop-open-preserved : goal.loop-open-preserved
loop-open-preserved c = elim c.match-branch-2.branch [
  | in-Some+in_ok-push w ↦
      ap (λ (edges : Vec Edge Global). edges.items) w.edges-is ∙ w.in_ok-push.ensures.items
      ∙ ap (λ (edge : Option Edge). c.loop-open.edges.items ++ cons_option edge []) (sym w.in-Some.is) ∙ next c
  | in_default w ↦
      ap (λ (edges : Vec Edge Global). edges.items) w.edges-is ∙ sym (append-nil c.loop-open.edges.items)
      ∙ ap (λ (edge : Option Edge). c.loop-open.edges.items ++ cons_option edge []) (sym w.in_default.is) ∙ next c
]
