use Rattle.std.proofs.Common.{◌≡◌, List, refl, ap, ◌∙◌, rules}
use Rattle.std.specs.Vec.{with_items}
use Rattle.step_model.specs.Moves.{with_wait, set_wait as set_wait_there}
use Rattle.engine_core.specs.Transactions.{Opened, with_opened, set_wait}
use Rattle.engine_core.specs.Shown.{shown}
use Rattle.engine_core.proofs.Sessions.{wrote_all, same_length}
use Rattle.engine_core.proofs.Standing.{changed_shown, distinct_still, numbered_still, idle_still, reached_still}
use Rattle.engine_core.proofs.parts.Parts.begin_wait.Goals as goal

pub begin_wait-requires : goal.begin_wait-requires
begin_wait-requires c = rw c.deref_mut.ensures.value (record { distinct = c.self.invariant.distinct })

pub invariant_of-self : goal.invariant_of-self
invariant_of-self c =
    let active = c.self.inside.active.items in
    let is : (with_items c.self.inside.active c.begin_wait.new.active).items ≡ with_opened c.args.session (set_wait c.args.wait) active = wrote_all c.self.inside.active c.begin_wait.new.active _ (c.begin_wait.ensures ∙ ap (with_opened c.args.session (set_wait c.args.wait)) c.deref_mut.ensures.value) (same_length c.args.session (set_wait c.args.wait) active) in
    record {
      distinct = distinct_still c.args.session (set_wait c.args.wait) (λ t. refl) (λ t. refl) (λ t. refl) active _ is c.self.invariant.distinct;
      numbered = numbered_still c.args.session (set_wait c.args.wait) (λ t. refl) (λ t. refl) (λ t. refl) active _ is c.self.invariant.numbered;
      idle = idle_still c.args.session (set_wait c.args.wait) (λ t. refl) (λ t. refl) (λ t. refl) active _ is c.self.inside.locks c.self.invariant.idle;
      held = c.self.invariant.held;
      reached = reached_still c.args.session (set_wait c.args.wait) (λ t. refl) (λ t. refl) (λ t. refl) active _ is c.self.inside.rows c.self.invariant.reached;
      room = search rules;
    }

pub returns : goal.returns
returns c =
    let active = c.self.inside.active.items in
    let is : (with_items c.self.inside.active c.begin_wait.new.active).items ≡ with_opened c.args.session (set_wait c.args.wait) active = wrote_all c.self.inside.active c.begin_wait.new.active _ (c.begin_wait.ensures ∙ ap (with_opened c.args.session (set_wait c.args.wait)) c.deref_mut.ensures.value) (same_length c.args.session (set_wait c.args.wait) active) in
    ap (λ (ts : List Opened). shown c.self.inside.rows c.self.inside.locks ts c.self.inside.log.items) is
    ∙ changed_shown c.args.session (set_wait c.args.wait) (set_wait_there c.args.wait) c.self.inside.rows c.self.inside.locks (λ t. refl) active c.self.inside.log.items
    ∙ ap (with_wait c.args.session c.args.wait) c.self.view_is
