use Rattle.std.proofs.Common.{◌≡◌, List, refl, ap, ◌∙◌, rules}
use Rattle.std.specs.Vec.{with_items}
use Rattle.step_model.specs.Moves.{after_fall, mark_victim as mark_victim_there}
use Rattle.engine_core.specs.Transactions.{Opened, with_opened, mark_victim}
use Rattle.engine_core.specs.Shown.{shown}
use Rattle.engine_core.proofs.Sessions.{wrote_all, same_length}
use Rattle.engine_core.proofs.Standing.{changed_shown, distinct_still, numbered_still, idle_still, reached_still}
use Rattle.engine_core.proofs.parts.Parts.fall.Goals as goal

pub fall-requires : goal.fall-requires
fall-requires c = rw c.deref_mut.ensures.value (record { distinct = c.self.invariant.distinct })

pub invariant_of-self : goal.invariant_of-self
invariant_of-self c =
    let active = c.self.inside.active.items in
    let is : (with_items c.self.inside.active c.fall.new.active).items ≡ with_opened c.args.session (mark_victim c.args.cycle) active = wrote_all c.self.inside.active c.fall.new.active _ (c.fall.ensures ∙ ap (with_opened c.args.session (mark_victim c.args.cycle)) c.deref_mut.ensures.value) (same_length c.args.session (mark_victim c.args.cycle) active) in
    record {
      distinct = distinct_still c.args.session (mark_victim c.args.cycle) (λ t. refl) (λ t. refl) (λ t. refl) active _ is c.self.invariant.distinct;
      numbered = numbered_still c.args.session (mark_victim c.args.cycle) (λ t. refl) (λ t. refl) (λ t. refl) active _ is c.self.invariant.numbered;
      idle = idle_still c.args.session (mark_victim c.args.cycle) (λ t. refl) (λ t. refl) (λ t. refl) active _ is c.self.inside.locks c.self.invariant.idle;
      held = c.self.invariant.held;
      reached = reached_still c.args.session (mark_victim c.args.cycle) (λ t. refl) (λ t. refl) (λ t. refl) active _ is c.self.inside.rows c.self.invariant.reached;
      room = search rules;
    }

pub returns : goal.returns
returns c =
    let active = c.self.inside.active.items in
    let is : (with_items c.self.inside.active c.fall.new.active).items ≡ with_opened c.args.session (mark_victim c.args.cycle) active = wrote_all c.self.inside.active c.fall.new.active _ (c.fall.ensures ∙ ap (with_opened c.args.session (mark_victim c.args.cycle)) c.deref_mut.ensures.value) (same_length c.args.session (mark_victim c.args.cycle) active) in
    ap (λ (ts : List Opened). shown c.self.inside.rows c.self.inside.locks ts c.self.inside.log.items) is
    ∙ changed_shown c.args.session (mark_victim c.args.cycle) (mark_victim_there c.args.cycle) c.self.inside.rows c.self.inside.locks (λ t. refl) active c.self.inside.log.items
    ∙ ap (after_fall c.args.session c.args.cycle) c.self.view_is
