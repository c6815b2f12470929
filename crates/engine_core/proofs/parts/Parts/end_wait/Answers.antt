use Rattle.std.proofs.Common.{◌≡◌, List, refl, ap, ◌∙◌, rules}
use Rattle.std.specs.Vec.{with_items}
use Rattle.step_model.specs.Moves.{without_wait, drop_wait as drop_wait_there}
use Rattle.engine_core.specs.Transactions.{Opened, with_opened, drop_wait}
use Rattle.engine_core.specs.Shown.{shown}
use Rattle.engine_core.proofs.Sessions.{wrote_all, same_length}
use Rattle.engine_core.proofs.Standing.{changed_shown, distinct_still, numbered_still, idle_still, reached_still}
use Rattle.engine_core.proofs.parts.Parts.end_wait.Goals as goal

pub end_wait-requires : goal.end_wait-requires
end_wait-requires c = rw c.deref_mut.ensures.value (record { distinct = c.self.invariant.distinct })

pub invariant_of-self : goal.invariant_of-self
invariant_of-self c =
    let active = c.self.inside.active.items in
    let is : (with_items c.self.inside.active c.end_wait.new.active).items ≡ with_opened c.args.session drop_wait active = wrote_all c.self.inside.active c.end_wait.new.active _ (c.end_wait.ensures ∙ ap (with_opened c.args.session drop_wait) c.deref_mut.ensures.value) (same_length c.args.session drop_wait active) in
    record {
      distinct = distinct_still c.args.session drop_wait (λ t. refl) (λ t. refl) (λ t. refl) active _ is c.self.invariant.distinct;
      numbered = numbered_still c.args.session drop_wait (λ t. refl) (λ t. refl) (λ t. refl) active _ is c.self.invariant.numbered;
      idle = idle_still c.args.session drop_wait (λ t. refl) (λ t. refl) (λ t. refl) active _ is c.self.inside.locks c.self.invariant.idle;
      held = c.self.invariant.held;
      reached = reached_still c.args.session drop_wait (λ t. refl) (λ t. refl) (λ t. refl) active _ is c.self.inside.rows c.self.invariant.reached;
      room = search rules;
    }

pub returns : goal.returns
returns c =
    let active = c.self.inside.active.items in
    let is : (with_items c.self.inside.active c.end_wait.new.active).items ≡ with_opened c.args.session drop_wait active = wrote_all c.self.inside.active c.end_wait.new.active _ (c.end_wait.ensures ∙ ap (with_opened c.args.session drop_wait) c.deref_mut.ensures.value) (same_length c.args.session drop_wait active) in
    ap (λ (ts : List Opened). shown c.self.inside.rows c.self.inside.locks ts c.self.inside.log.items) is
    ∙ changed_shown c.args.session drop_wait drop_wait_there c.self.inside.rows c.self.inside.locks (λ t. refl) active c.self.inside.log.items
    ∙ ap (without_wait c.args.session) c.self.view_is
