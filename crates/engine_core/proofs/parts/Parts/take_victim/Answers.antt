use Rattle.std.proofs.Common.{◌≡◌, List, None, refl, sym, ap, ◌∙◌, rules}
use Rattle.std.specs.Vec.{with_items}
use Rattle.step_model.specs.State.{victim_of}
use Rattle.step_model.specs.Moves.{without_victim, drop_victim as drop_victim_there}
use Rattle.engine_core.specs.Transactions.{Opened, with_opened, drop_victim, mark_in}
use Rattle.engine_core.specs.Shown.{shown}
use Rattle.engine_core.proofs.Sessions.{unmarked_same, wrote_all, same_length}
use Rattle.engine_core.proofs.Showing.{victim_shown}
use Rattle.engine_core.proofs.Standing.{changed_shown, distinct_still, numbered_still, idle_still, reached_still}
use Rattle.engine_core.proofs.parts.Parts.take_victim.Goals as goal

pub take_victim-requires : goal.take_victim-requires
take_victim-requires c = rw c.deref_mut.ensures.value (record { distinct = c.self.invariant.distinct })

pub invariant_of-self : goal.invariant_of-self
invariant_of-self c =
    let active = c.self.inside.active.items in
    let is : (with_items c.self.inside.active c.take_victim.new.active).items ≡ with_opened c.args.session drop_victim active = wrote_all c.self.inside.active c.take_victim.new.active _ (c.take_victim.ensures.taken ∙ ap (with_opened c.args.session drop_victim) c.deref_mut.ensures.value) (same_length c.args.session drop_victim active) in
    record {
      distinct = distinct_still c.args.session drop_victim (λ t. refl) (λ t. refl) (λ t. refl) active _ is c.self.invariant.distinct;
      numbered = numbered_still c.args.session drop_victim (λ t. refl) (λ t. refl) (λ t. refl) active _ is c.self.invariant.numbered;
      idle = idle_still c.args.session drop_victim (λ t. refl) (λ t. refl) (λ t. refl) active _ is c.self.inside.locks c.self.invariant.idle;
      held = c.self.invariant.held;
      reached = reached_still c.args.session drop_victim (λ t. refl) (λ t. refl) (λ t. refl) active _ is c.self.inside.rows c.self.invariant.reached;
      room = search rules;
    }

pub returns-clause-new : goal.returns-clause-new
returns-clause-new c =
    let active = c.self.inside.active.items in
    let is : (with_items c.self.inside.active c.take_victim.new.active).items ≡ with_opened c.args.session drop_victim active = wrote_all c.self.inside.active c.take_victim.new.active _ (c.take_victim.ensures.taken ∙ ap (with_opened c.args.session drop_victim) c.deref_mut.ensures.value) (same_length c.args.session drop_victim active) in
    ap (λ (ts : List Opened). shown c.self.inside.rows c.self.inside.locks ts c.self.inside.log.items) is
    ∙ changed_shown c.args.session drop_victim drop_victim_there c.self.inside.rows c.self.inside.locks (λ t. refl) active c.self.inside.log.items
    ∙ ap (without_victim c.args.session) c.self.view_is

pub returns-clause-mark : goal.returns-clause-mark
returns-clause-mark c =
    c.take_victim.ensures.mark ∙ ap (mark_in c.args.session) c.deref_mut.ensures.value
    ∙ sym (victim_shown c.self.inside.rows c.self.inside.locks c.self.inside.active.items c.self.inside.log.items c.args.session) ∙ ap (victim_of c.args.session) c.self.view_is

pub returns-clause-none : goal.returns-clause-none
returns-clause-none c = λ none.
    let active = c.self.inside.active.items in
    let unmarked : mark_in c.args.session active ≡ None = ap (mark_in c.args.session) (sym c.deref_mut.ensures.value) ∙ sym c.take_victim.ensures.mark ∙ none in
    let is : (with_items c.self.inside.active c.take_victim.new.active).items ≡ active = wrote_all c.self.inside.active c.take_victim.new.active active (c.take_victim.ensures.taken ∙ ap (with_opened c.args.session drop_victim) c.deref_mut.ensures.value ∙ unmarked_same c.args.session active c.self.invariant.distinct unmarked) refl in
    ap (λ (ts : List Opened). shown c.self.inside.rows c.self.inside.locks ts c.self.inside.log.items) is ∙ c.self.view_is
