use Rattle.std.proofs.Common.{◌++◌, ◌+◌, if◌then◌else◌, ℕ, List, [], ◌∷◌, drop, append_assoc, append-nil, refl, sym, ap, ◌∙◌}
use Rattle.std.proofs.lemmas.List.{drop_all}
use Rattle.tsql_tree.specs.declared.definition.TriggerTree.{TriggerTree}
use Rattle.batch_meaning.specs.Writes.{is_fired}
use Rattle.statement_exec.proofs.Slots.{fires_at, fires_next, slot_defined, slot_taken}
use Rattle.statement_exec.proofs.fired.take_fired.Goals as goal

pub loop-place-init : goal.loop-place-init
loop-place-init c = record { slots = λ definitions are. are; fires = λ definitions are. rw c.new-fires.ensures.items refl }

-- the trigger of a place is what is defined there, and is added where it is fired
pub loop-place-preserved : goal.loop-place-preserved
loop-place-preserved c =
    let around = c.args.around.now in
    let trigger = c.in_ok-trigger.trigger in
    let i = c.loop-place.place-index in
    let places = c.args.places.now in
    record {
      slots = λ definitions are. rw c.in_ok-trigger.ensures.1 (slot_taken c.loop-place.slots definitions _ trigger (c.loop-place.invariant.slots definitions are) c.in_ok-trigger.ensures.0);
      fires = λ definitions are.
          ap (λ (fires : List TriggerTree). fires ++ fires_at around definitions (drop (i + 1) places)) c.in_ok-add_fired.ensures
          ∙ append_assoc c.loop-place.fires.items (if is_fired around trigger then trigger ∷ [] else []) (fires_at around definitions (drop (i + 1) places))
          ∙ ap (λ (rest : List TriggerTree). c.loop-place.fires.items ++ rest) (sym (fires_next around definitions places i trigger c.loop-place-test.true
          (slot_defined c.loop-place.slots definitions _ trigger (c.loop-place.invariant.slots definitions are) c.in_ok-trigger.ensures.0)))
          ∙ c.loop-place.invariant.fires definitions are;
    }

pub returns-clause-fires : goal.returns-clause-fires
returns-clause-fires c = λ definitions are.
    sym (append-nil c.loop-place.fires.items) ∙ ap (λ (left : List ℕ). c.loop-place.fires.items ++ fires_at c.args.around.now definitions left) (sym (drop_all c.loop-place.place-index c.args.places.now c.loop-place-test.false)) ∙ c.loop-place.invariant.fires definitions are
