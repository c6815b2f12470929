use Rattle.std.proofs.Common.{refl, sym, Err, ap, ◌∙◌}
use Rattle.batch_meaning.specs.Asking.{unless_stopped}
use Rattle.batch_meaning.proofs.Composed.{does_over}
use Rattle.statement_exec.proofs.GivenReading.{may_read, ready_read, touched_open, touched_vars}
use Rattle.statement_exec.proofs.Holding.{does_images}
use Rattle.statement_exec.proofs.ImagesReading.{images_fit}
use Rattle.statement_exec.proofs.Parts.{does_made, does_shaped}
use Rattle.statement_exec.proofs.dialogs.read_given.Goals as goal

pub read_images-requires : goal.read_images-requires
read_images-requires g c = record { may = λ fetched. rw c.settings.ensures (may_read c.fetches_any.result c.requires.ready c.touch_if.ensures (λ asks. c.requires.begun (sym c.fetches_any.ensures ∙ asks)) (c.fetches_any.ensures ∙ fetched)) }

pub returns-in-Ok-clause-does : goal.returns-in-Ok-clause-does
returns-in-Ok-clause-does g c =
    let same = c.vars.ensures.vars ∙ touched_vars c.args.session.now c.fetches_any.result c.touch_if.ensures in
    does_shaped _ _ _ _ _ c.requires.some (does_images _ _ _ _ _ unless_stopped (rw c.fetches_any.ensures at c.touch_if.ensures)
    (rw (same, c.settings.ensures, c.in-Ok.is) at c.read_images.ensures.asks) (rw c.from_vec.ensures (does_over refl)))

pub returns-in-Ok-clause-ready : goal.returns-in-Ok-clause-ready
returns-in-Ok-clause-ready g c = ready_read c.fetches_any.result c.requires.ready c.touch_if.ensures c.read_images.ensures.standing

pub returns-in-Ok-clause-kept : goal.returns-in-Ok-clause-kept
returns-in-Ok-clause-kept g c = touched_open c.args.session.now c.fetches_any.result c.touch_if.ensures

pub returns-in-Ok-clause-vars : goal.returns-in-Ok-clause-vars
returns-in-Ok-clause-vars g c = touched_vars c.args.session.now c.fetches_any.result c.touch_if.ensures

pub returns-in-Ok-clause-fit : goal.returns-in-Ok-clause-fit
returns-in-Ok-clause-fit g c = λ none. rw c.from_vec.ensures (images_fit _ _ _ _ _ _ (rw (none, c.in-Ok.is) at c.read_images.ensures.asks))

pub returns-in-Err-clause-does : goal.returns-in-Err-clause-does
returns-in-Err-clause-does g c =
    let same = c.vars.ensures.vars ∙ touched_vars c.args.session.now c.fetches_any.result c.touch_if.ensures in
    does_shaped _ _ _ _ _ c.requires.some (does_images _ _ _ _ _ unless_stopped (rw c.fetches_any.ensures at c.touch_if.ensures)
    (rw (same, c.settings.ensures, c.in-Err.is) at c.read_images.ensures.asks) (does_made (ap Err c.stopped_by.ensures)))

pub returns-in-Err-clause-ready : goal.returns-in-Err-clause-ready
returns-in-Err-clause-ready g c = ready_read c.fetches_any.result c.requires.ready c.touch_if.ensures c.read_images.ensures.standing

pub returns-in-Err-clause-kept : goal.returns-in-Err-clause-kept
returns-in-Err-clause-kept g c = touched_open c.args.session.now c.fetches_any.result c.touch_if.ensures

pub returns-in-Err-clause-vars : goal.returns-in-Err-clause-vars
returns-in-Err-clause-vars g c = touched_vars c.args.session.now c.fetches_any.result c.touch_if.ensures
