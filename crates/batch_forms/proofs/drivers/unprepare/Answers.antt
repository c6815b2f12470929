use Rattle.std.proofs.Common.{◌≡◌, of_z, to_z, refl, rules, sym, ap, ◌∙◌}
use Rattle.std.specs.Int.{w64}
use Rattle.batch_meaning.specs.Drivers.{unprepared, handle_in}
use Rattle.batch_forms.proofs.Taken.{none_is, some_is}
use Rattle.batch_forms.proofs.drivers.unprepare.Goals as goal

pub returns-in-Some : goal.returns-in-Some
returns-in-Some c =
    let same : to_z w64 (of_z w64 c.in-Some.handle) ≡ c.in-Some.handle = search rules in
    some_is _ _ (unprepared c.args.prepared.now c.args.parameters.items) c.args.prepared.now c.args.parameters.items (handle_in c.args.parameters.items) c.in-Some.handle
    (ap handle_in (sym c.as_slice.ensures.value) ∙ sym c.handle_in.ensures ∙ c.in-Some.is) (rw same at c.unprepare_under.ensures)

pub returns-in-None : goal.returns-in-None
returns-in-None c =
    none_is _ _ (unprepared c.args.prepared.now c.args.parameters.items) c.args.prepared.now c.args.parameters.items (handle_in c.args.parameters.items)
    (ap handle_in (sym c.as_slice.ensures.value) ∙ sym c.handle_in.ensures ∙ c.in-None.is) refl c.unmatched.ensures
