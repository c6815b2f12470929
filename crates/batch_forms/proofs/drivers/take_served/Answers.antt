use Rattle.std.proofs.Common.{◌≡◌, true, false, refl, sym, ap, ◌∙◌}
use Rattle.batch_meaning.specs.Drivers.{are_too_many}
use Rattle.batch_forms.proofs.Taken.{refused_is, served_is}
use Rattle.batch_forms.proofs.drivers.take_served.Goals as goal

pub returns-then-are_too_many : goal.returns-then-are_too_many
returns-then-are_too_many c =
    let many : are_too_many c.args.parameters.items ≡ true = ap are_too_many (sym c.as_slice.ensures.value) ∙ sym c.if-are_too_many.ensures in
    refused_is _ _ c.args.prepared.now c.args.parameters.items c.args.procedure many refl c.unmatched.ensures

pub returns : goal.returns
returns c =
    let few : are_too_many c.args.parameters.items ≡ false = ap are_too_many (sym c.as_slice.ensures.value) ∙ sym c.if-are_too_many.ensures in
    served_is _ _ c.args.prepared.now c.args.parameters.items c.args.procedure few c.take_system.ensures
