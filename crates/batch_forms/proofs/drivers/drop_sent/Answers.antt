use Rattle.std.proofs.Common.{◌≡◌, of_z, to_z, rules, sym, ◌∙◌}
use Rattle.std.specs.Int.{w64}
use Rattle.batch_meaning.specs.Drivers.{handle_of}
use Rattle.batch_forms.proofs.Taken.{none_sent, sent_dropped}
use Rattle.batch_forms.proofs.drivers.drop_sent.Goals as goal

pub returns-in_default : goal.returns-in_default
returns-in_default c = none_sent c.args.prepared.now (handle_of c.args.handle.now) (sym c.handle_of.ensures ∙ c.in_default.is)

pub returns : goal.returns
returns c =
    let same : to_z w64 (of_z w64 c.in-Some.number) ≡ c.in-Some.number = search rules in
    sent_dropped c.args.prepared.now (handle_of c.args.handle.now) _ c.in-Some.number (sym c.handle_of.ensures ∙ c.in-Some.is) (rw same at c.drop_of.ensures)
