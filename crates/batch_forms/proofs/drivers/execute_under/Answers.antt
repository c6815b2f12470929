use Rattle.std.proofs.Common.{◌≡◌, of_z, to_z, refl, sym, ◌∙◌}
use Rattle.std.specs.Int.{w64}
use Rattle.std.proofs.lemmas.Int.{to_z-of_z}
use Rattle.batch_forms.proofs.Taken.{executes_is, none_found, unknown_is}
use Rattle.batch_meaning.specs.Drivers.{executed, kept_under, source_for}
use Rattle.batch_forms.proofs.drivers.execute_under.Goals as goal

pub returns-in-Some : goal.returns-in-Some
returns-in-Some c =
    let same : to_z w64 (of_z w64 c.args.handle) ≡ c.args.handle = to_z-of_z w64 c.args.handle c.ranges.handle in
    executes_is _ _ c.args.prepared.now c.args.parameters.items c.args.handle (kept_under c.args.handle c.args.prepared.now) c.in-Some.source (sym c.in-Some.is ∙ (rw same at c.in_ok-source.ensures)) (rw same at c.use_of.ensures) c.executes.ensures

pub returns-in-None : goal.returns-in-None
returns-in-None c =
    let same : to_z w64 (of_z w64 c.args.handle) ≡ c.args.handle = to_z-of_z w64 c.args.handle c.ranges.handle in
    unknown_is _ _ c.args.prepared.now c.args.parameters.items c.args.handle (executed c.args.prepared.now c.args.parameters.items c.args.handle) (kept_under c.args.handle c.args.prepared.now)
    (none_found (λ one. source_for 1 one.declarations one.statement) (kept_under c.args.handle c.args.prepared.now) (sym c.in-None.is ∙ (rw same at c.in_ok-source.ensures))) refl (rw same at c.unknown.ensures)
