use Rattle.std.proofs.Common.{◌≡◌, of_z, to_z, ◌∙◌}
use Rattle.std.specs.Int.{w64}
use Rattle.std.proofs.lemmas.Int.{to_z-of_z}
use Rattle.batch_meaning.specs.Drivers.{kept_under}
use Rattle.batch_forms.proofs.Taken.{is_some_of}
use Rattle.batch_forms.proofs.drivers.is_kept.Goals as goal

pub returns : goal.returns
returns c =
    let same : to_z w64 (of_z w64 c.args.handle) ≡ c.args.handle = to_z-of_z w64 c.args.handle c.ranges.handle in
    c.is_some.ensures ∙ is_some_of (λ one. one.now) c.find.result (kept_under c.args.handle c.args.prepared.now) (rw same at c.find.ensures)
