use Rattle.std.proofs.Common.{◌≡◌, of_z, to_z}
use Rattle.std.specs.Int.{w64}
use Rattle.std.proofs.lemmas.Int.{to_z-of_z}
use Rattle.batch_meaning.specs.Drivers.{kept_under}
use Rattle.batch_forms.proofs.Taken.{kept_none, kept_some}
use Rattle.batch_forms.proofs.drivers.kept_source.Goals as goal

pub returns-in_ok-source_for-in-Some : goal.returns-in_ok-source_for-in-Some
returns-in_ok-source_for-in-Some c =
    let same : to_z w64 (of_z w64 c.args.handle) ≡ c.args.handle = to_z-of_z w64 c.args.handle c.ranges.handle in
    kept_some (kept_under c.args.handle c.args.prepared.now) c.in-Some.one.now c.in_ok-source_for-in-Some.field-0 (rw same at c.in-Some.ensures)
    (rw (c.as_slice-declarations.ensures, c.as_slice-statement.ensures) at c.in_ok-source_for-in-Some.ensures)

pub returns-in-None : goal.returns-in-None
returns-in-None c =
    let same : to_z w64 (of_z w64 c.args.handle) ≡ c.args.handle = to_z-of_z w64 c.args.handle c.ranges.handle in
    kept_none (kept_under c.args.handle c.args.prepared.now) (rw same at c.in-None.ensures)
