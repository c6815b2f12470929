use Rattle.std.proofs.Common.{◌≡◌, of_z, to_z, refl, sym}
use Rattle.std.specs.Int.{w64}
use Rattle.std.proofs.lemmas.Int.{to_z-of_z}
use Rattle.batch_forms.proofs.Taken.{unknown_is, unprepares_is}
use Rattle.batch_meaning.specs.Drivers.{kept_under, unprepared}
use Rattle.batch_forms.proofs.drivers.unprepare_under.Goals as goal

pub returns-then-is_kept : goal.returns-then-is_kept
returns-then-is_kept c =
    let same : to_z w64 (of_z w64 c.args.handle) ≡ c.args.handle = to_z-of_z w64 c.args.handle c.ranges.handle in
    unprepares_is _ _ c.args.prepared.now c.args.parameters.items c.args.handle (kept_under c.args.handle c.args.prepared.now) (sym (rw same at c.if-is_kept.ensures)) (rw same at c.drop_of.ensures) c.system_errand.ensures

pub returns-else-is_kept : goal.returns-else-is_kept
returns-else-is_kept c =
    let same : to_z w64 (of_z w64 c.args.handle) ≡ c.args.handle = to_z-of_z w64 c.args.handle c.ranges.handle in
    unknown_is _ _ c.args.prepared.now c.args.parameters.items c.args.handle (unprepared c.args.prepared.now c.args.parameters.items c.args.handle) (kept_under c.args.handle c.args.prepared.now) (sym (rw same at c.if-is_kept.ensures)) refl (rw same at c.unknown.ensures)
