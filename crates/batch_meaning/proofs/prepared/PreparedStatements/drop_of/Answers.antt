use Rattle.std.proofs.Common.{◌≡◌, ℤ, of_z, to_z, sym, ap, ◌∙◌}
use Rattle.std.specs.Int.{w64}
use Rattle.std.proofs.lemmas.Int.{to_z-of_z}
use Rattle.batch_meaning.specs.Drivers.{place_of}
use Rattle.batch_meaning.proofs.Kept.{dropped_at, none_dropped}
use Rattle.batch_meaning.proofs.prepared.PreparedStatements.drop_of.Goals as goal

pub returns-in_default : goal.returns-in_default
returns-in_default c =
    let same : to_z w64 (of_z w64 c.args.handle) ≡ c.args.handle = to_z-of_z w64 c.args.handle c.ranges.handle in
    none_dropped c.args.handle c.args.self.now (ap (λ (handle : ℤ). place_of handle c.args.self.now) (sym same) ∙ sym c.place_of.ensures ∙ c.in_default.is)

pub returns : goal.returns
returns c =
    let same : to_z w64 (of_z w64 c.args.handle) ≡ c.args.handle = to_z-of_z w64 c.args.handle c.ranges.handle in
    dropped_at c.args.handle c.args.self.now c.self.inside.given c.self.inside.kept.items _ c.in-Some.place c.self.view_is (ap (λ (handle : ℤ). place_of handle c.args.self.now) (sym same) ∙ sym c.place_of.ensures ∙ c.in-Some.is) c.remove-one.ensures.items
