use Rattle.std.proofs.Common.{◌∙◌}
use Rattle.constraint_check.specs.declared.inserted.Spot.{Spot}
use Rattle.constraint_check.proofs.inserted.Inserted.is_again.Goals as goal

pub returns : goal.returns
returns c =
    let spot : Spot = record { table = record { ref_ptr = (0, 0); now = c.args.change.now.table }; key = record { ref_ptr = (0, 0); now = c.args.change.now.key } } in
    c.contains.ensures ∙ c.args.self.now.spots_are spot
