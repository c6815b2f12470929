use Rattle.std.proofs.Common.{◌≡◌, true, refl, subst}
use Rattle.std.specs.List.{list_any}
use Rattle.group_rows.proofs.Gathering.{firsts-again, same_second, same_second_laws}
use Rattle.group_rows.proofs.fewer.push_pair.Goals as goal

pub returns-then-is_kept : goal.returns-then-is_kept
returns-then-is_kept c =
    firsts-again same_second same_second_laws c.args.pairs.now.items c.args.pair
    (subst (λ l. list_any (same_second c.args.pair) l ≡ true) c.as_slice-2.ensures.value (c.if-is_kept.ensures refl))
