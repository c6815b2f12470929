use Rattle.std.proofs.Common.{◌≡◌, ◌∙◌, subst}
use Rattle.std.specs.List.{items_where_true}
use Rattle.std.proofs.lemmas.Result.{IfOk-weaker}
use Rattle.group_rows.specs.Equals.{firsts}
use Rattle.group_rows.proofs.Gathering.{rows_kept_are, same_second}
use Rattle.group_rows.proofs.equals.distinct_pairs.Goals as goal

pub returns : goal.returns
returns c =
    IfOk-weaker c.pairs_kept.result _ _
    (λ found are. are ∙ rows_kept_are c.args.pairs.items c.in_ok-kept.kept.items ∙ subst (λ l. items_where_true c.in_ok-kept.kept.items l ≡ firsts same_second l) c.deref.ensures.value c.in_ok-kept.ensures.firsts)
    c.pairs_kept.ensures
