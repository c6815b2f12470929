use Rattle.std.proofs.Common.{◌≡◌, ◌∙◌, subst}
use Rattle.std.specs.List.{items_where_true}
use Rattle.std.proofs.lemmas.Result.{IfOk-weaker}
use Rattle.group_rows.specs.Equals.{firsts, same_row}
use Rattle.group_rows.proofs.Gathering.{rows_kept_are}
use Rattle.group_rows.proofs.equals.distinct.Goals as goal

pub returns : goal.returns
returns c =
    IfOk-weaker c.rows_kept.result _ _
    (λ found are. are ∙ rows_kept_are c.args.rows.items c.in_ok-kept.kept.items ∙ subst (λ l. items_where_true c.in_ok-kept.kept.items l ≡ firsts same_row l) c.deref.ensures.value c.in_ok-kept.ensures.firsts)
    c.rows_kept.ensures
