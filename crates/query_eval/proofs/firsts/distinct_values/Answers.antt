use Rattle.std.proofs.Common.{map, ap, ◌∙◌}
use Rattle.std.proofs.lemmas.Result.{IfOk-weaker}
use Rattle.bound_tree.specs.Setting.{only_of}
use Rattle.group_rows.specs.Equals.{firsts, same_row}
use Rattle.query_eval.proofs.Equals.{distinct_values_are}
use Rattle.query_eval.proofs.firsts.distinct_values.Goals as goal

pub returns : goal.returns
returns c =
    IfOk-weaker c.only_values.result _ _
    (λ values are. are ∙ ap (map only_of) (c.in_ok-found.ensures ∙ ap (firsts same_row) c.in_ok-rows.ensures) ∙ distinct_values_are c.args.values.items)
    c.only_values.ensures
