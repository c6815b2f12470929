use Rattle.std.proofs.Common.{ap, ◌∙◌, sym, Ok}
use Rattle.bound_tree.specs.Meaning as meaning
use Rattle.join_rows.specs.Joined.{Row}
use Rattle.query_eval.specs.Found.{setting_at}
use Rattle.query_eval.specs.Places.{row_at}
use Rattle.query_eval.proofs.Places.{nulls_of}
use Rattle.query_eval.proofs.Each.{each_map}
use Rattle.query_eval.proofs.classes.operands_of.Goals as goal

pub returns-in_ok-nulls-in-None : goal.returns-in_ok-nulls-in-None
returns-in_ok-nulls-in-None c = rw c.in-None.is (ap Ok (nulls_of c.args.rows.now c.args.class.now ∙ sym c.in_ok-nulls-in-None.ensures))

pub returns-in-Some : goal.returns-in-Some
returns-in-Some c =
    rw (c.in-Some.is, each_map (λ (row : Row). meaning.value (setting_at c.args.context.now row) c.in-Some.expr) (row_at c.args.rows.now) c.args.class.now) c.class_values.ensures
