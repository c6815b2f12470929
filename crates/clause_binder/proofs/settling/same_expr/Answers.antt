use Rattle.clause_binder.proofs.Sameness.{same_by}
use Rattle.clause_binder.proofs.settling.same_expr.Goals as goal

pub returns : goal.returns
returns c = same_by c.is_same.result c.args.a.now c.args.b.now c.is_same.ensures
