use Rattle.std.proofs.Common.{sym}
use Rattle.std.proofs.lemmas.Result.{err_from_is_err_and}
use Rattle.query_eval.specs.Found.{setting_at}
use Rattle.query_eval.proofs.Places.{groups_fault, groups_found}
use Rattle.query_eval.proofs.classes.classes_of.Goals as goal

pub returns-in_err-keys : goal.returns-in_err-keys
returns-in_err-keys c =
    let p = err_from_is_err_and c.from_residual-in_err-keys.result c.from_residual-in_err-keys.ensures.1 in
    rw (p.1, p.2)
    (groups_fault (setting_at c.args.context.now) c.args.rows.now c.args.exprs.now (sym c.if-is_empty.ensures) c.in_err-keys.field-0.0 c.in_err-keys.ensures)

pub returns : goal.returns
returns c =
    groups_found (setting_at c.args.context.now) c.args.rows.now c.args.exprs.now (sym c.if-is_empty.ensures)
    c.in_ok-keys.keys.items c.as_slice.result.now c.in_ok-classes.field-0.items c.in_ok-keys.ensures c.as_slice.ensures.value c.in_ok-classes.ensures
