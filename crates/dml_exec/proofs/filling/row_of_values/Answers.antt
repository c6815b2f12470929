use Rattle.std.proofs.Common.{◌∙◌, ap, sym, Ok}
use Rattle.std.proofs.lemmas.Result.{err_from_is_err_and}
use Rattle.bound_tree.specs.declared.expr.BoundExpr.{BoundExpr}
use Rattle.bound_tree.specs.Meaning.{value}
use Rattle.scalar_eval.specs.Scopes.{setting_of}
use Rattle.dml_exec.specs.Filling.{filled, null_row}
use Rattle.dml_exec.specs.Planning.{values_given}
use Rattle.dml_exec.proofs.Filled.{pair_none, pair_more, pair_fault}
use Rattle.dml_exec.proofs.filling.row_of_values.Goals as goal

pub returns-in_default : goal.returns-in_default
returns-in_default c =
    pair_none c.args.columns.now (λ (expr : BoundExpr). value (setting_of c.args.scope.now) expr) c.args.places.now c.loop-place.rest.now c.loop-place.row.items (filled c.args.columns.now (values_given (setting_of c.args.scope.now) c.args.places.now c.args.exprs.now) (null_row c.args.columns.now)) c.loop-place.place-index c.loop-place.invariant c.in_default.len_below
    ∙ ap Ok (sym c.from.ensures)

pub returns-in_err-give : goal.returns-in_err-give
returns-in_err-give c =
    let p = err_from_is_err_and c.from_residual-in_err-give.result c.from_residual-in_err-give.ensures.1 in
    rw (p.1, p.2)
    (pair_fault c.args.columns.now (λ (expr : BoundExpr). value (setting_of c.args.scope.now) expr) c.args.places.now c.loop-place.rest.now c.loop-place.row.items (filled c.args.columns.now (values_given (setting_of c.args.scope.now) c.args.places.now c.args.exprs.now) (null_row c.args.columns.now)) c.loop-place.place-index c.loop-place.invariant
    c.expr-item.result c.loop-place-test.true c.in-len1-up.len_at_least c.expr-item.is c.in_err-give.field-0.0 c.in_err-give.ensures)

pub loop-place-preserved : goal.loop-place-preserved
loop-place-preserved c =
    pair_more c.args.columns.now (λ (expr : BoundExpr). value (setting_of c.args.scope.now) expr) c.args.places.now c.loop-place.rest.now c.loop-place.row.items (filled c.args.columns.now (values_given (setting_of c.args.scope.now) c.args.places.now c.args.exprs.now) (null_row c.args.columns.now)) c.loop-place.place-index c.loop-place.invariant
    c.expr-item.result c.loop-place-test.true c.in-len1-up.len_at_least c.expr-item.is c.give.new.row.items c.in_ok-give.ensures
