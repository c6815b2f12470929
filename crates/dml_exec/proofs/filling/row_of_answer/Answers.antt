use Rattle.std.proofs.Common.{◌∙◌, ap, sym, Ok}
use Rattle.std.proofs.lemmas.Result.{err_from_is_err_and}
use Rattle.value_types.specs.declared.value.Value.{Value}
use Rattle.dml_exec.specs.Filling.{filled, null_row}
use Rattle.dml_exec.specs.Planning.{values_selected}
use Rattle.dml_exec.proofs.Filled.{pair_none, pair_fault}
use Rattle.dml_exec.proofs.filling.row_of_answer.Goals as goal

pub returns-in_default : goal.returns-in_default
returns-in_default c =
    pair_none c.args.columns.now (λ (x : Value). Ok x) c.args.places.now c.loop-place.rest.now c.loop-place.row.items (filled c.args.columns.now (values_selected c.args.places.now c.args.answered.now) (null_row c.args.columns.now)) c.loop-place.place-index c.loop-place.invariant c.in_default.len_below
    ∙ ap Ok (sym c.from.ensures)

pub returns-in_err-store : goal.returns-in_err-store
returns-in_err-store c =
    let p = err_from_is_err_and c.from_residual-in_err-store.result c.from_residual-in_err-store.ensures.1 in
    rw (p.1, p.2)
    (pair_fault c.args.columns.now (λ (x : Value). Ok x) c.args.places.now c.loop-place.rest.now c.loop-place.row.items (filled c.args.columns.now (values_selected c.args.places.now c.args.answered.now) (null_row c.args.columns.now)) c.loop-place.place-index c.loop-place.invariant
    c.value-item.result c.loop-place-test.true c.in-len1-up.len_at_least c.value-item.is c.in_err-store.field-0.0 c.in_err-store.ensures)
