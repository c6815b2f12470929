use Rattle.std.proofs.lemmas.Result.{err_from_is_err_and}
use Rattle.dml_exec.proofs.Updated.{updated_fault, updated_set}
use Rattle.dml_exec.proofs.rewriting.updated.Goals as goal

pub returns-in_err-news : goal.returns-in_err-news
returns-in_err-news c =
    let p = err_from_is_err_and c.from_residual-in_err-news.result c.from_residual-in_err-news.ensures.1 in
    rw (p.1, p.2)
    (updated_fault _ _ c.args.source.now.shape.now c.args.inner.now c.args.source.now.images.now _ _ c.in_ok-answers.ensures c.args.sets.now c.args.filter.now c.args.source.now.key.now c.requires.key c.in_ok-olds.olds.items c.in_ok-olds.ensures
    c.in_err-news.field-0.0 (rw (c.as_slice-2.ensures, c.as_slice.ensures.value) at c.in_err-news.ensures))

pub returns : goal.returns
returns c =
    rw (c.from.ensures, c.from-2.ensures)
    (updated_set _ _ c.args.source.now.shape.now c.args.inner.now c.args.source.now.images.now _ _ c.in_ok-answers.ensures c.args.sets.now c.args.filter.now c.args.source.now.key.now c.requires.key c.in_ok-olds.olds.items c.in_ok-olds.ensures
    c.in_ok-news.news.items (rw (c.as_slice-2.ensures, c.as_slice.ensures.value) at c.in_ok-news.ensures))
