use Rattle.std.proofs.Common.{◌∙◌, sym}
use Rattle.clause_binder.proofs.RowColumns.{found_behind, found_here, is_past}
use Rattle.clause_binder.proofs.groups.column_at.Goals as goal

pub returns-in-Some : goal.returns-in-Some
returns-in-Some c =
    sym (found_here c.args.sources.now c.loop-source.source-index c.source-item.result _ c.loop-source.place c.in-Some.column.now
    c.loop-source-test.true (c.source.view_is ∙ c.source-item.is) (sym c.in-Some.ensures))
    ∙ c.loop-source.invariant

pub overflow_sub-place : goal.overflow_sub-place
overflow_sub-place c = is_past c.source.inside.columns.now c.loop-source.place (sym c.in-None.ensures)

pub loop-source-preserved : goal.loop-source-preserved
loop-source-preserved c =
    found_behind c.args.sources.now c.loop-source.source-index c.source-item.result _ c.loop-source.place
    c.loop-source-test.true (c.source.view_is ∙ c.source-item.is) (sym c.in-None.ensures)
    ∙ c.loop-source.invariant
