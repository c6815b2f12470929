use Rattle.std.proofs.Common.{◌∙◌}
use Rattle.batch_forms.proofs.Declared.{declared_all, declared_more}
use Rattle.batch_forms.proofs.declarations.declared_from.Goals as goal

pub loop-spanned-preserved : goal.loop-spanned-preserved
loop-spanned-preserved c = declared_more _ _ _ _ _ _ _ c.loop-spanned.invariant _ _ _ c.loop-spanned-test.true c.spanned-item.is c.in_ok-add_lexeme.ensures c.is_open-opened.ensures

pub returns : goal.returns
returns c = c.from.ensures ∙ declared_all _ _ _ _ _ _ _ c.loop-spanned.invariant _ _ c.loop-spanned-test.false c.behind.ensures c.in_ok-extend_from_slice.ensures.items
