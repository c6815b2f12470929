use Rattle.std.proofs.Common.{sym, ◌∙◌, arith}
use Rattle.tsql_lexer.proofs.CommentSteps.{opened_at, closed_at, ended_at, plain_at, beyond}
use Rattle.tsql_lexer.proofs.comments.comment_size.Goals as goal

pub loop-at-preserved-in-Opener : goal.loop-at-preserved-in-Opener
loop-at-preserved-in-Opener c = record {
  within = omega arith;
  shallow = omega (arith, c.loop-at.invariant.shallow);
  whole = sym (opened_at c.args.text.now c.loop-at.at c.loop-at.depth (omega arith) (sym c.in-Opener.is ∙ c.mark_of.ensures)) ∙ c.loop-at.invariant.whole;
}

pub returns-then-depth-le1 : goal.returns-then-depth-le1
returns-then-depth-le1 c =
    sym (ended_at c.args.text.now c.loop-at.at c.loop-at.depth (omega arith) (sym c.in-Closer.is ∙ c.mark_of.ensures) (omega arith)) ∙ c.loop-at.invariant.whole

pub loop-at-preserved-in-Closer : goal.loop-at-preserved-in-Closer
loop-at-preserved-in-Closer c = record {
  within = omega arith;
  shallow = omega (arith, c.loop-at.invariant.shallow);
  whole = sym (closed_at c.args.text.now c.loop-at.at c.loop-at.depth (omega arith) (sym c.in-Closer.is ∙ c.mark_of.ensures) (omega arith)) ∙ c.loop-at.invariant.whole;
}

pub loop-at-preserved : goal.loop-at-preserved
loop-at-preserved c = record {
  within = omega arith;
  shallow = omega (arith, c.loop-at.invariant.shallow);
  whole = sym (plain_at c.args.text.now c.loop-at.at c.loop-at.depth (omega arith) (sym c.in-Plain.is ∙ c.mark_of.ensures)) ∙ c.loop-at.invariant.whole;
}

pub returns : goal.returns
returns c = sym (beyond c.args.text.now c.loop-at.at c.loop-at.depth c.loop-at.invariant.within (omega arith)) ∙ c.loop-at.invariant.whole
