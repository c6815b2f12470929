use Rattle.batch_meaning.specs.Asking.{reads_images}
use Rattle.batch_meaning.specs.Working.{answers}
use Rattle.batch_meaning.proofs.Composed.{does_bind, does_reads}
use Rattle.statement_exec.proofs.Querying.{answer_is, same_reads, unshaped_images}
use Rattle.statement_exec.proofs.Parts.{does_read, fails_seen}
use Rattle.statement_exec.proofs.query.answer.Goals as goal

pub returns-in_err-images-clause-does : goal.returns-in_err-images-clause-does
unfolding answers reads_images
returns-in_err-images-clause-does g c = fails_seen _ _ _ c.from_residual.ensures.0 c.from_residual.ensures.1 (does_reads (rw (c.settings-level.ensures, c.fired.ensures, same_reads _ _ _ _ _ _ c.requires.query) at c.in_err-images.ensures.does))

pub returns-clause-does : goal.returns-clause-does
unfolding answers reads_images
returns-clause-does g c = does_bind _ _ (does_reads (rw (c.settings-level.ensures, c.fired.ensures, same_reads _ _ _ _ _ _ c.requires.query) at c.in_ok-images.ensures.does)) (does_read _ _ (rw c.as_slice.ensures at c.answered.ensures.came))

pub returns-clause-answered : goal.returns-clause-answered
returns-clause-answered g c = answer_is _ _ _ _ _ _ _ c.requires.query (rw c.fired.ensures at c.in_ok-images.ensures.fit) (unshaped_images _ _ _ _ _ c.in_ok-images.ensures.does) c.answered.ensures.typed c.answered.ensures.fit (rw c.as_slice.ensures at c.answered.ensures.came)
