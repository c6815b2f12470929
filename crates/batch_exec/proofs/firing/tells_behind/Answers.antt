use Rattle.std.proofs.Common.{refl, sym}
use Rattle.batch_exec.proofs.firing.tells_behind.Goals as goal

pub returns-then-is_full : goal.returns-then-is_full
returns-then-is_full c = λ one. rw (sym (rw c.tokens.ensures at c.if-is_full.ensures)) (rw c.plain.ensures refl)

pub returns-else-is_full : goal.returns-else-is_full
returns-else-is_full c = λ one. rw (sym (rw c.tokens.ensures at c.if-is_full.ensures)) refl
