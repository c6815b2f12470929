use Rattle.std.proofs.Common.{Err, refl, ap, ◌∙◌}
use Rattle.batch_meaning.proofs.Composed.{does_makes, does_over}
use Rattle.session_state.proofs.Assigning.{none_fit}
use Rattle.session_state.proofs.Stepping.{does_stepped}
use Rattle.batch_exec.proofs.firing.end_write.Goals as goal

pub returns-in-Ok-clause-does : goal.returns-in-Ok-clause-does
returns-in-Ok-clause-does g c = rw c.in-Ok.is (does_stepped c.succeed.ensures.came)

pub returns-in-Err-Failed-clause-does : goal.returns-in-Err-Failed-clause-does
returns-in-Err-Failed-clause-does g c = rw (c.in-Err-Failed.is ∙ ap Err c.in-Err-Failed.field-0-is) c.fail.ensures.does

pub returns-in-Err-Left-clause-does : goal.returns-in-Err-Left-clause-does
returns-in-Err-Left-clause-does g c = rw (c.in-Err-Left.is ∙ ap Err c.in-Err-Left.field-0-is) (does_makes c.tell_rows.ensures (does_over refl))

pub succeed-requires : goal.succeed-requires
succeed-requires g c = record { fits = rw (rw c.in-Ok.is at c.requires.none) (none_fit _) }
