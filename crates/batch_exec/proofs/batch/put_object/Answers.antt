use Rattle.std.proofs.Common.{◌≡◌, to_z, of_z, refl, rules, sym}
use Rattle.std.specs.Int.{w32}
use Rattle.batch_meaning.specs.Meaning.{puts_object}
use Rattle.batch_meaning.proofs.Composed.{does_makes, does_no, does_over, does_reads, does_then, does_yes}
use Rattle.batch_exec.proofs.batch.put_object.Goals as goal

pub returns-then-is_doomed-clause-does : goal.returns-then-is_doomed-clause-does
unfolding puts_object
returns-then-is_doomed-clause-does g c =
    let same : to_z w32 (of_z w32 c.args.line) ≡ c.args.line = search rules in
    does_reads (does_yes _ _ _ (sym c.if-is_doomed.ensures) (rw (c.plain-failure.ensures, same) at c.fail_at.ensures.does))

pub returns-in-Ok-clause-does : goal.returns-in-Ok-clause-does
unfolding puts_object
returns-in-Ok-clause-does g c = does_reads (does_no _ _ _ (sym c.if-is_doomed.ensures) (does_then _ _ c.in-Ok.ensures.does (does_makes c.tell_rows.ensures (does_makes c.tell_error.ensures (does_over refl)))))

pub returns-clause-does : goal.returns-clause-does
unfolding puts_object
returns-clause-does g c =
    let same : to_z w32 (of_z w32 c.args.line) ≡ c.args.line = search rules in
    does_reads (does_no _ _ _ (sym c.if-is_doomed.ensures) (does_then _ _ c.in-Err.ensures.does (rw same at c.fail_at-in-Err.ensures.does)))
