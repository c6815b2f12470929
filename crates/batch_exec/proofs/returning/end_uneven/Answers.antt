use Rattle.std.proofs.Common.{◌≡◌, to_z, of_z, refl, rules, sym}
use Rattle.std.specs.Int.{w32}
use Rattle.batch_meaning.specs.Meaning.{ends_uneven}
use Rattle.batch_meaning.proofs.Composed.{does_no, does_out, does_reads, does_yes}
use Rattle.batch_exec.proofs.returning.end_uneven.Goals as goal

pub returns-in_err-tokens-clause-does : goal.returns-in_err-tokens-clause-does
returns-in_err-tokens-clause-does g c = does_out _ c.from_residual.ensures.0 refl

pub returns-then-is_full-clause-does : goal.returns-then-is_full-clause-does
unfolding ends_uneven
returns-then-is_full-clause-does g c =
    let same : to_z w32 (of_z w32 c.args.status) ≡ c.args.status = search rules in
    does_reads (does_reads (does_yes _ _ _ (sym (rw (c.in_ok-tokens.ensures, same, c.get-3.ensures, c.action-action.ensures, c.settings.ensures, c.get-2.ensures, c.catches-caught.ensures, c.get.ensures) at c.if-is_full.ensures)) (rw c.plain-full.ensures at c.fail.ensures.does)))

pub returns-clause-does : goal.returns-clause-does
unfolding ends_uneven
returns-clause-does g c =
    let same : to_z w32 (of_z w32 c.args.status) ≡ c.args.status = search rules in
    does_reads (does_reads (does_no _ _ _ (sym (rw (c.in_ok-tokens.ensures, same, c.get-3.ensures, c.action-action.ensures, c.settings.ensures, c.get-2.ensures, c.catches-caught.ensures, c.get.ensures) at c.if-is_full.ensures)) (rw (c.in_ok-tokens.ensures, same, c.get-3.ensures, c.action-action.ensures, c.settings.ensures, c.get-2.ensures, c.catches-caught.ensures, c.get.ensures) at c.tell_uneven.ensures.does)))
