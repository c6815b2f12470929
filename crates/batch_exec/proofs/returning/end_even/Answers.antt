use Rattle.std.proofs.Common.{◌≡◌, to_z, of_z, refl, rules, sym}
use Rattle.std.specs.Int.{w32}
use Rattle.batch_meaning.specs.Meaning.{ends_even}
use Rattle.batch_meaning.proofs.Composed.{does_no, does_out, does_reads, does_yes}
use Rattle.session_state.proofs.Stepping.{does_stepped}
use Rattle.batch_exec.proofs.returning.end_even.Goals as goal

pub returns-in_err-tokens-clause-does : goal.returns-in_err-tokens-clause-does
returns-in_err-tokens-clause-does g c = does_out _ c.from_residual.ensures.0 refl

pub returns-then-is_full-clause-does : goal.returns-then-is_full-clause-does
unfolding ends_even
returns-then-is_full-clause-does g c =
    let same : to_z w32 (of_z w32 c.args.status) ≡ c.args.status = search rules in
    does_reads (does_yes _ _ _ (sym (rw (c.in_ok-tokens.ensures, same) at c.if-is_full.ensures)) (rw c.plain-full.ensures at c.fail.ensures.does))

pub returns-clause-does : goal.returns-clause-does
unfolding ends_even
returns-clause-does g c =
    let same : to_z w32 (of_z w32 c.args.status) ≡ c.args.status = search rules in
    does_reads (does_no _ _ _ (sym (rw (c.in_ok-tokens.ensures, same) at c.if-is_full.ensures)) (does_stepped (rw (c.sending.ensures, c.in_ok-tokens.ensures, same) at c.succeed.ensures.came)))
