use Rattle.std.proofs.Common.{◌≡◌, to_z, of_z, refl, rules, sym}
use Rattle.std.specs.Int.{w32}
use Rattle.batch_meaning.specs.Meaning.{ended_by}
use Rattle.batch_meaning.specs.Rpc.{ends_exec}
use Rattle.batch_meaning.proofs.Composed.{does_no, does_out, does_reads, does_yes}
use Rattle.batch_exec.proofs.rpc.end_exec.Goals as goal

pub returns-in_err-values-clause-does : goal.returns-in_err-values-clause-does
returns-in_err-values-clause-does g c = does_out _ c.from_residual.ensures.0 refl

pub returns-in_err-tokens-clause-does : goal.returns-in_err-tokens-clause-does
returns-in_err-tokens-clause-does g c = does_out _ c.from_residual-in_err-tokens.ensures.0 refl

pub returns-then-is_even-clause-does : goal.returns-then-is_even-clause-does
unfolding ends_exec ended_by
returns-then-is_even-clause-does g c =
    let same : to_z w32 (of_z w32 c.args.status) ≡ c.args.status = search rules in
    does_reads (does_reads (does_yes _ _ _ (sym c.if-is_even.ensures) (rw (c.in_ok-tokens.ensures, c.in_ok-values.ensures.told, c.vars.ensures.vars, same) at c.tell_returned.ensures.does)))

pub returns-in_err-raised-clause-does : goal.returns-in_err-raised-clause-does
returns-in_err-raised-clause-does g c = does_out _ c.from_residual-in_err-raised.ensures.0 refl

pub returns-in_err-tokens-2-clause-does : goal.returns-in_err-tokens-2-clause-does
returns-in_err-tokens-2-clause-does g c = does_out _ c.from_residual-in_err-tokens-2.ensures.0 refl

pub returns-clause-does : goal.returns-clause-does
unfolding ends_exec
returns-clause-does g c =
    let same : to_z w32 (of_z w32 c.args.status) ≡ c.args.status = search rules in
    does_reads (does_reads (does_no _ _ _ (sym c.if-is_even.ensures) (rw (c.in_ok-tokens-2.ensures, c.in_ok-tokens.ensures, c.in_ok-values.ensures.told, c.vars.ensures.vars, same, c.get-3.ensures, c.action-action.ensures, c.settings.ensures, c.get.ensures, c.get-2.ensures, c.batch.ensures, c.in_ok-raised.ensures, c.plain.ensures) at c.tell_returned-2.ensures.does)))
