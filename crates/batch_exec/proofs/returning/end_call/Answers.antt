use Rattle.std.proofs.Common.{◌≡◌, to_z, of_z, refl, rules, sym}
use Rattle.std.specs.Int.{w32}
use Rattle.batch_meaning.proofs.Composed.{does_no, does_out, does_reads, does_yes}
use Rattle.batch_exec.proofs.returning.end_call.Goals as goal

pub returns-then-is_even-clause-does : goal.returns-then-is_even-clause-does
returns-then-is_even-clause-does g c =
    let same : to_z w32 (of_z w32 c.args.status) ≡ c.args.status = search rules in
    does_reads (does_yes _ _ _ (sym c.if-is_even.ensures) (rw same at c.end_even.ensures.does))

pub returns-in_err-line-clause-does : goal.returns-in_err-line-clause-does
returns-in_err-line-clause-does g c = does_out _ c.from_residual.ensures.0 refl

pub returns-in_err-procedure-clause-does : goal.returns-in_err-procedure-clause-does
returns-in_err-procedure-clause-does g c = does_out _ c.from_residual-in_err-procedure.ensures.0 refl

pub returns-in_err-raised-clause-does : goal.returns-in_err-raised-clause-does
returns-in_err-raised-clause-does g c = does_out _ c.from_residual-in_err-raised.ensures.0 refl

pub returns-clause-does : goal.returns-clause-does
returns-clause-does g c =
    let same : to_z w32 (of_z w32 c.args.status) ≡ c.args.status = search rules in
    let line : to_z w32 (of_z w32 c.in_ok-line.line) ≡ c.in_ok-line.line = search rules in
    does_reads (does_no _ _ _ (sym c.if-is_even.ensures) (rw (same, c.in_ok-raised.ensures, line, c.in_ok-line.ensures, c.in_ok-procedure.ensures, c.plain.ensures) at c.end_uneven.ensures.does))
