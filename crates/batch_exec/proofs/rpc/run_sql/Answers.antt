use Rattle.std.proofs.Common.{◌≡◌, to_z, of_z, refl, rules}
use Rattle.std.specs.Int.{w32}
use Rattle.batch_meaning.specs.Meaning.{mean_of}
use Rattle.batch_meaning.specs.Progress.{statement_limit}
use Rattle.batch_meaning.proofs.Composed.{does_out}
use Rattle.batch_exec.proofs.Raises.{does_refused}
use Rattle.batch_exec.proofs.Requests.{does_defined_sql, does_unmatched}
use Rattle.batch_exec.proofs.rpc.run_sql.Goals as goal

pub returns-in_err-failure-in-Refused-clause-does : goal.returns-in_err-failure-in-Refused-clause-does
returns-in_err-failure-in-Refused-clause-does g c = does_out _ c.from_residual.ensures.0 refl

pub returns-in-Refused-clause-does : goal.returns-in-Refused-clause-does
returns-in-Refused-clause-does g c =
    let same : to_z w32 (of_z w32 c.in-Refused.line) ≡ c.in-Refused.line = search rules in
    rw c.in-Refused.is (does_refused _ _ (rw (c.in_ok-failure-in-Refused.ensures, same) at c.refuse.ensures.refused) c.refuse.ensures.kept)

pub returns-in-Defines-clause-does : goal.returns-in-Defines-clause-does
returns-in-Defines-clause-does g c = rw c.in-Defines.is (does_defined_sql (λ inner at. mean_of statement_limit inner at) c.args.call.now c.in-Defines.field-0 c.in-Defines.of c.in-Defines.field-2 c.run_defined.ensures.does)

pub returns-clause-does : goal.returns-clause-does
returns-clause-does g c = rw c.in-Statements.is (does_unmatched (λ inner at. mean_of statement_limit inner at) c.args.call.now (rw c.plain.ensures at c.fail_call.ensures.does))
