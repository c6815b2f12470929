use Rattle.std.proofs.Common.{◌≡◌, to_z, of_z, true, None, Some, ap, refl, rules, sym, ◌∙◌}
use Rattle.std.specs.Int.{w32}
use Rattle.txn_rules.specs.State.{save_refusal}
use Rattle.batch_meaning.specs.Transactions.{saves_transaction, saves_unless}
use Rattle.batch_meaning.proofs.Composed.{does_over, does_room}
use Rattle.statement_exec.proofs.BoundFirst.{bound_fails, bound_on, does_go}
use Rattle.batch_exec.proofs.transactions.save_transaction.Goals as goal

pub returns-in_err-bind_first-clause-does : goal.returns-in_err-bind_first-clause-does
unfolding saves_transaction
returns-in_err-bind_first-clause-does g c = bound_fails c.args.statement.now _ _ _ c.from_residual.ensures.0 c.from_residual.ensures.1 c.in_err-bind_first.ensures

pub returns-in-Some-clause-does : goal.returns-in-Some-clause-does
unfolding saves_transaction
returns-in-Some-clause-does g c =
    let same : to_z w32 (of_z w32 c.in-Some.number) ≡ c.in-Some.number = search rules in
    let is : save_refusal c.args.session.now.txn ≡ Some c.in-Some.number = sym c.save_refusal.ensures ∙ c.in-Some.is in
    bound_on c.args.statement.now _ c.in_ok-bind_first.ensures (does_go _ _ (ap (saves_unless c.args.name.now) is) (does_room true (rw same (does_over refl))))

pub returns-in-None-clause-does : goal.returns-in-None-clause-does
unfolding saves_transaction
returns-in-None-clause-does g c =
    let is : save_refusal c.args.session.now.txn ≡ None = sym c.save_refusal.ensures ∙ c.in-None.is in
    bound_on c.args.statement.now _ c.in_ok-bind_first.ensures (does_go _ _ (ap (saves_unless c.args.name.now) is) (does_room true c.save.ensures.does))
