use Rattle.std.proofs.Common.{◌≡◌, to_z, of_z, refl, sym, rules}
use Rattle.std.specs.Int.{w32}
use Rattle.batch_meaning.proofs.Composed.{does_no, does_out, does_yes}
use Rattle.batch_exec.proofs.Raises.{does_raises, ready_caught, ready_told}
use Rattle.session_state.proofs.Stepping.{does_stepped}
use Rattle.batch_exec.proofs.errors.raise_at.Goals as goal

pub returns-in_err-raised-clause-does : goal.returns-in_err-raised-clause-does
returns-in_err-raised-clause-does g c = does_out _ c.from_residual.ensures.0 refl

pub returns-then-catches-clause-does : goal.returns-then-catches-clause-does
returns-then-catches-clause-does g c =
    let line : to_z w32 (of_z w32 c.args.line) ≡ c.args.line = search rules in
    let same : to_z w32 (of_z w32 c.in_ok-raised.raised.number) ≡ c.in_ok-raised.raised.number = search rules in
    does_raises _ _ _ _ _ (rw line at c.in_ok-raised.ensures) (rw (c.get-2.ensures, same) at c.tell_error.ensures) (does_yes _ _ _ (sym (rw c.get-3.ensures at c.if-catches.ensures)) (does_stepped (rw (c.action-action.ensures, c.get.ensures, c.settings.ensures) at c.catch.ensures.came)))

pub returns-else-catches-clause-does : goal.returns-else-catches-clause-does
returns-else-catches-clause-does g c =
    let line : to_z w32 (of_z w32 c.args.line) ≡ c.args.line = search rules in
    let same : to_z w32 (of_z w32 c.in_ok-raised.raised.number) ≡ c.in_ok-raised.raised.number = search rules in
    does_raises _ _ _ _ _ (rw line at c.in_ok-raised.ensures) (rw (c.get-2.ensures, same) at c.tell_error.ensures) (does_no _ _ _ (sym (rw c.get-3.ensures at c.if-catches.ensures)) (rw (c.action-action.ensures, c.get.ensures, c.settings.ensures, c.done_kind.ensures, c.get-else-catches.ensures) at c.tell.ensures.does))

pub returns-then-catches-clause-ready : goal.returns-then-catches-clause-ready
returns-then-catches-clause-ready g c = ready_caught _ c.args.session.now c.tell_error.new.self c.catch.new.session c.requires.ready c.tell_error.ensures c.catch.ensures.kept c.catch.ensures.txn c.catch.ensures.count c.catch.ensures.settings

pub tell-requires : goal.tell-requires
tell-requires g c = record { ready = ready_told _ _ _ c.requires.ready c.tell_error.ensures }
