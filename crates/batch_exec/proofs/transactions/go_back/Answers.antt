use Rattle.std.proofs.Common.{◌≡◌, to_z, of_z, Ok, Err, ap, rules, sym, ◌∙◌}
use Rattle.std.specs.Int.{w32}
use Rattle.txn_rules.specs.declared.state.BackKind.TheVariants.{Mark}
use Rattle.txn_rules.specs.State.{rollback_answer}
use Rattle.batch_meaning.proofs.Composed.{does_asks}
use Rattle.statement_exec.proofs.Parts.{does_made}
use Rattle.batch_exec.proofs.TxnSteps.{does_numbered, named_live, named_open}
use Rattle.batch_exec.proofs.transactions.go_back.Goals as goal

pub take_back-requires-clause-live : goal.take_back-requires-clause-live
take_back-requires-clause-live g c = named_live c.args.name.now c.args.session.now.txn _ _ c.requires.ready.live (sym c.rollback_answer.ensures ∙ c.in-Ok-Mark.is ∙ ap Ok c.in-Ok-Mark.field-0-is)

pub take_back-requires-clause-begun : goal.take_back-requires-clause-begun
take_back-requires-clause-begun g c = named_open c.args.session.now c.requires.ready c.args.name.now (Mark c.in-Ok-Mark.mark) (sym c.rollback_answer.ensures ∙ c.in-Ok-Mark.is ∙ ap Ok c.in-Ok-Mark.field-0-is)

pub returns-in-Ok-Mark-clause-does : goal.returns-in-Ok-Mark-clause-does
returns-in-Ok-Mark-clause-does g c =
    let is : rollback_answer c.args.name.now c.args.session.now.txn ≡ Ok (Mark c.in-Ok-Mark.mark) = sym c.rollback_answer.ensures ∙ c.in-Ok-Mark.is ∙ ap Ok c.in-Ok-Mark.field-0-is in
    rw is (does_asks c.take_back.ensures.back (does_made (ap Ok c.none.ensures)))

pub returns-in-Err-clause-does : goal.returns-in-Err-clause-does
returns-in-Err-clause-does g c =
    let same : to_z w32 (of_z w32 c.in-Err.number) ≡ c.in-Err.number = search rules in
    let is : rollback_answer c.args.name.now c.args.session.now.txn ≡ Err c.in-Err.number = sym c.rollback_answer.ensures ∙ c.in-Err.is in
    rw is (does_numbered _ _ _ (rw same at c.numbered.ensures))
