use Rattle.std.proofs.Common.{true, false, Err, Ok, Option, Some, None, ap, refl, subst}
use Rattle.tsql_tree.specs.declared.definition.Definition.{Definition}
use Rattle.tsql_tree.specs.declared.statement.Form.{out-Form}
use Rattle.batch_meaning.specs.Doing.{Did}
use Rattle.batch_meaning.specs.Asking.{finds_by}
use Rattle.batch_meaning.specs.Working.{known_in}
use Rattle.batch_meaning.proofs.Composed.{does_over, does_room}
use Rattle.statement_exec.proofs.Looking.{found_begun, given_more, looked_begun}
use Rattle.statement_exec.proofs.Parts.{does_made}
use Rattle.statement_exec.proofs.look_up.find_name.Goals as goal

pub look_up-requires-clause-begun : goal.look_up-requires-clause-begun
look_up-requires-clause-begun g c = looked_begun _ _ _ (rw c.in-LookedUp.is at c.known.ensures) c.requires.begun

pub returns-in-LookedUp-clause-does : goal.returns-in-LookedUp-clause-does
returns-in-LookedUp-clause-does g c = subst (λ (known : Option (Option Definition)). Did (g.P.Port.past c.args.port.now) (g.P.Port.past c.look_up.new.port) (finds_by known c.args.name.now) c.args.session.now (Ok c.look_up.result) c.look_up.new.session) (rw c.in-LookedUp.is at c.known.ensures) c.look_up.ensures.does

pub returns-in-LookedUp-clause-more : goal.returns-in-LookedUp-clause-more
returns-in-LookedUp-clause-more g c = found_begun (known_in c.args.around.now.fired (out-Form c.args.form.now) c.args.name.now) c.args.name.now c.args.session.now.is_open c.look_up.new.session.is_open c.look_up.result c.look_up.ensures.found

pub returns-in-Nothing-clause-does : goal.returns-in-Nothing-clause-does
returns-in-Nothing-clause-does g c = subst (λ (known : Option (Option Definition)). Did (g.P.Port.past c.args.port.now) (g.P.Port.past c.args.port.now) (finds_by known c.args.name.now) c.args.session.now (Ok (Ok None)) c.args.session.now) (rw c.in-Nothing.is at c.known.ensures) (does_room true (does_over refl))

pub returns-in-Ok-clause-does : goal.returns-in-Ok-clause-does
returns-in-Ok-clause-does g c = subst (λ (known : Option (Option Definition)). Did (g.P.Port.past c.args.port.now) (g.P.Port.past c.args.port.now) (finds_by known c.args.name.now) c.args.session.now (Ok (Ok (Some c.in-Ok.table))) c.args.session.now) (rw c.in-Given.is at c.known.ensures) (rw c.in-Ok.ensures (does_room true (does_over refl)))

pub returns-in-Ok-clause-more : goal.returns-in-Ok-clause-more
returns-in-Ok-clause-more g c = λ some others begun asks. given_more _ _ c.args.name.now _ _ others (rw c.in-Given.is at c.known.ensures) refl begun asks

pub returns-in-Err-clause-does : goal.returns-in-Err-clause-does
returns-in-Err-clause-does g c = subst (λ (known : Option (Option Definition)). Did (g.P.Port.past c.args.port.now) (g.P.Port.past c.args.port.now) (finds_by known c.args.name.now) c.args.session.now (Ok (Err c.plain.result)) c.args.session.now) (rw c.in-Given.is at c.known.ensures) (does_room false (does_made (ap Err c.plain.ensures)))
