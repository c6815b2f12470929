use Rattle.std.proofs.Common.{◌≡◌, true, false, Err, ap, refl, sym, ◌∙◌, rules}
use Rattle.batch_meaning.specs.Asking.{with_found}
use Rattle.batch_meaning.proofs.Composed.{leads_here, leads_room, leads_to}
use Rattle.statement_exec.proofs.Looking.{alone_begun, others_begun}
use Rattle.statement_exec.proofs.Parts.{does_made, fails_seen, name_found, name_last, names_done, next_name}
use Rattle.statement_exec.proofs.look_up.look_up_all.Goals as goal

pub loop-name-init : goal.loop-name-init
loop-name-init g c = record { ready = c.requires.ready; begun = c.requires.begun; kept = refl; vars = refl; leads = rw c.new-definitions.ensures.items leads_here }

pub find_name-requires-clause-begun : goal.find_name-requires-clause-begun
find_name-requires-clause-begun g c = alone_begun _ _ _ _ _ c.name-item.is c.loop-name-test.true c.loop-name.invariant.begun

pub returns-in_err-found-clause-does : goal.returns-in_err-found-clause-does
returns-in_err-found-clause-does g c = leads_to (next_name _ _ _ _ _ c.name-item.is c.loop-name-test.true c.loop-name.invariant.leads)
    (fails_seen _ _ _ c.from_residual.ensures.0 c.from_residual.ensures.1 c.in_err-found.ensures.does)

pub returns-then-not-is_table-clause-does : goal.returns-then-not-is_table-clause-does
returns-then-not-is_table-clause-does g c = name_last _ _ _ _ _ c.name-item.is c.loop-name-test.true c.loop-name.invariant.leads _ c.in_ok-found.ensures.does (sym c.if-not-is_table.ensures)

pub returns-then-not-add-clause-does : goal.returns-then-not-add-clause-does
returns-then-not-add-clause-does g c = leads_to (leads_room false _ (name_found _ _ _ _ _ c.name-item.is c.loop-name-test.true c.loop-name.invariant.leads _ c.in_ok-found.ensures.does (sym c.if-not-is_table.ensures)))
    (does_made (ap Err c.plain.ensures))

pub loop-name-preserved : goal.loop-name-preserved
loop-name-preserved g c =
    let added : c.add.new.definitions.items ≡ with_found c.loop-name.definitions.items c.in_ok-found.found = c.add.ensures (search rules) in
    record {
      ready = c.in_ok-found.ensures.ready;
      begun = others_begun _ _ _ _ _ _ _ c.name-item.is c.loop-name-test.true c.loop-name.invariant.begun (sym c.if-not-is_table.ensures) c.in_ok-found.ensures.more;
      kept = c.in_ok-found.ensures.kept ∙ c.loop-name.invariant.kept;
      vars = c.in_ok-found.ensures.vars ∙ c.loop-name.invariant.vars;
      leads = rw added (leads_room true _ (name_found _ _ _ _ _ c.name-item.is c.loop-name-test.true c.loop-name.invariant.leads _ c.in_ok-found.ensures.does (sym c.if-not-is_table.ensures)));
    }

pub returns-clause-does : goal.returns-clause-does
returns-clause-does g c = leads_to c.loop-name.invariant.leads (names_done _ _ _ _ c.loop-name-test.false)
