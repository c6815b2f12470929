use Rattle.std.proofs.Common.{◌≡◌, true, [], drop}
use Rattle.tsql_tree.specs.declared.statement.Form.{out-Form}
use Rattle.batch_meaning.specs.Doing.{Leads}
use Rattle.batch_meaning.specs.Asking.{looks_up}
use Rattle.batch_meaning.specs.Progress.{Ready}
use Rattle.batch_meaning.specs.Working.{asks_any, known_in}
use Rattle.statement_exec.proofs.look_up.look_up_all.Given as goal

-- the names that are left lead to the whole
abbrev pub invariant-loop-name : goal.invariant-loop-name
invariant-loop-name g l = record {
  ready : Ready l.session (g.P.Port.past l.port);
  begun : asks_any (known_in l.around.fired (out-Form l.form)) (drop l.name-index l.names) ≡ true → l.session.is_open ≡ true;
  kept : l.session.is_open ≡ l.initial.session.is_open;
  vars : l.session.vars ≡ l.initial.session.vars;
  leads : Leads (g.P.Port.past l.initial.port) (g.P.Port.past l.port) (looks_up (known_in l.around.fired (out-Form l.form)) [] l.names) l.initial.session (looks_up (known_in l.around.fired (out-Form l.form)) l.definitions.items (drop l.name-index l.names)) l.session;
}
