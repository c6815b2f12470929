use Rattle.std.proofs.Common.{ℕ, ◌≤◌, ◌+◌, ◌*◌, drop}
use Rattle.batch_meaning.specs.Doing.{Leads}
use Rattle.batch_meaning.specs.Meaning.{each_of, mean_of, runs_triggers}
use Rattle.batch_meaning.specs.Progress.{Ready}
use Rattle.batch_exec.specs.Running.{turning}
use Rattle.batch_exec.proofs.running.+running.Given as goal

abbrev pub invariant-run_statements-loop-statement : goal.invariant-run_statements-loop-statement
invariant-run_statements-loop-statement g l = record {
  ready : Ready l.session (g.P.Port.past l.port);
  left : l.session.statements_left ≤ l.initial.session.statements_left;
  leads : (levels : ℕ) → l.initial.session.statements_left ≤ levels → Leads (g.P.Port.past l.initial.port) (g.P.Port.past l.port) (each_of (λ inner at. mean_of levels inner at) l.initial.statements l.around) l.initial.session (each_of (λ inner at. mean_of levels inner at) (drop l.statement-index l.statements) l.around) l.session;
}

abbrev pub invariant-run_while-loop-exit : goal.invariant-run_while-loop-exit
invariant-run_while-loop-exit g l = record {
  ready : Ready l.session (g.P.Port.past l.port);
  left : l.session.statements_left ≤ l.initial.session.statements_left;
  leads : (levels : ℕ) → l.initial.session.statements_left ≤ levels → (now : ℕ) × (l.session.statements_left ≤ now)
      × Leads (g.P.Port.past l.initial.port) (g.P.Port.past l.port) (turning levels l.fn.statement l.fn.body l.around) l.initial.session (turning now l.fn.statement l.fn.body l.around) l.session;
}

-- those that have run lead to those that are left
abbrev pub invariant-run_triggers-loop-trigger : goal.invariant-run_triggers-loop-trigger
invariant-run_triggers-loop-trigger g l = record {
  ready : Ready l.session (g.P.Port.past l.port);
  left : l.session.statements_left ≤ l.initial.session.statements_left;
  leads : (levels : ℕ) → l.initial.session.statements_left ≤ levels → Leads (g.P.Port.past l.initial.port) (g.P.Port.past l.port) (runs_triggers (λ inner at. mean_of levels inner at) l.around l.written l.initial.triggers) l.initial.session (runs_triggers (λ inner at. mean_of levels inner at) l.around l.written (drop l.trigger-index l.triggers)) l.session;
}

abbrev pub decreases-run_while-loop-exit : goal.decreases-run_while-loop-exit
decreases-run_while-loop-exit g l = l.session.statements_left

abbrev pub decreases-run_statement : goal.decreases-run_statement
decreases-run_statement g l = 9 * l.session.now.statements_left

abbrev pub decreases-run_statements : goal.decreases-run_statements
decreases-run_statements g l = 9 * l.session.now.statements_left + 1

abbrev pub decreases-run_body : goal.decreases-run_body
decreases-run_body g l = 9 * l.session.now.statements_left + 2

abbrev pub decreases-run_trigger : goal.decreases-run_trigger
decreases-run_trigger g l = 9 * l.session.now.statements_left + 3

abbrev pub decreases-run_triggers : goal.decreases-run_triggers
decreases-run_triggers g l = 9 * l.session.now.statements_left + 4

abbrev pub decreases-run_all : goal.decreases-run_all
decreases-run_all g l = 9 * l.session.now.statements_left + 5

abbrev pub decreases-run_fired : goal.decreases-run_fired
decreases-run_fired g l = 9 * l.session.now.statements_left + 6

abbrev pub decreases-run_found : goal.decreases-run_found
decreases-run_found g l = 9 * l.session.now.statements_left + 6

abbrev pub decreases-run_write : goal.decreases-run_write
decreases-run_write g l = 9 * l.session.now.statements_left + 7

abbrev pub decreases-run_call : goal.decreases-run_call
decreases-run_call g l = 9 * l.session.now.statements_left + 7

abbrev pub decreases-run_if : goal.decreases-run_if
decreases-run_if g l = 9 * l.session.now.statements_left + 2

abbrev pub decreases-turn : goal.decreases-turn
decreases-turn g l = 9 * l.session.now.statements_left + 1

abbrev pub decreases-run_while : goal.decreases-run_while
decreases-run_while g l = 9 * l.session.now.statements_left + 2

abbrev pub decreases-run_try : goal.decreases-run_try
decreases-run_try g l = 9 * l.session.now.statements_left + 2

abbrev pub decreases-run_form : goal.decreases-run_form
decreases-run_form g l = 9 * l.session.now.statements_left + 8
