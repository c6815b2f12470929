use Rattle.std.proofs.Common.{◌≡◌, true, false, Err, refl, sym, ap, ◌∙◌, arith, rules}
use Rattle.batch_meaning.specs.Doing.{never}
use Rattle.batch_meaning.specs.Firing.{in_trigger}
use Rattle.batch_meaning.specs.Working.{relaxes}
use Rattle.batch_meaning.specs.Meaning.{calls, fires, mean_by, mean_form, mean_of, runs_body, runs_call, runs_fired, runs_trigger, tries}
use Rattle.batch_meaning.specs.Progress.{SessionProgress}
use Rattle.batch_meaning.specs.Writes.{Written}
use Rattle.std.proofs.lemmas.List.{drop_all}
use Rattle.batch_meaning.proofs.Composed.{does_leave, does_makes, does_no, does_out, does_over, does_reads, does_room, does_then, does_yes, leads_here, leads_then, leads_to}
use Rattle.batch_exec.proofs.Bodies.{fires_left, next_trigger, told_none, trigger_on, trigger_stopped, triggers_done}
use Rattle.batch_exec.proofs.Fired.{ready_fires, relaxes_left, undone_left}
use Rattle.batch_exec.proofs.Begun.{did_out}
use Rattle.batch_exec.proofs.Worked.{does_form}
use Rattle.statement_exec.proofs.Forms.{is_Block, is_Delete, is_Execute, is_If, is_Insert, is_TryCatch, is_Update, is_While}
use Rattle.batch_exec.proofs.Runs.{begun_level, body_left, does_concluded, does_decided, does_undecided, each_done, formed_by, goes_out, leads_decided, leads_more, leads_turned, left_so, loops_behind, loops_left, next_one, not_raised, refused_by, none_left, spent_level}
use Rattle.session_state.proofs.Assigning.{none_fit}
use Rattle.session_state.proofs.Stepping.{does_stepped, next_of}
use Rattle.batch_exec.proofs.running.+running.Goals as goal

-- ---- run_statement

pub run_statement-returns-then-is_spent-clause-does : goal.run_statement-returns-then-is_spent-clause-does
run_statement-returns-then-is_spent-clause-does g t c = λ levels below. spent_level levels _ _ c.if-is_spent.ensures c.spend.ensures.does

pub run_statement-returns-in_err-exit-clause-does : goal.run_statement-returns-in_err-exit-clause-does
run_statement-returns-in_err-exit-clause-does g t c = λ levels below. begun_level levels _ _ below c.if-is_spent.ensures c.begin_statement.ensures (λ fewer under.
    did_out _ c.from_residual.ensures.0 (c.in_err-exit.ensures.does (mean_by (λ inner at. mean_of fewer inner at) c.args.statement.now c.args.around.now)))

pub run_statement-returns-in-Some-clause-does : goal.run_statement-returns-in-Some-clause-does
run_statement-returns-in-Some-clause-does g t c = λ levels below. begun_level levels _ _ below c.if-is_spent.ensures c.begin_statement.ensures (λ fewer under.
    rw c.in-Some.is at c.in_ok-exit.ensures.does (mean_by (λ inner at. mean_of fewer inner at) c.args.statement.now c.args.around.now))

pub run_statement-returns-then-is_refused-clause-does : goal.run_statement-returns-then-is_refused-clause-does
run_statement-returns-then-is_refused-clause-does g t c = λ levels below. begun_level levels _ _ below c.if-is_spent.ensures c.begin_statement.ensures (λ fewer under.
    leads_to (rw c.in-None.is at c.in_ok-exit.ensures.does (mean_by (λ inner at. mean_of fewer inner at) c.args.statement.now c.args.around.now))
    (refused_by _ _ _ c.if-is_refused.ensures (rw c.plain-failure.ensures at c.fail.ensures.does)))

pub run_statement-returns-clause-does : goal.run_statement-returns-clause-does
run_statement-returns-clause-does g t c = λ levels below. begun_level levels _ _ below c.if-is_spent.ensures c.begin_statement.ensures (λ fewer under.
    leads_to (rw c.in-None.is at c.in_ok-exit.ensures.does (mean_by (λ inner at. mean_of fewer inner at) c.args.statement.now c.args.around.now))
    (formed_by _ _ _ c.if-is_refused.ensures (c.run_form.ensures.does fewer (omega (arith, c.in_ok-exit.ensures.left, under)))))

-- ---- run_statements

pub run_statements-returns-in_err-exit-clause-does : goal.run_statements-returns-in_err-exit-clause-does
run_statements-returns-in_err-exit-clause-does g t c = λ levels below. leads_to (next_one _ _ _ _ _ (next_of _ _ _ c.statement-item.is c.loop-statement-test.true) (c.loop-statement.invariant.leads levels below))
    (does_leave _ _ _ c.from_residual.ensures.0 (c.in_err-exit.ensures.does levels (omega (arith, c.loop-statement.invariant.left, below))))

pub run_statements-returns-in_default : goal.run_statements-returns-in_default
run_statements-returns-in_default g t c = record {
  does = λ levels below. leads_to (next_one _ _ _ _ _ (next_of _ _ _ c.statement-item.is c.loop-statement-test.true) (c.loop-statement.invariant.leads levels below))
      (does_then _ _ (c.in_ok-exit.ensures.does levels (omega (arith, c.loop-statement.invariant.left, below))) (goes_out _ _ c.in_default.not-On));
  ready = c.in_ok-exit.ensures.ready;
  left = omega (arith, c.in_ok-exit.ensures.left, c.loop-statement.invariant.left);
}

pub run_statements-loop-statement-preserved : goal.run_statements-loop-statement-preserved
run_statements-loop-statement-preserved g t c = record {
  ready = c.in_ok-exit.ensures.ready;
  left = omega (arith, c.in_ok-exit.ensures.left, c.loop-statement.invariant.left);
  leads = λ levels below. leads_then _ _ (next_one _ _ _ _ _ (next_of _ _ _ c.statement-item.is c.loop-statement-test.true) (c.loop-statement.invariant.leads levels below))
      (rw c.in-On.is at c.in_ok-exit.ensures.does levels (omega (arith, c.loop-statement.invariant.left, below)));
}

pub run_statements-loop-statement-init : goal.run_statements-loop-statement-init
run_statements-loop-statement-init g t c = record { ready = c.requires.ready; left = omega arith; leads = λ levels below. leads_here }

pub run_statements-returns-clause-does : goal.run_statements-returns-clause-does
run_statements-returns-clause-does g t c = λ levels below. leads_to (c.loop-statement.invariant.leads levels below) (each_done _ _ _ (none_left _ _ c.loop-statement-test.false))

-- ---- run_form

pub run_form-returns-in-If-clause-does : goal.run_form-returns-in-If-clause-does
unfolding mean_form
run_form-returns-in-If-clause-does g t c = λ levels below. does_form (λ inner at. mean_of levels inner at) _ _ _ (is_If _ _ _ _ c.in-If.is) (rw (c.get.ensures, c.held-otherwise.ensures) at c.run_if.ensures.does levels below)

pub run_form-returns-in-While-clause-does : goal.run_form-returns-in-While-clause-does
unfolding mean_form
run_form-returns-in-While-clause-does g t c = λ levels below. does_form (λ inner at. mean_of levels inner at) _ _ _ (is_While _ _ _ c.in-While.is) (rw c.get-in-While.ensures at c.run_while.ensures.does levels below)

pub run_form-returns-in-Block-clause-does : goal.run_form-returns-in-Block-clause-does
unfolding mean_form
run_form-returns-in-Block-clause-does g t c = λ levels below. does_form (λ inner at. mean_of levels inner at) _ _ _ (is_Block _ _ c.in-Block.is) (rw c.as_slice.ensures at c.run_statements.ensures.does levels below)

pub run_form-returns-in-TryCatch-clause-does : goal.run_form-returns-in-TryCatch-clause-does
unfolding mean_form
run_form-returns-in-TryCatch-clause-does g t c = λ levels below. does_form (λ inner at. mean_of levels inner at) _ _ _ (is_TryCatch _ _ _ c.in-TryCatch.is) (rw (c.as_slice-in-TryCatch.ensures, c.as_slice-in-TryCatch-2.ensures) at c.run_try.ensures.does levels below)

pub run_form-returns-in-Insert-clause-does : goal.run_form-returns-in-Insert-clause-does
unfolding mean_form
run_form-returns-in-Insert-clause-does g t c = λ levels below. does_form (λ inner at. mean_of levels inner at) _ _ _ (is_Insert _ _ _ _ c.in-Insert.is) (c.run_write.ensures.does levels below)

pub run_form-returns-in-Update-clause-does : goal.run_form-returns-in-Update-clause-does
unfolding mean_form
run_form-returns-in-Update-clause-does g t c = λ levels below. does_form (λ inner at. mean_of levels inner at) _ _ _ (is_Update _ _ _ _ c.in-Update.is) (c.run_write-in-Update.ensures.does levels below)

pub run_form-returns-in-Delete-clause-does : goal.run_form-returns-in-Delete-clause-does
unfolding mean_form
run_form-returns-in-Delete-clause-does g t c = λ levels below. does_form (λ inner at. mean_of levels inner at) _ _ _ (is_Delete _ _ _ c.in-Delete.is) (c.run_write-in-Delete.ensures.does levels below)

pub run_form-returns-in-Execute-clause-does : goal.run_form-returns-in-Execute-clause-does
unfolding mean_form
run_form-returns-in-Execute-clause-does g t c = λ levels below. does_form (λ inner at. mean_of levels inner at) _ _ _ (is_Execute _ _ _ _ c.in-Execute.is) (rw (c.as_ref.ensures.value, c.as_slice-in-Execute.ensures) at c.run_call.ensures.does levels below)

pub run_form-returns-in_default-clause-does : goal.run_form-returns-in_default-clause-does
run_form-returns-in_default-clause-does g t c = λ levels below. c.run_simple.ensures.does _

-- ---- run_if

pub run_if-returns-in-Ok-true-clause-does : goal.run_if-returns-in-Ok-true-clause-does
run_if-returns-in-Ok-true-clause-does g t c = λ levels below.
    let same : c.tell_error.new.self.statements_left ≡ c.test.new.session.statements_left = ap (λ (x : SessionProgress). x.statements_left) c.tell_error.ensures in
    does_decided _ _ _ true (rw c.in-Ok-true.field-0-test at c.in-Ok-true.ensures.does) c.tell_error.ensures (c.run_statement.ensures.does levels (omega (arith, same, c.test.ensures.left, below)))

pub run_if-returns-in-Some-clause-does : goal.run_if-returns-in-Some-clause-does
run_if-returns-in-Some-clause-does g t c = λ levels below.
    let same : c.tell_error-in-Ok-false.new.self.statements_left ≡ c.test.new.session.statements_left = ap (λ (x : SessionProgress). x.statements_left) c.tell_error-in-Ok-false.ensures in
    rw c.in-Some.is (does_decided _ _ _ false (rw c.in-Ok-false.field-0-test at c.in-Ok-false.ensures.does) c.tell_error-in-Ok-false.ensures (c.run_statement-in-Some.ensures.does levels (omega (arith, same, c.test.ensures.left, below))))

pub run_if-returns-in-None-clause-does : goal.run_if-returns-in-None-clause-does
run_if-returns-in-None-clause-does g t c = λ levels below.
    rw c.in-None.is (does_decided _ _ _ false (rw c.in-Ok-false.field-0-test at c.in-Ok-false.ensures.does) c.tell_error-in-Ok-false.ensures (does_over refl))

pub run_if-returns-in-Err-clause-does : goal.run_if-returns-in-Err-clause-does
run_if-returns-in-Err-clause-does g t c = λ levels below. does_undecided _ _ _ _ c.in-Err.ensures.does c.fail.ensures.does

-- ---- turn

pub turn-returns-in_err-exit-in-Ok-true-clause-does : goal.turn-returns-in_err-exit-in-Ok-true-clause-does
turn-returns-in_err-exit-in-Ok-true-clause-does g t c = λ levels below.
    let same : c.tell_error.new.self.statements_left ≡ c.test.new.session.statements_left = ap (λ (x : SessionProgress). x.statements_left) c.tell_error.ensures in
    loops_left _ _ _ _ c.from_residual.ensures.0 (does_decided _ _ _ true (rw c.in-Ok-true.field-0-test at c.in-Ok-true.ensures.does) c.tell_error.ensures
    (does_leave _ _ (Err c.in_err-exit-in-Ok-true.field-0.0) refl (c.in_err-exit-in-Ok-true.ensures.does levels (omega (arith, same, c.test.ensures.left, below)))))

pub turn-returns-in_ok-exit-in-Ok-true-clause-does : goal.turn-returns-in_ok-exit-in-Ok-true-clause-does
turn-returns-in_ok-exit-in-Ok-true-clause-does g t c = λ levels below.
    let same : c.tell_error.new.self.statements_left ≡ c.test.new.session.statements_left = ap (λ (x : SessionProgress). x.statements_left) c.tell_error.ensures in
    loops_behind (g.P.Port.past c.begin_again.new.port) c.args.statement.now c.args.body.now c.args.around.now c.begin_again.new.session c.begin_again.result
    (leads_turned levels _ _ _ (leads_decided _ _ _ true (rw c.in-Ok-true.field-0-test at c.in-Ok-true.ensures.does) c.tell_error.ensures) (c.in_ok-exit-in-Ok-true.ensures.does levels (omega (arith, same, c.test.ensures.left, below))))
    (c.begin_again.ensures.does levels (omega (arith, same, c.test.ensures.left, c.in_ok-exit-in-Ok-true.ensures.left, below)))

pub turn-returns-in-Ok-false-clause-does : goal.turn-returns-in-Ok-false-clause-does
turn-returns-in-Ok-false-clause-does g t c = λ levels below. does_decided _ _ _ false (rw c.in-Ok-false.field-0-test at c.in-Ok-false.ensures.does) c.tell_error-in-Ok-false.ensures (does_over refl)

pub turn-returns-in_err-exit-in-Err-clause-does : goal.turn-returns-in_err-exit-in-Err-clause-does
turn-returns-in_err-exit-in-Err-clause-does g t c = λ levels below. loops_left _ _ _ _ c.from_residual-in_err-exit-in-Err.ensures.0 (does_undecided _ _ _ _ c.in-Err.ensures.does c.in_err-exit-in-Err.ensures.does)

pub turn-returns-in_ok-exit-in-Err-clause-does : goal.turn-returns-in_ok-exit-in-Err-clause-does
turn-returns-in_ok-exit-in-Err-clause-does g t c = λ levels below. does_undecided _ _ _ _ c.in-Err.ensures.does c.in_ok-exit-in-Err.ensures.does

-- ---- run_while

pub run_while-loop-exit-init : goal.run_while-loop-exit-init
run_while-loop-exit-init g t c = record { ready = c.requires.ready; left = omega arith; leads = λ levels below. (levels, below, leads_here) }

pub run_while-returns-in_err-exit-clause-does : goal.run_while-returns-in_err-exit-clause-does
run_while-returns-in_err-exit-clause-does g t c = λ levels below.
    let leads = c.loop-exit.invariant.leads levels below in
    left_so _ c.from_residual.ensures.0 (leads_to leads.2 (c.in_err-exit.ensures.does leads.0 leads.1))

pub run_while-returns-in-Some-clause-does : goal.run_while-returns-in-Some-clause-does
run_while-returns-in-Some-clause-does g t c = λ levels below.
    let leads = c.loop-exit.invariant.leads levels below in
    leads_to leads.2 (rw c.in-Some.is at c.in_ok-exit.ensures.does leads.0 leads.1)

pub run_while-loop-exit-preserved : goal.run_while-loop-exit-preserved
run_while-loop-exit-preserved g t c = record {
  ready = c.in_ok-exit.ensures.ready;
  left = omega (arith, c.in_ok-exit.ensures.left, c.loop-exit.invariant.left);
  leads = λ levels below.
      let leads = c.loop-exit.invariant.leads levels below in
      let went = (rw c.in-None.is at c.in_ok-exit.ensures.does leads.0 leads.1) in
      (went.0, went.1, leads_more leads.2 went.2);
}

-- ---- run_try

pub run_try-returns-in_err-exit-clause-does : goal.run_try-returns-in_err-exit-clause-does
unfolding tries
run_try-returns-in_err-exit-clause-does g t c = λ levels below. does_leave _ _ _ c.from_residual.ensures.0 (rw c.in_try.ensures at c.in_err-exit.ensures.does levels below)

pub run_try-returns-in-Raise-clause-does : goal.run_try-returns-in-Raise-clause-does
unfolding tries
run_try-returns-in-Raise-clause-does g t c = λ levels below. does_then _ _ (rw (c.in_try.ensures, c.in-Raise.is) at c.in_ok-exit.ensures.does levels below)
    (rw (c.in_catch.ensures, c.get.ensures) at c.run_statements-in-Raise.ensures.does levels (omega (arith, c.in_ok-exit.ensures.left, below)))

pub run_try-returns-in_default : goal.run_try-returns-in_default
unfolding tries
run_try-returns-in_default g t c = record {
  does = λ levels below. does_then _ _ (rw c.in_try.ensures at c.in_ok-exit.ensures.does levels below) (not_raised _ _ c.in_default.not-Raise);
  ready = c.in_ok-exit.ensures.ready;
  left = c.in_ok-exit.ensures.left;
}

-- ---- run_body

pub run_body-returns-in_err-exit-clause-does : goal.run_body-returns-in_err-exit-clause-does
unfolding runs_body
run_body-returns-in_err-exit-clause-does g t c = λ levels change below same.
    let left : c.set.new.self.statements_left ≡ c.args.session.now.statements_left = body_left c.args.vars c.args.settings c.args.session.now _ _ c.stand_with-outer.ensures.made c.set.ensures in
    does_reads (does_makes c.stand_with-outer.ensures.made (does_makes (rw same at c.set.ensures) (does_leave _ _ _ c.from_residual.ensures.0 (c.in_err-exit.ensures.does levels (omega (arith, left, below))))))

pub run_body-returns-clause-does : goal.run_body-returns-clause-does
unfolding runs_body
run_body-returns-clause-does g t c = λ levels change below same.
    let left : c.set.new.self.statements_left ≡ c.args.session.now.statements_left = body_left c.args.vars c.args.settings c.args.session.now _ _ c.stand_with-outer.ensures.made c.set.ensures in
    does_reads (does_makes c.stand_with-outer.ensures.made (does_makes (rw same at c.set.ensures) (does_then _ _ (c.in_ok-exit.ensures.does levels (omega (arith, left, below)))
    (does_reads (does_makes (rw c.stand_with-outer.ensures.before at c.stand_with-inner.ensures.made) (does_makes (rw (c.settings-before.ensures ∙ ap (λ (x : SessionProgress). x.settings) c.stand_with-outer.ensures.made) at c.set-2.ensures) (rw c.stand_with-inner.ensures.before (does_over refl))))))))

-- ---- run_call

pub run_call-returns-in-Ok-clause-does : goal.run_call-returns-in-Ok-clause-does
unfolding calls
run_call-returns-in-Ok-clause-does g t c = λ levels below. does_concluded _ _ _ _ c.in-Ok.ensures.does (c.run_found.ensures.does levels (omega (arith, c.in-Ok.ensures.left, below)))

pub run_call-returns-in-Err-clause-does : goal.run_call-returns-in-Err-clause-does
unfolding calls
run_call-returns-in-Err-clause-does g t c = λ levels below. does_concluded _ _ _ _ c.in-Err.ensures.does c.fail.ensures.does

-- ---- run_write

pub run_write-returns-in-Ok-Done-clause-does : goal.run_write-returns-in-Ok-Done-clause-does
run_write-returns-in-Ok-Done-clause-does g t c = λ levels below. does_then _ _ (rw c.in-Ok-Done.field-0-is at c.in-Ok-Done.ensures.does (λ inner at. mean_of levels inner at)) (does_stepped c.succeed.ensures.came)

pub run_write-returns-in_err-came-in-Ok-Fires-clause-does : goal.run_write-returns-in_err-came-in-Ok-Fires-clause-does
run_write-returns-in_err-came-in-Ok-Fires-clause-does g t c = λ levels below.
    does_leave _ _ _ c.from_residual.ensures.0 (leads_to (rw c.in-Ok-Fires.field-0-is at c.in-Ok-Fires.ensures.does (λ inner at. mean_of levels inner at)) (c.in_err-came-in-Ok-Fires.ensures.does levels (omega (arith, c.in-Ok-Fires.ensures.left, below))))

pub run_write-returns-in_ok-came-in-Ok-Fires-clause-does : goal.run_write-returns-in_ok-came-in-Ok-Fires-clause-does
run_write-returns-in_ok-came-in-Ok-Fires-clause-does g t c = λ levels below.
    does_then _ _ (leads_to (rw c.in-Ok-Fires.field-0-is at c.in-Ok-Fires.ensures.does (λ inner at. mean_of levels inner at)) (c.in_ok-came-in-Ok-Fires.ensures.does levels (omega (arith, c.in-Ok-Fires.ensures.left, below)))) c.end_write.ensures.does

pub run_write-returns-in-Err-clause-does : goal.run_write-returns-in-Err-clause-does
run_write-returns-in-Err-clause-does g t c = λ levels below. does_then _ _ (c.in-Err.ensures.does (λ inner at. mean_of levels inner at)) c.fail.ensures.does

-- ---- run_triggers

pub run_triggers-loop-trigger-init : goal.run_triggers-loop-trigger-init
run_triggers-loop-trigger-init g t c = record { ready = c.requires.ready; left = omega arith; leads = λ levels below. leads_here }

pub run_triggers-returns-in_err-exit-clause-does : goal.run_triggers-returns-in_err-exit-clause-does
run_triggers-returns-in_err-exit-clause-does g t c = λ levels below. leads_to (next_trigger _ _ _ _ _ _ (next_of _ _ _ c.trigger-item.is c.loop-trigger-test.true) (c.loop-trigger.invariant.leads levels below))
    (does_leave _ _ _ c.from_residual.ensures.0 (rw (ap (λ (w : Written). w.fired) c.written.view_is) at c.in_err-exit.ensures.does levels (omega (arith, c.loop-trigger.invariant.left, below))))

pub run_triggers-returns-in-Err-clause-does : goal.run_triggers-returns-in-Err-clause-does
run_triggers-returns-in-Err-clause-does g t c = λ levels below. leads_to (next_trigger _ _ _ _ _ _ (next_of _ _ _ c.trigger-item.is c.loop-trigger-test.true) (c.loop-trigger.invariant.leads levels below))
    (does_then _ _ (rw (ap (λ (w : Written). w.fired) c.written.view_is) at c.in_ok-exit.ensures.does levels (omega (arith, c.loop-trigger.invariant.left, below))) (trigger_stopped _ _ _ _ _ _ c.in-Err.ensures))

pub run_triggers-loop-trigger-preserved : goal.run_triggers-loop-trigger-preserved
run_triggers-loop-trigger-preserved g t c = record {
  ready = c.in_ok-exit.ensures.ready;
  left = omega (arith, c.in_ok-exit.ensures.left, c.loop-trigger.invariant.left);
  leads = λ levels below. trigger_on _ _ _ _ _ c.in-Ok.ensures (leads_then _ _ (next_trigger _ _ _ _ _ _ (next_of _ _ _ c.trigger-item.is c.loop-trigger-test.true) (c.loop-trigger.invariant.leads levels below))
      (rw (ap (λ (w : Written). w.fired) c.written.view_is) at c.in_ok-exit.ensures.does levels (omega (arith, c.loop-trigger.invariant.left, below))));
}

pub run_triggers-returns-clause-does : goal.run_triggers-returns-clause-does
run_triggers-returns-clause-does g t c = λ levels below. leads_to (c.loop-trigger.invariant.leads levels below) (triggers_done (λ inner at. mean_of levels inner at) _ _ _ (drop_all c.loop-trigger.trigger-index c.args.triggers.now c.loop-trigger-test.false) (rw (ap (λ (w : Written). w.effect) c.written.view_is) at c.tells_behind.ensures (λ inner at. mean_of levels inner at)))

-- ---- run_trigger

pub run_trigger-returns-in_err-vars-clause-does : goal.run_trigger-returns-in_err-vars-clause-does
run_trigger-returns-in_err-vars-clause-does g t c = λ levels below. does_out _ c.from_residual.ensures.0 refl

pub run_trigger-returns-in_err-exit-clause-does : goal.run_trigger-returns-in_err-exit-clause-does
unfolding runs_trigger
run_trigger-returns-in_err-exit-clause-does g t c = λ levels below. does_leave _ _ _ c.from_residual-in_err-exit.ensures.0
    (rw (c.in_ok-vars.ensures, c.as_slice-body.ensures, c.in_body-inside.ensures) at c.in_err-exit.ensures.does levels in_trigger below (c.in_trigger-settings.ensures ∙ ap in_trigger c.settings.ensures))

pub run_trigger-returns-clause-does : goal.run_trigger-returns-clause-does
unfolding runs_trigger
run_trigger-returns-clause-does g t c = λ levels below. does_then _ _
    (rw (c.in_ok-vars.ensures, c.as_slice-body.ensures, c.in_body-inside.ensures) at c.in_ok-exit.ensures.does levels in_trigger below (c.in_trigger-settings.ensures ∙ ap in_trigger c.settings.ensures)) (does_over refl)

-- ---- run_all

pub run_all-returns-then-is_deepest-clause-does : goal.run_all-returns-then-is_deepest-clause-does
unfolding runs_fired
run_all-returns-then-is_deepest-clause-does g t c = λ levels below. does_yes _ _ _ (sym c.if-is_deepest.ensures) (rw c.plain.ensures (does_over refl))

pub run_all-returns-clause-does : goal.run_all-returns-clause-does
unfolding runs_fired
run_all-returns-clause-does g t c = λ levels below. does_no _ _ _ (sym c.if-is_deepest.ensures) (rw (c.as_slice-triggers.ensures, ap (λ (w : Written). w.fires) c.written.view_is) at c.run_triggers.ensures.does levels below)

-- ---- run_fired

pub run_fired-returns-in_err-came-in-Ok-clause-does : goal.run_fired-returns-in_err-came-in-Ok-clause-does
unfolding fires
run_fired-returns-in_err-came-in-Ok-clause-does g t c = λ levels below.
    let mark = ap (λ (w : Written). w.mark) c.written.view_is in
    let left = fires_left c.written.inside.mark c.relax.ensures.does c.in-Ok.ensures.fired in
    does_then relaxes _ c.relax.ensures.does (does_room true (does_reads (does_makes (rw mark at c.in-Ok.ensures.fired) (does_leave _ _ _ c.from_residual.ensures.0 (c.in_err-came-in-Ok.ensures.does levels (omega (arith, left, below)))))))

pub run_fired-returns-in_ok-came-in-Ok-clause-does : goal.run_fired-returns-in_ok-came-in-Ok-clause-does
unfolding fires
run_fired-returns-in_ok-came-in-Ok-clause-does g t c = λ levels below.
    let mark = ap (λ (w : Written). w.mark) c.written.view_is in
    let left = fires_left c.written.inside.mark c.relax.ensures.does c.in-Ok.ensures.fired in
    does_then relaxes _ c.relax.ensures.does (does_room true (does_reads (does_makes (rw mark at c.in-Ok.ensures.fired) (does_then _ _ (c.in_ok-came-in-Ok.ensures.does levels (omega (arith, left, below)))
    (does_then _ _ (rw (c.is_ok.ensures.value, c.stands-stood.ensures.stands, mark) at c.leave_fired.ensures.does) (rw (c.effect_of.ensures (λ inner at. mean_of levels inner at)) (does_over refl)))))))

pub run_fired-returns-in-Err-clause-does : goal.run_fired-returns-in-Err-clause-does
unfolding fires
run_fired-returns-in-Err-clause-does g t c = λ levels below.
    let mark = ap (λ (w : Written). w.mark) c.written.view_is in
    does_then relaxes _ c.relax.ensures.does (does_room false (does_then _ _ (rw (c.in-Err.ensures.kept, mark) at c.undo.ensures.does) (rw c.plain.ensures (does_over refl))))

-- ---- run_found

pub run_found-returns-in_err-vars-clause-does : goal.run_found-returns-in_err-vars-clause-does
run_found-returns-in_err-vars-clause-does g t c = λ levels below. does_out _ c.from_residual.ensures.0 refl

pub run_found-returns-in_err-exit-clause-does : goal.run_found-returns-in_err-exit-clause-does
unfolding runs_call
run_found-returns-in_err-exit-clause-does g t c = λ levels below. rw (← c.call.view_is) (does_reads (does_leave _ _ _ c.from_residual-in_err-exit.ensures.0
    (rw (c.in_ok-vars.ensures, c.as_slice-body.ensures, c.in_body-inside.ensures) at c.in_err-exit.ensures.does levels (λ settings. settings) below c.settings-settings.ensures)))

pub run_found-returns-clause-does : goal.run_found-returns-clause-does
unfolding runs_call
run_found-returns-clause-does g t c = λ levels below. rw (← c.call.view_is) (does_reads (does_then _ _
    (rw (c.in_ok-vars.ensures, c.as_slice-body.ensures, c.in_body-inside.ensures) at c.in_ok-exit.ensures.does levels (λ settings. settings) below c.settings-settings.ensures)
    (rw c.count-count.ensures.count at c.return_from.ensures.does _)))

pub run_found-call_vars-requires : goal.run_found-call_vars-requires
run_found-call_vars-requires g t c = record { typed = rw (← c.call.view_is) at c.requires.typed }

-- ---- what is ready and fewer behind the beginning of triggers

pub run_fired-begin_firing-requires : goal.run_fired-begin_firing-requires
run_fired-begin_firing-requires g t c = record { begun = c.relax.ensures.begun }

pub run_fired-returns-in_err-came-in-Ok-clause-left : goal.run_fired-returns-in_err-came-in-Ok-clause-left
run_fired-returns-in_err-came-in-Ok-clause-left g t c = omega (arith, c.in_err-came-in-Ok.ensures.left, fires_left c.written.inside.mark c.relax.ensures.does c.in-Ok.ensures.fired)

pub run_fired-returns-in_ok-came-in-Ok-clause-left : goal.run_fired-returns-in_ok-came-in-Ok-clause-left
run_fired-returns-in_ok-came-in-Ok-clause-left g t c = omega (arith, c.leave_fired.ensures.left, c.in_ok-came-in-Ok.ensures.left, fires_left c.written.inside.mark c.relax.ensures.does c.in-Ok.ensures.fired)

pub run_fired-returns-in-Err-clause-left : goal.run_fired-returns-in-Err-clause-left
run_fired-returns-in-Err-clause-left g t c =
    let kept : c.begin_firing.new.self.statements_left ≡ c.relax.new.session.statements_left = ap (λ (x : SessionProgress). x.statements_left) c.in-Err.ensures.kept in
    omega (arith, undone_left c.written.inside.mark c.args.home c.undo.ensures.does, kept, relaxes_left c.relax.ensures.does)

pub run_fired-returns-in_ok-came-in-Ok-clause-none : goal.run_fired-returns-in_ok-came-in-Ok-clause-none
run_fired-returns-in_ok-came-in-Ok-clause-none g t c = told_none (λ s around. never) c.args.written.effect _ _ (c.effect_of.ensures (λ s around. never)) c.requires.none

pub run_write-succeed-requires : goal.run_write-succeed-requires
run_write-succeed-requires g t c = record { fits = rw (rw c.in-Ok-Done.field-0-is at c.in-Ok-Done.ensures.none) (none_fit _) }

pub run_fired-run_all-requires : goal.run_fired-run_all-requires
run_fired-run_all-requires g t c =
    let mark = ap (λ (w : Written). w.mark) c.written.view_is in
    let left = fires_left c.written.inside.mark c.relax.ensures.does c.in-Ok.ensures.fired in
    let ready = ready_fires c.written.inside.mark _ _ c.relax.ensures.ready c.relax.ensures.begun (rw (mark, c.relax.ensures.standing) c.requires.live) c.in-Ok.ensures.fired in
    λ κs out. (search (rules, left), (search rules, ready))

pub run_fired-undo-requires-clause-live : goal.run_fired-undo-requires-clause-live
run_fired-undo-requires-clause-live g t c =
    let mark = ap (λ (w : Written). w.mark) c.written.view_is in
    rw (mark, c.relax.ensures.standing) c.requires.live
