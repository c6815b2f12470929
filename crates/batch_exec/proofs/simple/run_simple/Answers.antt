use Rattle.std.proofs.Common.{refl, ◌∙◌}
use Rattle.batch_meaning.specs.Meaning.{mean_form}
use Rattle.batch_meaning.proofs.Composed.{does_makes, does_over}
use Rattle.batch_exec.proofs.Worked.{does_effects, does_form}
use Rattle.statement_exec.proofs.Forms.{is_Break, is_Continue, is_Print, is_RaiseError, is_Return, is_SetOption, is_Throw, is_ThrowAgain}
use Rattle.batch_exec.proofs.Runs.{does_work}
use Rattle.batch_exec.proofs.simple.run_simple.Goals as goal

pub returns-in-Break-clause-does : goal.returns-in-Break-clause-does
unfolding mean_form
returns-in-Break-clause-does g c = λ one. does_form one _ _ _ (is_Break _ c.in-Break.is) (does_makes c.tell_error.ensures (does_over refl))

pub returns-in-Continue-clause-does : goal.returns-in-Continue-clause-does
unfolding mean_form
returns-in-Continue-clause-does g c = λ one. does_form one _ _ _ (is_Continue _ c.in-Continue.is) (does_makes c.tell_error-in-Continue.ensures (does_over refl))

pub returns-in-Print-clause-does : goal.returns-in-Print-clause-does
unfolding mean_form
returns-in-Print-clause-does g c = λ one. does_form one _ _ _ (is_Print _ _ c.in-Print.is) (c.tell.ensures.does)

pub returns-in-RaiseError-clause-does : goal.returns-in-RaiseError-clause-does
unfolding mean_form
returns-in-RaiseError-clause-does g c = λ one. does_form one _ _ _ (is_RaiseError _ _ _ _ c.in-RaiseError.is) (c.tell-in-RaiseError.ensures.does)

pub returns-in-Throw-clause-does : goal.returns-in-Throw-clause-does
unfolding mean_form
returns-in-Throw-clause-does g c = λ one. does_form one _ _ _ (is_Throw _ _ _ _ c.in-Throw.is) (c.tell-in-Throw.ensures.does)

pub returns-in-ThrowAgain-clause-does : goal.returns-in-ThrowAgain-clause-does
unfolding mean_form
returns-in-ThrowAgain-clause-does g c = λ one. does_form one _ _ _ (is_ThrowAgain _ c.in-ThrowAgain.is) (c.throw_again.ensures.does)

pub returns-in-SetOption-clause-does : goal.returns-in-SetOption-clause-does
unfolding mean_form
returns-in-SetOption-clause-does g c = λ one. does_form one _ _ _ (is_SetOption _ _ c.in-SetOption.is) (c.set.ensures.does)

pub returns-in-Return-clause-does : goal.returns-in-Return-clause-does
unfolding mean_form
returns-in-Return-clause-does g c = λ one. does_form one _ _ _ (is_Return _ _ c.in-Return.is) (c.give.ensures.does)

pub returns-in_default-clause-does : goal.returns-in_default-clause-does
returns-in_default-clause-does g c = λ one. does_effects one _ _ c.args.statement.now.form refl c.requires.simple (c.in_default.not-Break, c.in_default.not-Continue, c.in_default.not-Print, c.in_default.not-RaiseError, c.in_default.not-Throw, c.in_default.not-ThrowAgain, c.in_default.not-SetOption, c.in_default.not-Return) (does_work _ _ _ _ c.work_by_form-came.ensures.does c.conclude.ensures.does)

pub returns-in_default-clause-left : goal.returns-in_default-clause-left
returns-in_default-clause-left g c = c.conclude.ensures.left ∙ c.work_by_form-came.ensures.left
