use Rattle.std.proofs.Common.{true, refl}
use Rattle.batch_meaning.proofs.Composed.{does_bind, does_fail, does_over, does_room}
use Rattle.statement_exec.specs.Changed.{changes_planned}
use Rattle.statement_exec.proofs.Parts.{does_on, does_result, first_of, second_of, third_of, wanting_of}
use Rattle.statement_exec.proofs.changing.change_planned.Goals as goal

pub returns-in_err-told-clause-does : goal.returns-in_err-told-clause-does
unfolding changes_planned
returns-in_err-told-clause-does g c = λ shape others is. does_fail _ _ _ c.from_residual.ensures.0 c.from_residual.ensures.1 (does_result _ _ (wanting_of _ _ _ (rw c.in_err-told.ensures.fault at (c.fired_by_write-came.ensures shape))))

pub returns-in_err-parts-clause-does : goal.returns-in_err-parts-clause-does
unfolding changes_planned
returns-in_err-parts-clause-does g c = λ shape others is. let came = rw c.in_ok-told.ensures.both.1 at (c.fired_by_write-came.ensures shape) in
    does_on _ _ (second_of _ _ _ _ came) (does_on _ _ (rw (is, c.as_slice.ensures) at (third_of _ _ _ _ came)) (does_fail _ _ _ c.from_residual-in_err-parts.ensures.0 c.from_residual-in_err-parts.ensures.1
    (does_room true (rw (c.as_slice-2.ensures, first_of _ _ _ _ came, c.as_slice-3.ensures, c.in_err-parts.ensures.fault) at c.apply-marked.ensures.does))))

pub returns-clause-does : goal.returns-clause-does
unfolding changes_planned
returns-clause-does g c = λ shape others is. let came = rw c.in_ok-told.ensures.both.1 at (c.fired_by_write-came.ensures shape) in
    does_on _ _ (second_of _ _ _ _ came) (does_on _ _ (rw (is, c.as_slice.ensures) at (third_of _ _ _ _ came)) (does_bind _ _
    (does_room true (rw (c.as_slice-2.ensures, first_of _ _ _ _ came, c.as_slice-3.ensures, c.in_ok-parts.ensures.both.1) at c.apply-marked.ensures.does))
    (rw (c.in_ok-parts.ensures.both.0, c.in_ok-told.ensures.both.0) (does_over refl))))
