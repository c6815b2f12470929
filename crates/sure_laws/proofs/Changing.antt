-- What INSERT, UPDATE and DELETE ask up to where their triggers run.
use Rattle.std.proofs.Common.{◌≡◌, Bool, true, false, if◌then◌else◌, List, ◌∷◌, ◌++◌, Option, Some, None, Result, Ok, Err, refl, sym, subst}
use Rattle.std.specs.Prelude.{nat_lt}
use Rattle.value_types.specs.declared.value.Value.{Value}
use Rattle.tsql_tree.specs.declared.definition.TableTree.{TableTree}
use Rattle.tsql_tree.specs.declared.definition.TriggerTree.{TriggerTree}
use Rattle.bound_tree.specs.declared.expr.BoundTest.{BoundTest}
use Rattle.bound_tree.specs.declared.write.Bound.TheVariants as bound
use Rattle.bound_tree.specs.declared.write.BoundWrite.{BoundWrite}
use Rattle.binder.specs.Statements.{bind_checks}
use Rattle.table_rows.specs.Definitions.{tables_of}
use Rattle.table_rows.specs.Rows.{shape_of}
use Rattle.step_model.specs.declared.change.Planned.{Planned}
use Rattle.step_model.specs.declared.manner.Manner.{Manner}
use Rattle.step_model.specs.Exchange.{Exchange}
use Rattle.step_model.specs.Ranges.{Rows}
use Rattle.dml_exec.specs.declared.refusal.Level.{Level}
use Rattle.dml_exec.specs.declared.refusal.Refusal.{Refusal}
use Rattle.dml_exec.specs.declared.written.Written.{Written as WriteEnd}
use Rattle.dml_exec.specs.declared.written.Written.TheVariants as written
use Rattle.dml_exec.specs.Planning.{table_written}
use Rattle.dml_exec.specs.Reading.{GivenRows, fetches_any, images_of}
use Rattle.dml_exec.specs.Writing.{attempts}
use Rattle.batch_meaning.specs.declared.failure.Failure.{Failure}
use Rattle.batch_meaning.specs.Asking.{◌>>=◌, applies, comes_to, fails, reads_at, reads_definitions, reads_images, touches_if, unless_broken, unless_stopped, with_room, ◌gives◌}
use Rattle.batch_meaning.specs.Changing.{planned_in, planned_over, planned_with, told_by}
use Rattle.batch_meaning.specs.Doing.{Doing, over, reads}
use Rattle.batch_meaning.specs.Progress.{SessionProgress, size_of, system_in, values_of}
use Rattle.batch_meaning.specs.Raised.{Around, Fired}
use Rattle.batch_meaning.specs.Selecting.{Effect, bound_as, result_full}
use Rattle.batch_meaning.specs.Tokens.{done_kind}
use Rattle.batch_meaning.specs.Working.{given_in, if_it_fits}
use Rattle.batch_meaning.specs.Writes.{changes, fired_by, fires_of, shape_or}
use Rattle.statement_paths.specs.Asked.{AskOnly, IsFetch}
use Rattle.statement_paths.proofs.Asking.{images_say}
use Rattle.statement_paths.proofs.Looking.{definitions_read}
use Rattle.statement_paths.proofs.Only.{AnyStep, IsTouch, Only, only_mono}
use Rattle.statement_paths.proofs.Still.{Reads}
use Rattle.write_laws.specs.Told.{TargetTold}
use Rattle.write_laws.proofs.Plans.{as_planned}
use Rattle.write_laws.proofs.Rewrites.{planned_of}
use Rattle.write_laws.proofs.Told.{targets_read}
use Rattle.sure_laws.proofs.Sures.{Any, IsCalm, IsHeld, fetch_calm, says_held}
use Rattle.sure_laws.proofs.Writing.{AreSpared}
use Rattle.sure_laws.proofs.Attempting.{OthersReady, says_attempts}
use Rattle.sure_laws.proofs.Taking.{plan_ready}
use Rattle.sure_laws.proofs.Trees.{OnOk, Sures, sures_bind, sures_calm, sures_comes, sures_gives, sures_more, sures_room}

-- ---- parts

-- what reads is calm
pub reads_calm : {A : Type 0} (tree : Doing A) → Reads tree → Only AnyStep IsCalm tree
reads_calm tree only = only_mono IsTouch AnyStep IsFetch IsCalm (λ step touch. tt) fetch_calm tree only

module _ (manner : Manner) where
  pub reads_sure : {A : Type 0} (before : List Exchange) (tree : Doing A) → Reads tree → Sures manner Any before tree
  reads_sure before tree only = sures_calm manner before tree (reads_calm tree only)

  pub any_ok : {A : Type 0} (came : Result A Failure) (behind : List Exchange) → Any came behind → OnOk manner Any came behind
  any_ok (Ok a) behind any = tt
  any_ok (Err failure) behind any = tt

  -- one thing behind another
  pub each_bind : {A B : Type 0} (before : List Exchange) (tree : Doing (Result A Failure)) (go : A → Doing (Result B Failure)) → Sures manner Any before tree → ((a : A) (behind : List Exchange) → Sures manner Any behind (go a)) → Sures manner Any before (tree >>= go)
  each_bind before tree go first more = sures_bind manner Any Any before tree go (λ failure behind. tt) (sures_more manner Any (OnOk manner Any) before tree any_ok first) (λ a behind any. more a behind)

  -- ---- images

  -- what was read for a write is told
  abbrev pub AreRead : GivenRows → List TableTree → BoundWrite → List Exchange → List Rows → List Exchange → Type 0
  AreRead given shapes write before images behind = (level : Level) × (vars : List Value) × (part : List Exchange) × (behind ≡ before ++ part) × AskOnly IsFetch part × TargetTold vars shapes level write part images

  module _ (given : GivenRows) (shape : TableTree) (shapes : List TableTree) (write : BoundWrite) (fetched : given (table_written write) ≡ None) where
    abbrev ImagesRead : List Exchange → Result (List Rows) Failure → List Exchange → Type 0
    ImagesRead before = OnOk manner (AreRead given (shape ∷ shapes) write before)

    pub level_sure : (level : Level) (vars : List Value) (before : List Exchange) → Sures manner (ImagesRead before) before (reads_at given level vars (shape ∷ shapes) (bound.Write write))
    unfolding reads_at
    level_sure level vars before = by_touch (fetches_any given (bound.Write write))
      where
        by_came : (came : Result (List Rows) Refusal) (behind : List Exchange) → IsHeld manner (images_of given (shape ∷ shapes) level vars (bound.Write write)) before came behind → Sures manner (ImagesRead before) behind (unless_stopped came)
        by_came (Ok images) behind was = (level, vars, was.part, was.parts, was.fetches, targets_read manner given (shape ∷ shapes) level vars write was.part images fetched was.held)
        by_came (Err why) behind was = tt

        read : Sures manner (ImagesRead before) before (images_of given (shape ∷ shapes) level vars (bound.Write write) gives unless_stopped)
        read =
            sures_gives manner (IsHeld manner (images_of given (shape ∷ shapes) level vars (bound.Write write)) before) (ImagesRead before) before (images_of given (shape ∷ shapes) level vars (bound.Write write)) unless_stopped
            (says_held manner before (images_of given (shape ∷ shapes) level vars (bound.Write write)) (images_say IsFetch (λ op is. is) given (shape ∷ shapes) level vars (bound.Write write))) by_came

        by_touch : (b : Bool) → Sures manner (ImagesRead before) before (touches_if b (images_of given (shape ∷ shapes) level vars (bound.Write write) gives unless_stopped))
        by_touch true = read
        by_touch false = read

    images_sure : (before : List Exchange) → Sures manner (ImagesRead before) before (reads_images given (shape ∷ shapes) (bound.Write write))
    unfolding reads_images
    images_sure before = λ p. level_sure p.settings.level (values_of p.vars) before

  -- ---- what is planned, and asked

  -- it may be asked
  abbrev pub MayAsk : List Planned → List Exchange → Type 0
  MayAsk planned behind = AreSpared planned × OthersReady manner behind planned

  plan_may : (around : Around) (p : SessionProgress) (given : GivenRows) (shapes : List TableTree) (write : BoundWrite) (images : List Rows) (planned : List Planned) (before behind : List Exchange)
      → planned_over around p shapes write images ≡ Ok planned → AreRead given shapes write before images behind → MayAsk planned behind
  plan_may around p given shapes write images planned before behind is read = by_shape (shape_of (table_written write) shapes) refl is
    where
      by_checks : (shape : TableTree) (o : Result (List BoundTest) Failure) → shape_of (table_written write) shapes ≡ Some shape → planned_with around p shape write images o ≡ Ok planned → MayAsk planned behind
      by_checks shape (Ok checks) known e =
          let ready = plan_ready manner read.1 shapes read.0 shape write images planned before read.2 known (planned_of (values_of p.vars) (system_in around p) shape checks write images planned (as_planned _ planned e)) read.4 read.5 in
          subst (λ (l : List Exchange). MayAsk planned l) (sym read.3) (ready.0, ready.1)
      by_checks shape (Err failure) known e = absurd (let no : Err failure ≡ Ok planned = e in cc)

      by_shape : (o : Option TableTree) → shape_of (table_written write) shapes ≡ o → planned_in around p o write images ≡ Ok planned → MayAsk planned behind
      by_shape None known e = absurd (let no : Err _ ≡ Ok planned = e in cc)
      by_shape (Some shape) known e = by_checks shape (bound_as (bind_checks shape)) known e

  pub applies_sure : (shapes : List TableTree) (planned : List Planned) (before : List Exchange) → MayAsk planned before → Sures manner Any before (applies shapes planned)
  unfolding applies
  applies_sure shapes planned before may =
      sures_gives manner Any Any before (attempts shapes planned) (λ attempt. unless_broken attempt.came) (says_attempts manner shapes planned before may.0 may.1) (λ attempt behind any. by_came attempt.came behind)
    where
      by_came : (came : Result WriteEnd Refusal) (behind : List Exchange) → Sures manner Any behind (unless_broken came)
      by_came (Ok (written.Done mark)) behind = tt
      by_came (Ok (written.Refused number name)) behind = tt
      by_came (Err why) behind = tt

  -- ---- the whole

  -- what asks nothing leaves it so
  fits_may : (planned : List Planned) (before : List Exchange) (effect : Effect) → MayAsk planned before → Sures manner (OnOk manner (λ (fitting : Effect) behind. MayAsk planned behind)) before (if_it_fits effect)
  unfolding if_it_fits
  fits_may planned before effect may = λ p. by_test (nat_lt p.bytes_left (size_of effect.tokens))
    where
      by_test : (b : Bool) → Sures manner (OnOk manner (λ (fitting : Effect) behind. MayAsk planned behind)) before (if b then fails result_full else over (Ok effect))
      by_test true = tt
      by_test false = may

  module _ (around : Around) (shape : TableTree) (shapes : List TableTree) (write : BoundWrite) (fetched : given_in around.fired (table_written write) ≡ None) where
    abbrev Read : List Exchange → List Rows → List Exchange → Type 0
    Read = AreRead (given_in around.fired) (shape ∷ shapes) write

    pub changes_sure : (before : List Exchange) → Sures manner Any before (changes around shape shapes write)
    unfolding changes
    changes_sure before =
        each_bind before reads_definitions _ (reads_sure before reads_definitions definitions_read) (λ definitions defined.
        sures_bind manner (Read defined) Any defined (reads_images (given_in around.fired) (shape ∷ shapes) (bound.Write write)) _ (λ failure behind. tt) (images_sure (given_in around.fired) shape shapes write fetched defined) (λ images read are.
        sures_bind manner MayAsk Any read (reads λ p. comes_to (planned_over around p (shape ∷ shapes) write images)) _ (λ failure behind. tt)
        (λ p. sures_comes manner MayAsk read (planned_over around p (shape ∷ shapes) write images) (λ planned is. plan_may around p (given_in around.fired) (shape ∷ shapes) write images planned defined read is are)) (λ planned at may.
        sures_bind manner (λ (effect : Effect) behind. MayAsk planned behind) Any at (reads λ p. comes_to (Ok (told_by (done_kind around) p.settings.no_count write planned))) _ (λ failure behind. tt)
        (λ p. sures_comes manner (λ (effect : Effect) behind. MayAsk planned behind) at (Ok (told_by (done_kind around) p.settings.no_count write planned)) (λ effect is. may)) (λ effect at may.
        sures_bind manner (λ (fitting : Effect) behind. MayAsk planned behind) Any at (if_it_fits effect) _ (λ failure behind. tt) (fits_may planned at effect may) (λ fitting at may.
        sures_bind manner (λ (fires : List TriggerTree) behind. MayAsk planned behind) Any at (comes_to (Ok (fires_of around definitions write))) _ (λ failure behind. tt)
        (sures_comes manner (λ (fires : List TriggerTree) behind. MayAsk planned behind) at (Ok (fires_of around definitions write)) (λ fires is. may)) (λ fires at may.
        sures_bind manner (λ (fired : Fired) behind. MayAsk planned behind) Any at (comes_to (Ok (fired_by (shape_or shape (shape_of (table_written write) (shape ∷ shapes))) write images planned))) _ (λ failure behind. tt)
        (sures_comes manner (λ (fired : Fired) behind. MayAsk planned behind) at (Ok (fired_by (shape_or shape (shape_of (table_written write) (shape ∷ shapes))) write images planned)) (λ fired is. may)) (λ fired at may.
        each_bind at (with_room (applies (tables_of definitions) planned)) _ (sures_room manner Any at (applies (tables_of definitions) planned) (λ failure. tt) (applies_sure (tables_of definitions) planned at may)) (λ mark behind. tt))))))))
