-- What INSERT, UPDATE and DELETE have asked up to where their triggers run, where they succeeded and where they failed.
use Rattle.std.proofs.Common.{◌≡◌, ◌⊎◌, inl, inr, ℕ, List, [], ◌∷◌, ◌++◌, Result, Ok, Err, sym, ap, ◌∙◌, subst, append-nil}
use Rattle.tsql_tree.specs.declared.definition.Definition.{Definition}
use Rattle.tsql_tree.specs.declared.definition.TableTree.{TableTree}
use Rattle.tsql_tree.specs.declared.definition.TriggerTree.{TriggerTree}
use Rattle.bound_tree.specs.declared.write.Bound.{Bound}
use Rattle.bound_tree.specs.declared.write.Bound.TheVariants as bound
use Rattle.bound_tree.specs.declared.write.BoundWrite.{BoundWrite}
use Rattle.table_rows.specs.Definitions.{tables_of}
use Rattle.table_rows.specs.Rows.{shape_of}
use Rattle.step_model.specs.declared.change.Planned.{Planned}
use Rattle.step_model.specs.declared.manner.Manner.{Manner}
use Rattle.step_model.specs.Exchange.{Exchange}
use Rattle.step_model.specs.Ranges.{Rows}
use Rattle.dml_exec.specs.Planning.{table_written}
use Rattle.dml_exec.specs.Reading.{GivenRows}
use Rattle.statement_paths.specs.Asked.{AskOnly, IsFetch}
use Rattle.batch_meaning.specs.declared.failure.Failure.{Failure}
use Rattle.batch_meaning.specs.Raised.{Around, Fired}
use Rattle.batch_meaning.specs.Asking.{◌>>=◌, applies, comes_to, fails, reads_definitions, reads_images, with_room}
use Rattle.batch_meaning.specs.Changing.{planned_over, told_by}
use Rattle.batch_meaning.specs.Doing.{Doing, over, reads, ◌then◌, Held}
use Rattle.batch_meaning.specs.Failures.{plain}
use Rattle.batch_meaning.specs.Progress.{SessionProgress}
use Rattle.batch_meaning.specs.Selecting.{Effect, not_bound_so}
use Rattle.batch_meaning.specs.Tokens.{done_kind}
use Rattle.batch_meaning.specs.Working.{given_in, if_it_fits}
use Rattle.batch_meaning.specs.Writes.{Written, change_bound, changes, fired_by, fires_of, shape_or}
use Rattle.statement_paths.specs.Paths.{AreApplied, IsChange, IsFailed, IsWritten}
use Rattle.statement_paths.proofs.Still.{Still}
use Rattle.statement_paths.proofs.Apart.{bind_apart, bind_failed, room_apart}
use Rattle.statement_paths.proofs.Looking.{ok_same, definitions_apart, definitions_read}
use Rattle.statement_paths.proofs.Working.{applies_apart, applies_still, bind_reads, bytes_apart, comes_on, error_never, images_apart, images_read, in_manner}
use Rattle.statement_paths.proofs.Failing.{applies_failed, bind_or, comes_or, failed_more, fits_read, read_failed, reads_failed, room_failed, undone_failed}

module _ (around : Around) (shape : TableTree) (shapes : List TableTree) (write : BoundWrite) where
  abbrev all : List TableTree
  all = shape ∷ shapes

  abbrev given : GivenRows
  given = given_in around.fired

  abbrev sees : List Rows → List Planned → Fired
  sees images planned = fired_by (shape_or shape (shape_of (table_written write) all)) write images planned

  -- ---- its parts, from the last on

  abbrev Putting : List Definition → List Planned → Effect → List TriggerTree → Fired → Doing (Result Written Failure)
  Putting definitions planned fitting fires fired = with_room (applies (tables_of definitions) planned) >>= λ mark. over (Ok (record { effect = fitting; mark = mark; fires = fires; fired = fired }))

  abbrev Seeing : List Definition → List Rows → List Planned → Effect → List TriggerTree → Doing (Result Written Failure)
  Seeing definitions images planned fitting fires = comes_to (Ok (sees images planned)) >>= λ fired. Putting definitions planned fitting fires fired

  abbrev Firing : List Definition → List Rows → List Planned → Effect → Doing (Result Written Failure)
  Firing definitions images planned fitting = comes_to (Ok (fires_of around definitions write)) >>= λ fires. Seeing definitions images planned fitting fires

  abbrev Fitting : List Definition → List Rows → List Planned → Effect → Doing (Result Written Failure)
  Fitting definitions images planned effect = if_it_fits effect >>= λ fitting. Firing definitions images planned fitting

  abbrev Telling : List Definition → List Rows → List Planned → Doing (Result Written Failure)
  Telling definitions images planned = (reads λ p. comes_to (Ok (told_by (done_kind around) p.settings.no_count write planned))) >>= λ effect. Fitting definitions images planned effect

  module _ (p0 : SessionProgress) where
    -- ---- where it succeeded

    -- what it is, from where it was planned
    record IsPut (definitions : List Definition) (images : List Rows) (planned : List Planned) (effect : Effect) (done : Written) (exchanges : List Exchange) (new : SessionProgress) : Type 0 where
      pub made : List Planned
      pub applied : AreApplied p0.settings.manner (tables_of definitions) planned made exchanges
      pub marks : done.mark ≡ applied.mark
      pub tells : done.effect ≡ effect
      pub fires : done.fires ≡ fires_of around definitions write
      pub sees : done.fired ≡ sees images planned
      pub still : Still p0 new

    put_apart : (definitions : List Definition) (images : List Rows) (planned : List Planned) (fitting : Effect) (fires : List TriggerTree) (fired : Fired) (p new : SessionProgress) (exchanges : List Exchange) (done : Written)
        → fires ≡ fires_of around definitions write → fired ≡ sees images planned → Still p0 p → Held (Putting definitions planned fitting fires fired) p exchanges (Ok done) new → IsPut definitions images planned fitting done exchanges new
    unfolding Held
    put_apart definitions images planned fitting fires fired p new exchanges done all_fires all_sees still held =
        let on = bind_apart (with_room (applies (tables_of definitions) planned)) (λ mark. over (Ok (record { effect = fitting; mark = mark; fires = fires; fired = fired }))) p new exchanges done held in
        let was = room_apart (applies (tables_of definitions) planned) p on.3 on.0 on.2 on.5 in
        let put = applies_apart around p0 (tables_of definitions) planned p on.3 on.0 on.2 still was in
        let same : done ≡ record { effect = fitting; mark = on.2; fires = fires; fired = fired } = ok_same {E = Failure} done (record { effect = fitting; mark = on.2; fires = fires; fired = fired }) on.6.1 in
        let whole : exchanges ≡ on.0 = on.4 ∙ ap (λ (l : List Exchange). on.0 ++ l) on.6.0 ∙ append-nil on.0 in
        subst (λ (l : List Exchange). IsPut definitions images planned fitting done l new) (sym whole) (record {
          made = put.0;
          applied = put.1;
          marks = ap (λ (d : Written). d.mark) same ∙ put.2;
          tells = ap (λ (d : Written). d.effect) same;
          fires = ap (λ (d : Written). d.fires) same ∙ all_fires;
          sees = ap (λ (d : Written). d.fired) same ∙ all_sees;
          still = subst (Still p0) (sym on.6.2) (applies_still around p0 (tables_of definitions) planned p on.3 on.0 on.2 still was);
        })

    fit_apart : (definitions : List Definition) (images : List Rows) (planned : List Planned) (effect : Effect) (p new : SessionProgress) (exchanges : List Exchange) (done : Written)
        → Still p0 p → Held (Fitting definitions images planned effect) p exchanges (Ok done) new → IsPut definitions images planned effect done exchanges new
    fit_apart definitions images planned effect p new exchanges done still held =
        let fits = bind_apart (if_it_fits effect) (λ fitting. Firing definitions images planned fitting) p new exchanges done held in
        let fit = bytes_apart around p0 effect fits.2 p fits.3 fits.0 fits.5 in
        let rest : Held (Firing definitions images planned fits.2) p exchanges (Ok done) new =
        subst (λ (s : SessionProgress). Held (Firing definitions images planned fits.2) s exchanges (Ok done) new) fit.2
        (subst (λ (l : List Exchange). Held (Firing definitions images planned fits.2) fits.3 l (Ok done) new) (sym (fits.4 ∙ ap (λ (l : List Exchange). l ++ fits.1) fit.0)) fits.6) in
        comes_on around p0 (Ok (fires_of around definitions write)) (λ fires. Seeing definitions images planned fits.2 fires) p new exchanges done rest (λ fires is_fires seeing.
        comes_on around p0 (Ok (sees images planned)) (λ fired. Putting definitions planned fits.2 fires fired) p new exchanges done seeing (λ fired is_fired putting.
        subst (λ (e : Effect). IsPut definitions images planned e done exchanges new) (sym fit.1)
        (put_apart definitions images planned fits.2 fires fired p new exchanges done (sym (ok_same {E = Failure} (fires_of around definitions write) fires is_fires)) (sym (ok_same {E = Failure} (sees images planned) fired is_fired)) still putting)))

    pub changes_apart : (p new : SessionProgress) (exchanges : List Exchange) (done : Written) → Still p0 p → Held (changes around shape shapes write) p exchanges (Ok done) new
        → ((planned : List Planned) × IsWritten around p0 shape shapes write planned done exchanges) × Still p0 new
    unfolding changes Held ◌then◌
    changes_apart p new exchanges done still held =
        bind_reads around p0 reads_definitions _ p new exchanges done definitions_read still held (λ defined behind definitions q parts defines same rest.
        bind_reads around p0 (reads_images given all (bound.Write write)) _ q new behind done (images_read given all (bound.Write write)) same rest (λ read later images r more reads so others.
        comes_on around p0 (planned_over around r all write images) (λ planned. Telling definitions images planned) r new later done others (λ planned plans last.
        comes_on around p0 (Ok (told_by (done_kind around) r.settings.no_count write planned)) (λ effect. Fitting definitions images planned effect) r new later done last (λ told tells work.
        let put = fit_apart definitions images planned told r new later done so work in (
          (
            put.made,
            record {
              definitions = definitions;
              images = images;
              defined = defined;
              read = read;
              applied = later;
              parts = parts ∙ ap (λ (l : List Exchange). defined ++ l) more;
              defines = definitions_apart p0.settings.manner p q defined definitions (in_manner around p0 p still) defines;
              reads = images_apart around p0 given all (bound.Write write) q r read images same reads;
              plan = planned;
              plans = subst (λ (s : SessionProgress). planned_over around s all write images ≡ Ok planned) so plans;
              applies = put.applied;
              marks = put.marks;
              tells = put.tells ∙ sym (ok_same {E = Failure} (told_by (done_kind around) r.settings.no_count write planned) told tells) ∙ ap (λ (s : SessionProgress). told_by (done_kind around) s.settings.no_count write planned) so;
              fires = put.fires;
              sees = put.sees;
            },
          ),
          put.still,
        )))))

    -- ---- where it failed

    abbrev manner : Manner
    manner = p0.settings.manner

    put_failed : (definitions : List Definition) (planned : List Planned) (fitting : Effect) (fires : List TriggerTree) (fired : Fired) (p new : SessionProgress) (exchanges : List Exchange) (failure : Failure)
        → Still p0 p → Held (Putting definitions planned fitting fires fired) p exchanges (Err failure) new → IsFailed manner exchanges
    unfolding Held
    put_failed definitions planned fitting fires fired p new exchanges failure still held = by_failed (bind_failed (with_room (applies (tables_of definitions) planned)) (λ mark. over (Ok (Done mark))) p new exchanges failure held)
      where
        Done : ℕ → Written
        Done mark = record { effect = fitting; mark = mark; fires = fires; fired = fired }

        by_failed : Held (with_room (applies (tables_of definitions) planned)) p exchanges (Err failure) new
            ⊎ ((front back : List Exchange) × (mark : ℕ) × (mid : SessionProgress) × (exchanges ≡ front ++ back) × Held (with_room (applies (tables_of definitions) planned)) p front (Ok mark) mid × Held {A = Result Written Failure} (over (Ok (Done mark))) mid back (Err failure) new) → IsFailed manner exchanges
        by_failed (inl first) = room_failed p0 (applies (tables_of definitions) planned) p new exchanges failure first (λ none. undone_failed manner exchanges (inl none))
            (λ was. applies_failed p0 (tables_of definitions) planned p new exchanges failure still was)
        by_failed (inr was) = absurd (let no : Err failure ≡ Ok (Done was.2) = was.6.1 in cc)

    fires_failed : (definitions : List Definition) (images : List Rows) (planned : List Planned) (fitting : Effect) (p new : SessionProgress) (exchanges : List Exchange) (failure : Failure)
        → Still p0 p → Held (Firing definitions images planned fitting) p exchanges (Err failure) new → IsFailed manner exchanges
    fires_failed definitions images planned fitting p new exchanges failure still held =
        comes_or p0 (Ok (fires_of around definitions write)) (λ fires. Seeing definitions images planned fitting fires) p new exchanges failure held (λ none. read_failed manner exchanges none) (λ fires is_fires seeing.
        comes_or p0 (Ok (sees images planned)) (λ fired. Putting definitions planned fitting fires fired) p new exchanges failure seeing (λ none. read_failed manner exchanges none) (λ fired is_fired putting.
        put_failed definitions planned fitting fires fired p new exchanges failure still putting))

    fits_failed : (definitions : List Definition) (images : List Rows) (planned : List Planned) (effect : Effect) (p new : SessionProgress) (exchanges : List Exchange) (failure : Failure)
        → Still p0 p → Held (Fitting definitions images planned effect) p exchanges (Err failure) new → IsFailed manner exchanges
    fits_failed definitions images planned effect p new exchanges failure still held = by_failed (bind_failed (if_it_fits effect) (λ fitting. Firing definitions images planned fitting) p new exchanges failure held)
      where
        by_failed : Held (if_it_fits effect) p exchanges (Err failure) new
            ⊎ ((front back : List Exchange) × (fitting : Effect) × (mid : SessionProgress) × (exchanges ≡ front ++ back) × Held (if_it_fits effect) p front (Ok fitting) mid × Held (Firing definitions images planned fitting) mid back (Err failure) new) → IsFailed manner exchanges
        by_failed (inl first) = reads_failed manner (if_it_fits effect) p new exchanges (Err failure) (fits_read around p0 effect) first
        by_failed (inr was) =
            let fit = bytes_apart around p0 effect was.2 p was.3 was.0 was.5 in
            failed_more manner exchanges was.0 was.1 was.4 (subst (AskOnly IsFetch) (sym fit.0) tt) (fires_failed definitions images planned was.2 was.3 new was.1 failure (subst (Still p0) (sym fit.2) still) was.6)

    pub changes_failed : (p new : SessionProgress) (exchanges : List Exchange) (failure : Failure) → Still p0 p → Held (changes around shape shapes write) p exchanges (Err failure) new → IsFailed manner exchanges
    unfolding changes Held ◌then◌
    changes_failed p new exchanges failure still held =
        bind_or p0 reads_definitions _ p new exchanges failure definitions_read still held (λ fetches. read_failed manner exchanges fetches) (λ defined behind definitions q parts defines fetches same rest.
        failed_more manner exchanges defined behind parts fetches
        (bind_or p0 (reads_images given all (bound.Write write)) _ q new behind failure (images_read given all (bound.Write write)) same rest (λ more. read_failed manner behind more) (λ read later images r more fetched too so others.
        failed_more manner behind read later more too
        (comes_or p0 (planned_over around r all write images) (λ planned. Telling definitions images planned) r new later failure others (λ none. read_failed manner later none) (λ planned plans last.
        comes_or p0 (Ok (told_by (done_kind around) r.settings.no_count write planned)) (λ effect. Fitting definitions images planned effect) r new later failure last (λ none. read_failed manner later none) (λ told tells work.
        fits_failed definitions images planned told r new later failure so work))))))

-- ---- by what it is bound to

module _ (around : Around) (p0 : SessionProgress) where
  pub change_apart : (shapes : List TableTree) (of : Bound) (p new : SessionProgress) (exchanges : List Exchange) (done : Written) → Still p0 p → Held (change_bound around shapes of) p exchanges (Ok done) new
      → ((planned : List Planned) × IsChange around p0 shapes of planned done exchanges) × Still p0 new
  change_apart [] of p new exchanges done still held = absurd (error_never (plain not_bound_so) p new exchanges done held)
  change_apart (shape ∷ shapes) (bound.Write write) p new exchanges done still held = changes_apart around shape shapes write p0 p new exchanges done still held
  change_apart (shape ∷ shapes) (bound.Query query) p new exchanges done still held = absurd (error_never (plain not_bound_so) p new exchanges done held)
  change_apart (shape ∷ shapes) (bound.Assign query places) p new exchanges done still held = absurd (error_never (plain not_bound_so) p new exchanges done held)
  change_apart (shape ∷ shapes) bound.Plain p new exchanges done still held = absurd (error_never (plain not_bound_so) p new exchanges done held)

  unbound : (p new : SessionProgress) (exchanges : List Exchange) (failure : Failure) → Held {A = Result Written Failure} (fails not_bound_so) p exchanges (Err failure) new → IsFailed p0.settings.manner exchanges
  unbound p new exchanges failure held = reads_failed p0.settings.manner (fails {A = Written} not_bound_so) p new exchanges (Err failure) tt held

  pub change_failed : (shapes : List TableTree) (of : Bound) (p new : SessionProgress) (exchanges : List Exchange) (failure : Failure) → Still p0 p → Held (change_bound around shapes of) p exchanges (Err failure) new → IsFailed p0.settings.manner exchanges
  change_failed [] of p new exchanges failure still held = unbound p new exchanges failure held
  change_failed (shape ∷ shapes) (bound.Write write) p new exchanges failure still held = changes_failed around shape shapes write p0 p new exchanges failure still held
  change_failed (shape ∷ shapes) (bound.Query query) p new exchanges failure still held = unbound p new exchanges failure held
  change_failed (shape ∷ shapes) (bound.Assign query places) p new exchanges failure still held = unbound p new exchanges failure held
  change_failed (shape ∷ shapes) bound.Plain p new exchanges failure still held = unbound p new exchanges failure held
