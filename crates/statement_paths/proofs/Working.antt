-- What each statement has asked within its transaction, where it succeeded. The session stands as it did where the work began, but that its
-- locks are to be relaxed.
use Rattle.std.proofs.Common.{◌≡◌, ℕ, ℤ, Bool, true, false, if◌then◌else◌, List, [], ◌∷◌, ◌++◌, length, Option, None, Some, Result, Ok, Err, refl, sym, ap, ◌∙◌, subst, append-nil}
use Rattle.std.specs.Prelude.{nat_lt}
use Rattle.std.specs.Cmp.Lexicographic.{bytes_decides}
use Rattle.value_types.specs.Units.{same_units}
use Rattle.tsql_tree.specs.declared.definition.TableTree.{TableTree}
use Rattle.tsql_tree.specs.declared.statement.Form.{Form-F}
use Rattle.value_types.specs.declared.value.Value.{Value}
use Rattle.bound_tree.specs.declared.query.BoundQuery.{BoundQuery}
use Rattle.bound_tree.specs.declared.write.Bound.{Bound}
use Rattle.bound_tree.specs.declared.write.Bound.TheVariants as bound
use Rattle.binder.specs.Names.{Layer}
use Rattle.table_rows.specs.Definitions.{is_objects}
use Rattle.step_model.specs.declared.change.Planned.{Planned}
use Rattle.step_model.specs.declared.manner.Manner.{Manner}
use Rattle.step_model.specs.declared.op.Op.TheVariants as ops
use Rattle.step_model.specs.declared.reply.Reply.{Reply}
use Rattle.step_model.specs.declared.reply.Reply.TheVariants as replies
use Rattle.step_model.specs.Dialog as said
use Rattle.step_model.specs.Exchange.{Exchange, CanReply}
use Rattle.step_model.specs.Ranges.{Rows, no_memory}
use Rattle.dml_exec.specs.declared.refusal.Level.{Level}
use Rattle.dml_exec.specs.declared.refusal.Refusal.{Refusal}
use Rattle.dml_exec.specs.declared.written.Attempt.{Attempt}
use Rattle.dml_exec.specs.declared.written.Written.{Written as WriteEnd}
use Rattle.dml_exec.specs.declared.written.Written.TheVariants as written
use Rattle.dml_exec.specs.Reading.{GivenRows, fetches_any, images_of}
use Rattle.dml_exec.specs.Writing.{attempts}
use Rattle.statement_paths.specs.Asked.{IsFetch}
use Rattle.batch_meaning.specs.declared.failure.Failure.{Failure}
use Rattle.batch_meaning.specs.Raised.{Around}
use Rattle.batch_meaning.specs.Changing.{created, object_present}
use Rattle.batch_meaning.specs.Failures.{plain, naming}
use Rattle.batch_meaning.specs.Selecting.{Effect, answer_in, made_of, no_effect, not_bound_so, result_full, result_of}
use Rattle.batch_meaning.specs.Tokens.{done_kind}
use Rattle.batch_meaning.specs.Progress.{SessionProgress, touches, made, asked, asked_all, size_of, values_of}
use Rattle.batch_meaning.specs.Values.{Assigned, first_row, rows_assigned, status_of}
use Rattle.batch_meaning.specs.Doing.{Doing, over, asks, ◌then◌, Held}
use Rattle.batch_meaning.specs.Asking.{fails, fails_naming, ◌>>=◌, with_room, comes_to, unless_refused, reads_at, reads_images, unless_stopped, unless_broken, applies, touches_if, ◌gives◌, assigns_all, takes_back, where_done, marked}
use Rattle.batch_meaning.specs.Working.{answers, assigns_rows, computes, given_in, if_it_fits, select_bound, selects, selects_into, status_bound, values_bound, works_bound}
use Rattle.batch_meaning.specs.Writes.{creates, inserted}
use Rattle.statement_paths.specs.Paths.{definition_put, replied, AreApplied, AreAssigned, AreRead, AreValues, IsAnswered, IsComputed, IsCreated, IsSelect, IsSelected, IsStatus, IsWorked}
use Rattle.statement_paths.proofs.Only.{IsTouch, only_bind, only_comes, only_gives}
use Rattle.statement_paths.proofs.Still.{Reads, Still, applied_still, reads_still, still_then, still_manner, touched_still}
use Rattle.statement_paths.proofs.Apart.{bind_apart, room_apart, comes_apart, gives_apart, holds_apart}
use Rattle.statement_paths.proofs.Asking.{images_say}
use Rattle.statement_paths.proofs.Dialogs.{applied_apart, is_replied}
use Rattle.statement_paths.proofs.Looking.{ok_same}

-- ---- errors

pub error_never : {A : Type 0} (failure : Failure) (p new : SessionProgress) (exchanges : List Exchange) (a : A) → Held (over (Err failure)) p exchanges (Ok a) new → ⊥
unfolding Held
error_never failure p new exchanges a held = let no : Ok a ≡ Err failure = held.1 in absurd (cc)

pub naming_never : {A : Type 0} (number : ℕ) (name : List ℕ) (p new : SessionProgress) (exchanges : List Exchange) (a : A) → Held (fails_naming number name) p exchanges (Ok a) new → ⊥
unfolding Held
naming_never {A = A} number name p new exchanges a held = by_enough held.0 held.1
  where
    by_enough : (enough : Bool) → Held {A = Result A Failure} (if enough then over (Err (naming number name)) else fails no_memory) p exchanges (Ok a) new → ⊥
    by_enough true was = error_never (naming number name) p new exchanges a was
    by_enough false was = error_never (plain _) p new exchanges a was

-- what was found has this name
pub named_held : (number : ℕ) (own name : List ℕ) (tree : Doing (Result Effect Failure)) (p new : SessionProgress) (exchanges : List Exchange) (effect : Effect) → Held (if same_units own name then tree else fails_naming number name) p exchanges (Ok effect) new
    → (own ≡ name) × Held tree p exchanges (Ok effect) new
named_held number own name tree p new exchanges effect held = by_test (same_units own name) refl held
  where
    by_test : (test : Bool) → same_units own name ≡ test → Held (if test then tree else fails_naming number name) p exchanges (Ok effect) new → (own ≡ name) × Held tree p exchanges (Ok effect) new
    by_test true is was = ((bytes_decides own name).0 is, was)
    by_test false is was = absurd (naming_never number name p new exchanges effect was)

-- ---- reads

touch_reads : {A : Type 0} (any : Bool) (tree : Doing A) → Reads tree → Reads (touches_if any tree)
touch_reads true tree fetches = (tt, fetches)
touch_reads false tree fetches = fetches

pub at_level_reads : (given : GivenRows) (level : Level) (vars : List Value) (shapes : List TableTree) (of : Bound) → Reads (reads_at given level vars shapes of)
unfolding reads_at
at_level_reads given level vars [] of = tt
at_level_reads given level vars (shape ∷ shapes) of = touch_reads (fetches_any given of) (images_of given (shape ∷ shapes) level vars of gives unless_stopped)
    (only_gives IsTouch IsFetch (images_of given (shape ∷ shapes) level vars of) unless_stopped (images_say IsFetch (λ op is. is) given (shape ∷ shapes) level vars of) by_came)
  where
    by_came : (came : Result (List Rows) Refusal) → Reads (unless_stopped came)
    by_came (Ok rows) = tt
    by_came (Err why) = tt

pub images_read : (given : GivenRows) (shapes : List TableTree) (of : Bound) → Reads (reads_images given shapes of)
unfolding reads_images
images_read given shapes of = λ p. at_level_reads given p.settings.level (values_of p.vars) shapes of

pub at_level_apart : (given : GivenRows) (level : Level) (vars : List Value) (shapes : List TableTree) (of : Bound) (p new : SessionProgress) (exchanges : List Exchange) (images : List Rows)
    → Held (reads_at given level vars shapes of) p exchanges (Ok images) new → AreRead p.settings.manner given level vars shapes of exchanges images
unfolding reads_at Held
at_level_apart given level vars [] of p new exchanges images held = (held.0, ok_same {E = Failure} images [] held.1)
at_level_apart given level vars (shape ∷ shapes) of p new exchanges images held = by_touch (fetches_any given of) held
  where
    by_came : (front back : List Exchange) (came : Result (List Rows) Refusal) (mid : SessionProgress) → exchanges ≡ front ++ back → said.Held p.settings.manner (images_of given (shape ∷ shapes) level vars of) front came → Held (unless_stopped came) mid back (Ok images) new
        → said.Held p.settings.manner (images_of given (shape ∷ shapes) level vars of) exchanges (Ok images)
    by_came front back (Ok rows) mid parts was rest =
        subst (λ (l : List Exchange). said.Held p.settings.manner (images_of given (shape ∷ shapes) level vars of) l (Ok images)) (sym (parts ∙ ap (λ (l : List Exchange). front ++ l) rest.0 ∙ append-nil front))
        (subst (λ (r : List Rows). said.Held p.settings.manner (images_of given (shape ∷ shapes) level vars of) front (Ok r)) (sym (ok_same {E = Failure} images rows rest.1)) was)
    by_came front back (Err why) mid parts was rest = absurd (let no : Ok images ≡ Err _ = rest.1 in cc)

    by_touch : (any : Bool) → Held (touches_if any (images_of given (shape ∷ shapes) level vars of gives unless_stopped)) p exchanges (Ok images) new → said.Held p.settings.manner (images_of given (shape ∷ shapes) level vars of) exchanges (Ok images)
    by_touch true was =
        let on = gives_apart (images_of given (shape ∷ shapes) level vars of) unless_stopped (made touches p) new exchanges (Ok images) was in by_came on.front on.back on.came (asked_all on.front (made touches p)) on.parts on.held on.rest
    by_touch false was =
        let on = gives_apart (images_of given (shape ∷ shapes) level vars of) unless_stopped p new exchanges (Ok images) was in by_came on.front on.back on.came (asked_all on.front p) on.parts on.held on.rest

module _ (around : Around) (p0 : SessionProgress) where
  -- ---- one part behind another

  -- behind a part that reads
  pub bind_reads : {A B Goal : Type 0} (tree : Doing (Result A Failure)) (go : A → Doing (Result B Failure)) (p new : SessionProgress) (exchanges : List Exchange) (b : B) → Reads tree → Still p0 p → Held (tree >>= go) p exchanges (Ok b) new
      → ((front back : List Exchange) (a : A) (mid : SessionProgress) → exchanges ≡ front ++ back → Held tree p front (Ok a) mid → Still p0 mid → Held (go a) mid back (Ok b) new → Goal) → Goal
  bind_reads tree go p new exchanges b fetches still held on =
      let was = bind_apart tree go p new exchanges b held in on was.0 was.1 was.2 was.3 was.4 was.5 (still_then p0 p was.3 still (reads_still p tree was.3 was.0 (Ok was.2) fetches was.5)) was.6

  -- behind a result that is there at once
  pub comes_on : {A B Goal : Type 0} (result : Result A Failure) (go : A → Doing (Result B Failure)) (p new : SessionProgress) (exchanges : List Exchange) (b : B) → Held (comes_to result >>= go) p exchanges (Ok b) new
      → ((a : A) → result ≡ Ok a → Held (go a) p exchanges (Ok b) new → Goal) → Goal
  comes_on {A = A} {B = B} result go p new exchanges b held on =
      let was = bind_apart (comes_to result) go p new exchanges b held in
      let came = comes_apart result p was.3 was.0 was.2 was.5 in
      on was.2 came.1 (subst (λ (q : SessionProgress). Held (go was.2) q exchanges (Ok b) new) came.2 (subst (λ (l : List Exchange). Held (go was.2) was.3 l (Ok b) new) (sym (was.4 ∙ ap (λ (l : List Exchange). l ++ was.1) came.0)) was.6))

  pub in_manner : (p : SessionProgress) → Still p0 p → p.settings.manner ≡ p0.settings.manner
  in_manner p still = still_manner p0 p still

  pub images_apart : (given : GivenRows) (shapes : List TableTree) (of : Bound) (p new : SessionProgress) (exchanges : List Exchange) (images : List Rows)
      → Still p0 p → Held (reads_images given shapes of) p exchanges (Ok images) new → AreRead p0.settings.manner given p0.settings.level (values_of p0.vars) shapes of exchanges images
  unfolding reads_images Held
  images_apart given shapes of p new exchanges images still held =
      let read : AreRead p.settings.manner given p.settings.level (values_of p.vars) shapes of exchanges images = at_level_apart given p.settings.level (values_of p.vars) shapes of p new exchanges images held in
      subst (λ (s : SessionProgress). AreRead s.settings.manner given s.settings.level (values_of s.vars) shapes of exchanges images) still read

  -- ---- queries

  pub answers_apart : (shapes : List TableTree) (query : BoundQuery) (p new : SessionProgress) (exchanges : List Exchange) (rows : Rows) → Still p0 p → Held (answers around shapes query) p exchanges (Ok rows) new → IsAnswered around p0 shapes query rows exchanges
  unfolding answers Held
  answers_apart shapes query p new exchanges rows still held =
      bind_reads (reads_images (given_in around.fired) shapes (bound.Query query)) _ p new exchanges rows (images_read (given_in around.fired) shapes (bound.Query query)) still held (λ front back images mid parts read same rest.
      let last = comes_apart (answer_in around mid query images) mid new back rows rest in
      record {
        images = images;
        reads = subst (λ (l : List Exchange). AreRead p0.settings.manner (given_in around.fired) p0.settings.level (values_of p0.vars) shapes (bound.Query query) l images) (sym (parts ∙ ap (λ (l : List Exchange). front ++ l) last.0 ∙ append-nil front)) (images_apart (given_in around.fired) shapes (bound.Query query) p mid front images still read);
        answers = subst (λ (s : SessionProgress). answer_in around s query images ≡ Ok rows) same last.1;
      })

  pub answers_read : (shapes : List TableTree) (query : BoundQuery) → Reads (answers around shapes query)
  unfolding answers
  answers_read shapes query = only_bind IsTouch IsFetch (reads_images (given_in around.fired) shapes (bound.Query query)) _ (images_read (given_in around.fired) shapes (bound.Query query)) (λ images p. only_comes IsTouch IsFetch (answer_in around p query images))

  -- tokens that fit
  pub bytes_apart : (effect came : Effect) (p new : SessionProgress) (exchanges : List Exchange) → Held (if_it_fits effect) p exchanges (Ok came) new → (exchanges ≡ []) × (effect ≡ came) × (new ≡ p)
  unfolding Held if_it_fits
  bytes_apart effect came p new exchanges held = by_test (nat_lt p.bytes_left (size_of effect.tokens)) held
    where
      by_test : (test : Bool) → Held (if test then fails result_full else over (Ok effect)) p exchanges (Ok came) new → (exchanges ≡ []) × (effect ≡ came) × (new ≡ p)
      by_test true was = absurd (error_never (plain result_full) p new exchanges came was)
      by_test false was = (was.0, sym (ok_same {E = Failure} came effect was.1), was.2)

  selects_apart : (shapes : List TableTree) (query : BoundQuery) (p new : SessionProgress) (exchanges : List Exchange) (effect : Effect) → Still p0 p → Held (selects around shapes query) p exchanges (Ok effect) new → IsSelected around p0 shapes query [] effect exchanges
  unfolding selects Held ◌then◌
  selects_apart shapes query p new exchanges effect still held =
      bind_reads (answers around shapes query) _ p new exchanges effect (answers_read shapes query) still held (λ front back rows mid parts answered same rest.
      comes_on (result_of (done_kind around) mid.settings.no_count query rows) if_it_fits mid new back effect rest (λ made results last.
      let end = bytes_apart made effect mid new back last in
      record {
        rows = rows;
        answered = subst (λ (l : List Exchange). IsAnswered around p0 shapes query rows l) (sym (parts ∙ ap (λ (l : List Exchange). front ++ l) end.0 ∙ append-nil front)) (answers_apart shapes query p mid front rows still answered);
        results = subst (λ (s : SessionProgress). result_of (done_kind around) s.settings.no_count query rows ≡ Ok effect) same (results ∙ ap Ok end.1);
        plans = refl;
      }))

  -- nothing stood in the way
  abbrev all_fine : List Assigned → List Assigned × Option Failure
  all_fine sets = (sets, None)

  -- what was assigned behind an error is none
  sets_never : (sets : List Assigned) (failure : Failure) (p new : SessionProgress) (exchanges : List Exchange) (effect : Effect) → Held {A = Result Effect Failure} (assigns_all sets (over (Err failure))) p exchanges (Ok effect) new → ⊥
  unfolding assigns_all Held
  sets_never [] failure p new exchanges effect held = error_never failure p new exchanges effect held
  sets_never (one ∷ sets) failure p new exchanges effect held = sets_never sets failure _ new exchanges effect held

  rows_apart : (count : ℕ) (came : List Assigned × Option Failure) (p new : SessionProgress) (exchanges : List Exchange) (effect : Effect) → Held (assigns_rows count came) p exchanges (Ok effect) new
      → (exchanges ≡ []) × (came ≡ (effect.sets, None)) × (effect.rows ≡ count) × (effect.tokens ≡ [])
  unfolding Held
  rows_apart count (sets, None) p new exchanges effect held =
      let same : effect ≡ record { sets = sets; rows = count; tokens = [] } = ok_same {E = Failure} effect (record { sets = sets; rows = count; tokens = [] }) held.1 in
      (held.0, ap (λ (e : Effect). all_fine e.sets) (sym same), ap (λ (e : Effect). e.rows) same, ap (λ (e : Effect). e.tokens) same)
  rows_apart count (sets, Some failure) p new exchanges effect held = absurd (sets_never sets failure p new exchanges effect held)

  into_apart : (shapes : List TableTree) (query : BoundQuery) (places : List ℕ) (p new : SessionProgress) (exchanges : List Exchange) (effect : Effect) → Still p0 p → Held (selects_into around shapes query places) p exchanges (Ok effect) new
      → AreAssigned around p0 shapes query places [] effect exchanges
  unfolding selects_into Held
  into_apart shapes query places p new exchanges effect still held =
      bind_reads (answers around shapes query) _ p new exchanges effect (answers_read shapes query) still held (λ front back rows mid parts answered same rest.
      let end = rows_apart (length rows) (rows_assigned mid.vars places [] rows) mid new back effect (room_apart (assigns_rows (length rows) (rows_assigned mid.vars places [] rows)) mid new back effect rest) in
      record {
        rows = rows;
        answered = subst (λ (l : List Exchange). IsAnswered around p0 shapes query rows l) (sym (parts ∙ ap (λ (l : List Exchange). front ++ l) end.0 ∙ append-nil front)) (answers_apart shapes query p mid front rows still answered);
        assigns = subst (λ (s : SessionProgress). rows_assigned s.vars places [] rows ≡ (effect.sets, None)) same end.1;
        counts = end.2;
        silent = end.3;
        plans = refl;
      })

  select_apart : (shapes : List TableTree) (of : Bound) (p new : SessionProgress) (exchanges : List Exchange) (effect : Effect) → Still p0 p → Held (select_bound around shapes of) p exchanges (Ok effect) new → IsSelect around p0 shapes of [] effect exchanges
  select_apart shapes (bound.Query query) p new exchanges effect still held = selects_apart shapes query p new exchanges effect still held
  select_apart shapes (bound.Assign query places) p new exchanges effect still held = into_apart shapes query places p new exchanges effect still held
  select_apart shapes bound.Plain p new exchanges effect still held = absurd (error_never (plain not_bound_so) p new exchanges effect held)
  select_apart shapes (bound.Write write) p new exchanges effect still held = absurd (error_never (plain not_bound_so) p new exchanges effect held)

  -- ---- values

  pub values_apart : (shapes : List TableTree) (of : Bound) (p new : SessionProgress) (exchanges : List Exchange) (rows : Rows) → Still p0 p → Held (values_bound around shapes of) p exchanges (Ok rows) new → AreValues around p0 shapes of rows exchanges
  unfolding Held
  values_apart shapes (bound.Query query) p new exchanges rows still held = answers_apart shapes query p new exchanges rows still held
  values_apart shapes bound.Plain p new exchanges rows still held = (ok_same {E = Failure} rows [] held.1, held.0)
  values_apart shapes (bound.Write write) p new exchanges rows still held = absurd (error_never (plain not_bound_so) p new exchanges rows held)
  values_apart shapes (bound.Assign query places) p new exchanges rows still held = absurd (error_never (plain not_bound_so) p new exchanges rows held)

  pub values_read : (shapes : List TableTree) (of : Bound) → Reads (values_bound around shapes of)
  values_read shapes (bound.Query query) = answers_read shapes query
  values_read shapes bound.Plain = tt
  values_read shapes (bound.Write write) = tt
  values_read shapes (bound.Assign query places) = tt

  computes_apart : (form : Layer) (shapes : List TableTree) (of : Bound) (p new : SessionProgress) (exchanges : List Exchange) (effect : Effect) → Still p0 p → Held (computes around form shapes of) p exchanges (Ok effect) new
      → IsComputed around p0 form shapes of [] effect exchanges
  unfolding computes Held
  computes_apart form shapes of p new exchanges effect still held =
      bind_reads (values_bound around shapes of) _ p new exchanges effect (values_read shapes of) still held (λ front back rows mid parts values same rest.
      let last = comes_apart (made_of form mid.vars (first_row rows)) mid new back effect rest in
      record {
        rows = rows;
        values = subst (λ (l : List Exchange). AreValues around p0 shapes of rows l) (sym (parts ∙ ap (λ (l : List Exchange). front ++ l) last.0 ∙ append-nil front)) (values_apart shapes of p mid front rows still values);
        makes = subst (λ (s : SessionProgress). made_of form s.vars (first_row rows) ≡ Ok effect) same last.1;
        plans = refl;
      })

  pub statuses_apart : (shapes : List TableTree) (of : Bound) (p new : SessionProgress) (exchanges : List Exchange) (status : ℤ) → Still p0 p → Held (status_bound around shapes of) p exchanges (Ok status) new → IsStatus around p0 shapes of status exchanges
  unfolding status_bound Held
  statuses_apart shapes of p new exchanges status still held =
      bind_reads (values_bound around shapes of) _ p new exchanges status (values_read shapes of) still held (λ front back rows mid parts values same rest.
      let last = comes_apart (status_of (first_row rows)) mid new back status rest in
      record {
        rows = rows;
        values = subst (λ (l : List Exchange). AreValues around p0 shapes of rows l) (sym (parts ∙ ap (λ (l : List Exchange). front ++ l) last.0 ∙ append-nil front)) (values_apart shapes of p mid front rows still values);
        makes = last.1;
      })

  pub status_read : (shapes : List TableTree) (of : Bound) → Reads (status_bound around shapes of)
  unfolding status_bound
  status_read shapes of = only_bind IsTouch IsFetch (values_bound around shapes of) _ (values_read shapes of) (λ rows. only_comes IsTouch IsFetch (status_of (first_row rows)))

  -- ---- writes

  pub applies_apart : (shapes : List TableTree) (planned : List Planned) (p new : SessionProgress) (exchanges : List Exchange) (mark : ℕ) → Still p0 p → Held (applies shapes planned) p exchanges (Ok mark) new
      → (made : List Planned) × (applied : AreApplied p0.settings.manner shapes planned made exchanges) × (mark ≡ applied.mark)
  unfolding applies Held
  applies_apart shapes planned p new exchanges mark still held =
      let on = holds_apart (attempts shapes planned) (λ attempt. unless_broken attempt.came) p new exchanges (Ok mark) held in
      subst (λ (m : Manner). (made : List Planned) × (applied : AreApplied m shapes planned made exchanges) × (mark ≡ applied.mark)) (in_manner p still) (by_came on.front on.back on.came on.came.came refl (asked_all on.front (made touches p)) on.parts on.held on.rest)
    where
      by_came : (front back : List Exchange) (attempt : Attempt) (came : Result WriteEnd Refusal) → attempt.came ≡ came → (mid : SessionProgress) → exchanges ≡ front ++ back → said.Held p.settings.manner (attempts shapes planned) front attempt → Held (unless_broken attempt.came) mid back (Ok mark) new
          → (made : List Planned) × (applied : AreApplied p.settings.manner shapes planned made exchanges) × (mark ≡ applied.mark)
      by_came front back attempt (Ok (written.Done number)) is mid parts was rest =
          let end = subst (λ (c : Result WriteEnd Refusal). Held (unless_broken c) mid back (Ok mark) new) is rest in
          let on = applied_apart p.settings.manner shapes planned number front attempt was is in
          subst (λ (l : List Exchange). (made : List Planned) × (applied : AreApplied p.settings.manner shapes planned made l) × (mark ≡ applied.mark)) (sym (parts ∙ ap (λ (l : List Exchange). front ++ l) end.0 ∙ append-nil front))
          (on.0, on.1, ok_same {E = Failure} mark number end.1 ∙ on.2)
      by_came front back attempt (Ok (written.Refused number name)) is mid parts was rest = absurd (let no : Ok mark ≡ Err _ = (subst (λ (c : Result WriteEnd Refusal). Held (unless_broken c) mid back (Ok mark) new) is rest).1 in cc)
      by_came front back attempt (Err why) is mid parts was rest = absurd (let no : Ok mark ≡ Err _ = (subst (λ (c : Result WriteEnd Refusal). Held (unless_broken c) mid back (Ok mark) new) is rest).1 in cc)

  -- behind them all is as it was, but for its locks
  pub applies_still : (shapes : List TableTree) (planned : List Planned) (p new : SessionProgress) (exchanges : List Exchange) (mark : ℕ) → Still p0 p → Held (applies shapes planned) p exchanges (Ok mark) new → Still p0 new
  unfolding applies Held
  applies_still shapes planned p new exchanges mark still held =
      let on = holds_apart (attempts shapes planned) (λ attempt. unless_broken attempt.came) p new exchanges (Ok mark) held in
      by_came on.front on.came on.came.came refl on.back on.held on.rest
    where
      by_came : (front : List Exchange) (attempt : Attempt) (came : Result WriteEnd Refusal) → attempt.came ≡ came → (back : List Exchange) → said.Held p.settings.manner (attempts shapes planned) front attempt → Held (unless_broken attempt.came) (asked_all front (made touches p)) back (Ok mark) new → Still p0 new
      by_came front attempt (Ok (written.Done number)) is back was rest =
          let end = subst (λ (c : Result WriteEnd Refusal). Held (unless_broken c) (asked_all front (made touches p)) back (Ok mark) new) is rest in
          let done = applied_apart p.settings.manner shapes planned number front attempt was is in
          subst (Still p0) (sym end.2) (applied_still p0 p.settings.manner shapes planned done.0 front (made touches p) done.1 (touched_still p0 p still))
      by_came front attempt (Ok (written.Refused number name)) is back was rest = absurd (let no : Ok mark ≡ Err _ = (subst (λ (c : Result WriteEnd Refusal). Held (unless_broken c) (asked_all front (made touches p)) back (Ok mark) new) is rest).1 in cc)
      by_came front attempt (Err why) is back was rest = absurd (let no : Ok mark ≡ Err _ = (subst (λ (c : Result WriteEnd Refusal). Held (unless_broken c) (asked_all front (made touches p)) back (Ok mark) new) is rest).1 in cc)

  -- ---- by its form

  -- what makes values of another form succeeds at none
  not_made : (form : Layer) (shapes : List TableTree) (of : Bound) (p new : SessionProgress) (exchanges : List Exchange) (effect : Effect) → ((vars : _) (values : _) → made_of form vars values ≡ Err (plain not_bound_so)) → Still p0 p → Held (computes around form shapes of) p exchanges (Ok effect) new → ⊥
  not_made form shapes of p new exchanges effect not still held =
      let made = computes_apart form shapes of p new exchanges effect still held in
      let no : Err (plain not_bound_so) ≡ Ok effect = sym (not p0.vars (first_row made.rows)) ∙ made.makes in absurd (cc)

  pub worked_apart : (form : Layer) (shapes : List TableTree) (of : Bound) (p new : SessionProgress) (exchanges : List Exchange) (effect : Effect) → Still p0 p → Held (works_bound around form shapes of) p exchanges (Ok effect) new
      → (planned : List Planned) × IsWorked around p0 form shapes of planned effect exchanges
  worked_apart (Form-F.Select select) shapes of p new exchanges effect still held = ([], select_apart shapes of p new exchanges effect still held)
  worked_apart (Form-F.Insert table columns rows) shapes of p new exchanges effect still held = absurd (not_made (Form-F.Insert table columns rows) shapes of p new exchanges effect (λ vars values. refl) still held)
  worked_apart (Form-F.Update table sets filter) shapes of p new exchanges effect still held = absurd (not_made (Form-F.Update table sets filter) shapes of p new exchanges effect (λ vars values. refl) still held)
  worked_apart (Form-F.Delete table filter) shapes of p new exchanges effect still held = absurd (not_made (Form-F.Delete table filter) shapes of p new exchanges effect (λ vars values. refl) still held)
  worked_apart (Form-F.CreateTable table text) shapes of p new exchanges effect still held = absurd (not_made (Form-F.CreateTable table text) shapes of p new exchanges effect (λ vars values. refl) still held)
  worked_apart form shapes of p new exchanges effect still held = ([], computes_apart form shapes of p new exchanges effect still held)

  -- ---- CREATE TABLE

  -- what was taken back was not done
  back_apart : (mark : ℕ) (failure : Failure) (p new : SessionProgress) (exchanges : List Exchange) (put : Unit {0}) → Held (takes_back mark failure) p exchanges (Ok put) new → ⊥
  unfolding takes_back Held
  back_apart mark failure p new [] put held = held
  back_apart mark failure p new (x ∷ later) put held = by_reply x.reply held.2 held.3
    where
      by_reply : (reply : Reply) → CanReply (ops.BackTo mark) reply → Held (where_done (over (Err failure)) reply) (asked (ops.BackTo mark) reply p) later (Ok put) new → ⊥
      by_reply replies.Done can was = let no : Ok put ≡ Err failure = was.1 in absurd (cc)
      by_reply reply can was = absurd can

  -- the insertion was done, and nothing more was asked
  inserted_apart : (mark : ℕ) (name text : List ℕ) (p new : SessionProgress) (exchanges : List Exchange) (put : Unit {0}) → Held (asks (created name text) (inserted mark name)) p exchanges (Ok put) new
      → exchanges ≡ replied p.settings.manner (created name text) replies.Done ∷ []
  unfolding Held
  inserted_apart mark name text p new [] put held = absurd held
  inserted_apart mark name text p new (x ∷ later) put held = by_reply x.reply refl held.2 held.3
    where
      by_reply : (reply : Reply) → x.reply ≡ reply → CanReply (created name text) reply → Held (inserted mark name reply) (asked (created name text) reply p) later (Ok put) new → x ∷ later ≡ replied p.settings.manner (created name text) replies.Done ∷ []
      by_reply replies.Done told can was = ap (λ (y : Exchange). y ∷ later) (is_replied x p.settings.manner (created name text) replies.Done held.0 held.1 told) ∙ ap (λ (l : List Exchange). replied p.settings.manner (created name text) replies.Done ∷ l) was.0
      by_reply replies.Exists told can was = absurd (back_apart mark (if was.0 then naming object_present name else plain _) _ new later put was.1)
      by_reply replies.Memory told can was = absurd (back_apart mark _ _ new later put was)
      by_reply (replies.TimedOut holder lock wanted on) told can was = absurd (back_apart mark _ _ new later put was)
      by_reply (replies.Victim cycle) told can was = absurd (back_apart mark _ _ new later put was)
      by_reply reply told can was = absurd can

  put_apart : (name text : List ℕ) (p new : SessionProgress) (exchanges : List Exchange) (put : Unit {0}) → Held (asks ops.Mark (unless_refused (marked λ mark. asks (created name text) (inserted mark name)))) p exchanges (Ok put) new
      → (mark : ℕ) × (exchanges ≡ replied p.settings.manner ops.Mark (replies.Marked mark) ∷ replied p.settings.manner (created name text) replies.Done ∷ [])
  unfolding Held
  put_apart name text p new [] put held = absurd held
  put_apart name text p new (x ∷ later) put held = by_reply x.reply refl held.2 held.3
    where
      by_reply : (reply : Reply) → x.reply ≡ reply → CanReply ops.Mark reply → Held (unless_refused (marked λ mark. asks (created name text) (inserted mark name)) reply) (asked ops.Mark reply p) later (Ok put) new
          → (mark : ℕ) × (x ∷ later ≡ replied p.settings.manner ops.Mark (replies.Marked mark) ∷ replied p.settings.manner (created name text) replies.Done ∷ [])
      by_reply (replies.Marked mark) told can was = (
        mark,
        ap (λ (y : Exchange). y ∷ later) (is_replied x p.settings.manner ops.Mark (replies.Marked mark) held.0 held.1 told)
            ∙ ap (λ (l : List Exchange). replied p.settings.manner ops.Mark (replies.Marked mark) ∷ l) (inserted_apart mark name text (asked ops.Mark (replies.Marked mark) p) new later put was),
      )
      by_reply replies.Memory told can was = absurd (let no : Ok put ≡ Err _ = was.1 in cc)
      by_reply reply told can was = absurd can

  pub creates_apart : (name text : List ℕ) (p new : SessionProgress) (exchanges : List Exchange) (effect : Effect) → is_objects name ≡ false → Still p0 p → Held (creates name text) p exchanges (Ok effect) new
      → IsCreated around p0 name text (definition_put name text ∷ []) effect exchanges
  unfolding creates Held
  creates_apart name text p new exchanges effect another still held =
      let on = bind_apart (with_room (asks ops.Mark (unless_refused (marked λ mark. asks (created name text) (inserted mark name))))) (λ put. over (Ok no_effect)) p new exchanges effect held in
      let put = put_apart name text p on.3 on.0 on.2 (room_apart (asks ops.Mark (unless_refused (marked λ mark. asks (created name text) (inserted mark name)))) p on.3 on.0 on.2 on.5) in
      record {
        mark = put.0;
        parts = subst (λ (m : Manner). exchanges ≡ replied m ops.Mark (replies.Marked put.0) ∷ replied m (created name text) replies.Done ∷ []) (in_manner p still) (on.4 ∙ ap (λ (l : List Exchange). on.0 ++ l) on.6.0 ∙ append-nil on.0 ∙ put.1);
        another = another;
        plans = refl;
        tells = ok_same {E = Failure} effect no_effect on.6.1;
      }
