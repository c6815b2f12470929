-- What each statement has asked within its transaction, where it failed: it read, and what it wrote behind that is undone.
use Rattle.std.proofs.Common.{◌≡◌, ◌⊎◌, inl, inr, ℕ, Bool, true, false, if◌then◌else◌, List, [], ◌∷◌, ◌++◌, length, Option, None, Some, Result, Ok, Err, refl, sym, ap, ◌∙◌, subst, append-nil, append_assoc}
use Rattle.std.specs.Prelude.{nat_lt}
use Rattle.value_types.specs.Units.{same_units}
use Rattle.tsql_tree.specs.declared.definition.TableTree.{TableTree}
use Rattle.tsql_tree.specs.declared.statement.Form.{Form-F}
use Rattle.bound_tree.specs.declared.query.BoundQuery.{BoundQuery}
use Rattle.bound_tree.specs.declared.write.Bound.{Bound}
use Rattle.bound_tree.specs.declared.write.Bound.TheVariants as bound
use Rattle.binder.specs.Names.{Layer}
use Rattle.step_model.specs.declared.change.Planned.{Planned}
use Rattle.step_model.specs.declared.manner.Manner.{Manner}
use Rattle.step_model.specs.declared.op.Op.{Op}
use Rattle.step_model.specs.declared.op.Op.TheVariants as ops
use Rattle.step_model.specs.declared.reply.Reply.{Reply}
use Rattle.step_model.specs.declared.reply.Reply.TheVariants as replies
use Rattle.step_model.specs.Exchange.{Exchange, CanReply}
use Rattle.step_model.specs.Ranges.{no_memory}
use Rattle.dml_exec.specs.declared.refusal.Refusal.{Refusal}
use Rattle.dml_exec.specs.declared.written.Written.{Written as WriteEnd}
use Rattle.dml_exec.specs.declared.written.Written.TheVariants as written
use Rattle.dml_exec.specs.Writing.{attempts}
use Rattle.statement_paths.specs.Asked.{AskOnly, IsFetch}
use Rattle.batch_meaning.specs.declared.failure.Failure.{Failure}
use Rattle.batch_meaning.specs.Raised.{Around}
use Rattle.batch_meaning.specs.Changing.{created, object_present}
use Rattle.batch_meaning.specs.Failures.{plain, naming}
use Rattle.batch_meaning.specs.Selecting.{Effect, made_of, no_effect, not_bound_so, result_full, result_of}
use Rattle.batch_meaning.specs.Progress.{SessionProgress, assigns, touches, made, asked, asked_all, size_of}
use Rattle.batch_meaning.specs.Values.{Assigned, first_row, rows_assigned}
use Rattle.batch_meaning.specs.Doing.{Doing, over, reads, asks, ◌then◌, Held}
use Rattle.batch_meaning.specs.Asking.{fails, fails_naming, ◌>>=◌, with_room, comes_to, unless_refused, unless_broken, applies, assigns_all, takes_back, where_done, marked}
use Rattle.batch_meaning.specs.Tokens.{done_kind}
use Rattle.batch_meaning.specs.Working.{answers, assigns_rows, computes, if_it_fits, select_bound, selects, selects_into, values_bound, works_bound}
use Rattle.batch_meaning.specs.Writes.{creates, inserted}
use Rattle.statement_paths.specs.Paths.{replied, IsFailed, IsForward, IsUndone}
use Rattle.statement_paths.proofs.Only.{IsTouch, held_asks, only_bind, only_comes, only_if, only_naming}
use Rattle.statement_paths.proofs.Still.{Reads, Still, reads_still, still_then, still_manner}
use Rattle.statement_paths.proofs.Apart.{bind_failed, comes_apart, holds_apart}
use Rattle.statement_paths.proofs.Dialogs.{undone_apart, is_replied}
use Rattle.statement_paths.proofs.Working.{answers_read, values_read}

-- ---- what only reads

pub read_failed : (manner : Manner) (exchanges : List Exchange) → AskOnly IsFetch exchanges → IsFailed manner exchanges
read_failed manner exchanges fetches = record { read = exchanges; undone = []; parts = sym (append-nil exchanges); reads = fetches; undoes = inl refl }

pub undone_failed : (manner : Manner) (exchanges : List Exchange) → IsUndone manner exchanges → IsFailed manner exchanges
undone_failed manner exchanges undone = record { read = []; undone = exchanges; parts = refl; reads = tt; undoes = undone }

ask_append : (front back : List Exchange) → AskOnly IsFetch front → AskOnly IsFetch back → AskOnly IsFetch (front ++ back)
ask_append [] back one two = two
ask_append (x ∷ front) back one two = (one.0, ask_append front back one.1 two)

-- behind more reads
pub failed_more : (manner : Manner) (exchanges front back : List Exchange) → exchanges ≡ front ++ back → AskOnly IsFetch front → IsFailed manner back → IsFailed manner exchanges
failed_more manner exchanges front back parts fetches failed = record {
  read = front ++ failed.read;
  undone = failed.undone;
  parts = parts ∙ ap (λ (l : List Exchange). front ++ l) failed.parts ∙ sym (append_assoc front failed.read failed.undone);
  reads = ask_append front failed.read fetches failed.reads;
  undoes = failed.undoes;
}

pub reads_failed : {A : Type 0} (manner : Manner) (tree : Doing A) (p new : SessionProgress) (exchanges : List Exchange) (a : A) → Reads tree → Held tree p exchanges a new → IsFailed manner exchanges
reads_failed manner tree p new exchanges a fetches held = read_failed manner exchanges (held_asks IsTouch IsFetch tree p new exchanges a fetches held)

-- what was found has this name, or nothing was asked
pub named_failed : (manner : Manner) (number : ℕ) (own name : List ℕ) (tree : Doing (Result Effect Failure)) (p new : SessionProgress) (exchanges : List Exchange) (failure : Failure)
    → Held (if same_units own name then tree else fails_naming number name) p exchanges (Err failure) new → (Held tree p exchanges (Err failure) new → IsFailed manner exchanges) → IsFailed manner exchanges
named_failed manner number own name tree p new exchanges failure held on = by_test (same_units own name) held
  where
    by_test : (test : Bool) → Held (if test then tree else fails_naming number name) p exchanges (Err failure) new → IsFailed manner exchanges
    by_test true was = on was
    by_test false was = reads_failed manner (fails_naming {A = Effect} number name) p new exchanges (Err failure) (only_naming IsTouch IsFetch Effect number name) was

module _ (p0 : SessionProgress) where
  -- ---- one part behind another

  pub bind_or : {A B Goal : Type 0} (tree : Doing (Result A Failure)) (go : A → Doing (Result B Failure)) (p new : SessionProgress) (exchanges : List Exchange) (failure : Failure) → Reads tree → Still p0 p → Held (tree >>= go) p exchanges (Err failure) new
      → (AskOnly IsFetch exchanges → Goal)
      → ((front back : List Exchange) (a : A) (mid : SessionProgress) → exchanges ≡ front ++ back → Held tree p front (Ok a) mid → AskOnly IsFetch front → Still p0 mid → Held (go a) mid back (Err failure) new → Goal) → Goal
  bind_or {A = A} {B = B} {Goal = Goal} tree go p new exchanges failure fetches still held here on = by_failed (bind_failed tree go p new exchanges failure held)
    where
      by_failed : Held tree p exchanges (Err failure) new ⊎ ((front back : List Exchange) × (a : A) × (mid : SessionProgress) × (exchanges ≡ front ++ back) × Held tree p front (Ok a) mid × Held (go a) mid back (Err failure) new) → Goal
      by_failed (inl first) = here (held_asks IsTouch IsFetch tree p new exchanges (Err failure) fetches first)
      by_failed (inr was) = on was.0 was.1 was.2 was.3 was.4 was.5 (held_asks IsTouch IsFetch tree p was.3 was.0 (Ok was.2) fetches was.5) (still_then p0 p was.3 still (reads_still p tree was.3 was.0 (Ok was.2) fetches was.5)) was.6

  -- behind a result that is there at once
  pub comes_or : {A B Goal : Type 0} (result : Result A Failure) (go : A → Doing (Result B Failure)) (p new : SessionProgress) (exchanges : List Exchange) (failure : Failure) → Held (comes_to result >>= go) p exchanges (Err failure) new
      → (AskOnly IsFetch exchanges → Goal) → ((a : A) → result ≡ Ok a → Held (go a) p exchanges (Err failure) new → Goal) → Goal
  comes_or {A = A} {B = B} {Goal = Goal} result go p new exchanges failure held here on = by_failed (bind_failed (comes_to result) go p new exchanges failure held)
    where
      by_failed : Held (comes_to result) p exchanges (Err failure) new ⊎ ((front back : List Exchange) × (a : A) × (mid : SessionProgress) × (exchanges ≡ front ++ back) × Held (comes_to result) p front (Ok a) mid × Held (go a) mid back (Err failure) new) → Goal
      by_failed (inl first) = here (held_asks IsTouch IsFetch (comes_to result) p new exchanges (Err failure) (only_comes IsTouch IsFetch result) first)
      by_failed (inr was) =
          let came = comes_apart result p was.3 was.0 was.2 was.5 in
          on was.2 came.1 (subst (λ (q : SessionProgress). Held (go was.2) q exchanges (Err failure) new) came.2 (subst (λ (l : List Exchange). Held (go was.2) was.3 l (Err failure) new) (sym (was.4 ∙ ap (λ (l : List Exchange). l ++ was.1) came.0)) was.6))

  pub room_failed : {A Goal : Type 0} (tree : Doing (Result A Failure)) (p new : SessionProgress) (exchanges : List Exchange) (failure : Failure) → Held (with_room tree) p exchanges (Err failure) new → (exchanges ≡ [] → Goal) → (Held tree p exchanges (Err failure) new → Goal) → Goal
  unfolding Held
  room_failed {A = A} {Goal = Goal} tree p new exchanges failure held none on = by_enough held.0 held.1
    where
      by_enough : (enough : Bool) → Held (if enough then tree else fails no_memory) p exchanges (Err failure) new → Goal
      by_enough true was = on was
      by_enough false was = none was.0

  in_manner : (p : SessionProgress) → Still p0 p → p.settings.manner ≡ p0.settings.manner
  in_manner p still = still_manner p0 p still

  -- ---- changes

  pub applies_failed : (shapes : List TableTree) (planned : List Planned) (p new : SessionProgress) (exchanges : List Exchange) (failure : Failure) → Still p0 p → Held (applies shapes planned) p exchanges (Err failure) new → IsFailed p0.settings.manner exchanges
  unfolding applies Held
  applies_failed shapes planned p new exchanges failure still held =
      let on = holds_apart (attempts shapes planned) (λ attempt. unless_broken attempt.came) p new exchanges (Err failure) held in
      subst (λ (m : Manner). IsFailed m exchanges) (in_manner p still)
      (subst (IsFailed p.settings.manner) (sym (on.parts ∙ ap (λ (l : List Exchange). on.front ++ l) (none on.back on.came.came (asked_all on.front (made touches p)) on.rest) ∙ append-nil on.front))
      (undone_apart p.settings.manner shapes planned on.front on.came on.held (λ mark is. never_fails mark on.back on.came.came (asked_all on.front (made touches p)) is on.rest)))
    where
      never_fails : (mark : ℕ) (back : List Exchange) (came : Result WriteEnd Refusal) (mid : SessionProgress) → came ≡ Ok (written.Done mark) → Held (unless_broken came) mid back (Err failure) new → ⊥
      never_fails mark back came mid is rest = let no : Err failure ≡ Ok mark = (subst (λ (c : Result WriteEnd Refusal). Held (unless_broken c) mid back (Err failure) new) is rest).1 in absurd (cc)

      none : (back : List Exchange) (came : Result WriteEnd Refusal) (mid : SessionProgress) → Held (unless_broken came) mid back (Err failure) new → back ≡ []
      none back (Ok (written.Done mark)) mid rest = rest.0
      none back (Ok (written.Refused number name)) mid rest = rest.0
      none back (Err why) mid rest = rest.0

  -- ---- CREATE

  back_failed : (mark : ℕ) (why : Failure) (p new : SessionProgress) (exchanges : List Exchange) (failure : Failure) → Held (takes_back mark why) p exchanges (Err failure) new → exchanges ≡ replied p.settings.manner (ops.BackTo mark) replies.Done ∷ []
  unfolding takes_back Held
  back_failed mark why p new [] failure held = absurd held
  back_failed mark why p new (x ∷ later) failure held = by_reply x.reply refl held.2 held.3
    where
      by_reply : (reply : Reply) → x.reply ≡ reply → CanReply (ops.BackTo mark) reply → Held {A = Result (Unit {0}) Failure} (where_done (over (Err why)) reply) (asked (ops.BackTo mark) reply p) later (Err failure) new → x ∷ later ≡ replied p.settings.manner (ops.BackTo mark) replies.Done ∷ []
      by_reply replies.Done told can was = ap (λ (y : Exchange). y ∷ later) (is_replied x p.settings.manner (ops.BackTo mark) replies.Done held.0 held.1 told) ∙ ap (λ (l : List Exchange). replied p.settings.manner (ops.BackTo mark) replies.Done ∷ l) was.0
      by_reply reply told can was = absurd can

  inserted_failed : (mark : ℕ) (name text : List ℕ) (p new : SessionProgress) (exchanges : List Exchange) (failure : Failure) → Held (asks (created name text) (inserted mark name)) p exchanges (Err failure) new
      → (between : List Exchange) × (exchanges ≡ between ++ replied p.settings.manner (ops.BackTo mark) replies.Done ∷ []) × AskOnly IsForward between
  unfolding Held
  inserted_failed mark name text p new [] failure held = absurd held
  inserted_failed mark name text p new (x ∷ later) failure held = by_reply x.reply refl held.2 held.3
    where
      forward : CanReply (created name text) x.reply → AskOnly IsForward (x ∷ [])
      forward can = ((subst IsForward (sym held.0) tt, subst (λ (o : Op). CanReply o x.reply) (sym held.0) can), tt)

      by_reply : (reply : Reply) → x.reply ≡ reply → CanReply (created name text) reply → Held (inserted mark name reply) (asked (created name text) reply p) later (Err failure) new
          → (between : List Exchange) × (x ∷ later ≡ between ++ replied p.settings.manner (ops.BackTo mark) replies.Done ∷ []) × AskOnly IsForward between
      by_reply replies.Done told can was = absurd (let no : Err failure ≡ Ok tt = was.1 in cc)
      by_reply replies.Exists told can was = (x ∷ [], ap (λ (l : List Exchange). x ∷ l) (back_failed mark (if was.0 then naming object_present name else plain _) _ new later failure was.1), forward held.2)
      by_reply replies.Memory told can was = (x ∷ [], ap (λ (l : List Exchange). x ∷ l) (back_failed mark _ _ new later failure was), forward held.2)
      by_reply (replies.TimedOut holder lock wanted on) told can was = (x ∷ [], ap (λ (l : List Exchange). x ∷ l) (back_failed mark _ _ new later failure was), forward held.2)
      by_reply (replies.Victim cycle) told can was = (x ∷ [], ap (λ (l : List Exchange). x ∷ l) (back_failed mark _ _ new later failure was), forward held.2)
      by_reply reply told can was = absurd can

  put_failed : (name text : List ℕ) (p new : SessionProgress) (exchanges : List Exchange) (failure : Failure) → Held (asks ops.Mark (unless_refused (marked λ mark. asks (created name text) (inserted mark name)))) p exchanges (Err failure) new → IsUndone p.settings.manner exchanges
  unfolding Held
  put_failed name text p new [] failure held = absurd held
  put_failed name text p new (x ∷ later) failure held = by_reply x.reply refl held.2 held.3
    where
      by_reply : (reply : Reply) → x.reply ≡ reply → CanReply ops.Mark reply → Held (unless_refused (marked λ mark. asks (created name text) (inserted mark name)) reply) (asked ops.Mark reply p) later (Err failure) new → IsUndone p.settings.manner (x ∷ later)
      by_reply (replies.Marked mark) told can was =
          let on = inserted_failed mark name text (asked ops.Mark (replies.Marked mark) p) new later failure was in
          inr (inr (record {
            mark = mark;
            between = on.0;
            parts = ap (λ (y : Exchange). y ∷ later) (is_replied x p.settings.manner ops.Mark (replies.Marked mark) held.0 held.1 told) ∙ ap (λ (l : List Exchange). replied p.settings.manner ops.Mark (replies.Marked mark) ∷ l) on.1;
            forward = on.2;
          }))
      by_reply replies.Memory told can was = inr (inl (ap (λ (y : Exchange). y ∷ later) (is_replied x p.settings.manner ops.Mark replies.Memory held.0 held.1 told) ∙ ap (λ (l : List Exchange). replied p.settings.manner ops.Mark replies.Memory ∷ l) was.0))
      by_reply reply told can was = absurd can

  pub creates_failed : (name text : List ℕ) (p new : SessionProgress) (exchanges : List Exchange) (failure : Failure) → Still p0 p → Held (creates name text) p exchanges (Err failure) new → IsFailed p0.settings.manner exchanges
  unfolding creates Held
  creates_failed name text p new exchanges failure still held = by_failed (bind_failed (with_room put) (λ done. over (Ok no_effect)) p new exchanges failure held)
    where
      put : Doing (Result (Unit {0}) Failure)
      put = asks ops.Mark (unless_refused (marked λ mark. asks (created name text) (inserted mark name)))

      by_failed : Held (with_room put) p exchanges (Err failure) new ⊎ ((front back : List Exchange) × (a : Unit {0}) × (mid : SessionProgress) × (exchanges ≡ front ++ back) × Held (with_room put) p front (Ok a) mid × Held {A = Result Effect Failure} (over (Ok no_effect)) mid back (Err failure) new)
          → IsFailed p0.settings.manner exchanges
      by_failed (inl first) = room_failed put p new exchanges failure first (λ none. undone_failed p0.settings.manner exchanges (inl none))
          (λ was. undone_failed p0.settings.manner exchanges (subst (λ (m : Manner). IsUndone m exchanges) (in_manner p still) (put_failed name text p new exchanges failure was)))
      by_failed (inr was) = absurd (let no : Err failure ≡ Ok no_effect = was.6.1 in cc)

-- ---- each statement

module _ (around : Around) (p0 : SessionProgress) where
  abbrev manner : Manner
  manner = p0.settings.manner

  sets_none : (why : Failure) (sets : List Assigned) (p new : SessionProgress) (exchanges : List Exchange) (failure : Failure) → Held {A = Result Effect Failure} (assigns_all sets (over (Err why))) p exchanges (Err failure) new → exchanges ≡ []
  unfolding assigns_all Held
  sets_none why [] p new exchanges failure held = held.0
  sets_none why (one ∷ sets) p new exchanges failure held = sets_none why sets (made (assigns one.0 one.1) p) new exchanges failure held

  rows_none : (count : ℕ) (came : List Assigned × Option Failure) (p new : SessionProgress) (exchanges : List Exchange) (failure : Failure) → Held (assigns_rows count came) p exchanges (Err failure) new → exchanges ≡ []
  unfolding Held
  rows_none count (sets, None) p new exchanges failure held = held.0
  rows_none count (sets, Some why) p new exchanges failure held = sets_none why sets p new exchanges failure held

  pub fits_read : (effect : Effect) → Reads (if_it_fits effect)
  unfolding if_it_fits
  fits_read effect = λ p. only_if IsTouch IsFetch (nat_lt p.bytes_left (size_of effect.tokens)) (fails result_full) (over (Ok effect)) tt tt

  pub selects_read : (shapes : List TableTree) (query : BoundQuery) → Reads (selects around shapes query)
  unfolding selects
  selects_read shapes query = only_bind IsTouch IsFetch (answers around shapes query) _ (answers_read around p0 shapes query)
      (λ rows. only_bind IsTouch IsFetch (reads λ p. comes_to (result_of (done_kind around) p.settings.no_count query rows)) if_it_fits (λ p. only_comes IsTouch IsFetch (result_of (done_kind around) p.settings.no_count query rows)) fits_read)

  pub computes_read : (form : Layer) (shapes : List TableTree) (of : Bound) → Reads (computes around form shapes of)
  unfolding computes
  computes_read form shapes of = only_bind IsTouch IsFetch (values_bound around shapes of) _ (values_read around p0 shapes of) (λ rows p. only_comes IsTouch IsFetch (made_of form p.vars (first_row rows)))

  selects_failed : (shapes : List TableTree) (query : BoundQuery) (p new : SessionProgress) (exchanges : List Exchange) (failure : Failure) → Held (selects around shapes query) p exchanges (Err failure) new → IsFailed manner exchanges
  selects_failed shapes query p new exchanges failure held = reads_failed manner (selects around shapes query) p new exchanges (Err failure) (selects_read shapes query) held

  into_failed : (shapes : List TableTree) (query : BoundQuery) (places : List ℕ) (p new : SessionProgress) (exchanges : List Exchange) (failure : Failure) → Still p0 p → Held (selects_into around shapes query places) p exchanges (Err failure) new → IsFailed manner exchanges
  unfolding selects_into Held
  into_failed shapes query places p new exchanges failure still held =
      bind_or p0 (answers around shapes query) _ p new exchanges failure (answers_read around p0 shapes query) still held (λ fetches. read_failed manner exchanges fetches) (λ front back rows mid parts answered fetches same rest.
      failed_more manner exchanges front back parts fetches (read_failed manner back (subst (AskOnly IsFetch) (sym (room_failed p0 (assigns_rows (length rows) (rows_assigned mid.vars places [] rows)) mid new back failure rest (λ none. none)
      (λ was. rows_none (length rows) (rows_assigned mid.vars places [] rows) mid new back failure was))) tt)))

  select_failed : (shapes : List TableTree) (of : Bound) (p new : SessionProgress) (exchanges : List Exchange) (failure : Failure) → Still p0 p → Held (select_bound around shapes of) p exchanges (Err failure) new → IsFailed manner exchanges
  select_failed shapes (bound.Query query) p new exchanges failure still held = selects_failed shapes query p new exchanges failure held
  select_failed shapes (bound.Assign query places) p new exchanges failure still held = into_failed shapes query places p new exchanges failure still held
  select_failed shapes bound.Plain p new exchanges failure still held = reads_failed manner (fails {A = Effect} not_bound_so) p new exchanges (Err failure) tt held
  select_failed shapes (bound.Write write) p new exchanges failure still held = reads_failed manner (fails {A = Effect} not_bound_so) p new exchanges (Err failure) tt held

  computes_failed : (form : Layer) (shapes : List TableTree) (of : Bound) (p new : SessionProgress) (exchanges : List Exchange) (failure : Failure) → Held (computes around form shapes of) p exchanges (Err failure) new → IsFailed manner exchanges
  computes_failed form shapes of p new exchanges failure held = reads_failed manner (computes around form shapes of) p new exchanges (Err failure) (computes_read form shapes of) held

  -- ---- by its form

  pub worked_failed : (form : Layer) (shapes : List TableTree) (of : Bound) (p new : SessionProgress) (exchanges : List Exchange) (failure : Failure) → Still p0 p → Held (works_bound around form shapes of) p exchanges (Err failure) new
      → IsFailed manner exchanges
  worked_failed (Form-F.Select select) shapes of p new exchanges failure still held = (select_failed shapes of p new exchanges failure still held)
  worked_failed form shapes of p new exchanges failure still held = (computes_failed form shapes of p new exchanges failure held)
