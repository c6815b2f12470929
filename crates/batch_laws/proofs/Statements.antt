-- What a statement that is done with its effect leaves of its transaction.
use Rattle.std.proofs.Common.{◌≡◌, inl, inr, ℕ, Bool, true, false, if◌then◌else◌, List, [], ◌∷◌, ◌++◌, length, Option, None, Some, Result, Ok, Err, refl, sym, ap, ◌∙◌, subst, append-nil}
use Rattle.tsql_tree.specs.declared.definition.TableTree.{TableTree}
use Rattle.tsql_tree.specs.declared.statement.DropKind.{DropKind}
use Rattle.tsql_tree.specs.declared.statement.Form.{Form-F}
use Rattle.tsql_tree.specs.declared.statement.Statement.{Statement}
use Rattle.bound_tree.specs.declared.query.BoundQuery.{BoundQuery}
use Rattle.bound_tree.specs.declared.write.Bound.{Bound}
use Rattle.bound_tree.specs.declared.write.Bound.TheVariants as bound
use Rattle.binder.specs.Names.{Layer, form_of, looked_up}
use Rattle.step_model.specs.declared.change.Planned.{Planned}
use Rattle.step_model.specs.declared.manner.Manner.{Manner}
use Rattle.step_model.specs.declared.op.Op.TheVariants as ops
use Rattle.step_model.specs.declared.reply.Reply.TheVariants as replies
use Rattle.step_model.specs.Exchange.{Exchange}
use Rattle.step_model.specs.Fits.{commit_of, commits_from}
use Rattle.step_model.specs.Net.{Net}
use Rattle.step_model.specs.Own.{Progress as Stand, none_open, progress_from}
use Rattle.step_model.specs.Ranges.{no_memory}
use Rattle.statement_paths.specs.Asked.{AskOnly, IsFetch}
use Rattle.write_laws.proofs.Parts.{from_both}
use Rattle.batch_meaning.specs.declared.failure.Failure.{Failure}
use Rattle.batch_meaning.specs.declared.home.Home.TheVariants.{Nowhere}
use Rattle.batch_meaning.specs.Asking.{assigns_all, fails}
use Rattle.batch_meaning.specs.Doing.{Doing, over, ◌then◌, Held}
use Rattle.batch_meaning.specs.Progress.{SessionProgress, SessionStep, touches}
use Rattle.batch_meaning.specs.Raised.{Around, Fired}
use Rattle.batch_meaning.specs.Selecting.{Effect}
use Rattle.batch_meaning.specs.Values.{Assigned, rows_assigned}
use Rattle.batch_meaning.specs.Working.{answers, asks_any, assigns_rows, binds, computes, enters, is_of_trigger, known_by, known_in, leaves, own, prepares, select_bound, selects, selects_into, within, works, works_bound}
use Rattle.batch_meaning.specs.Writes.{drops}
use Rattle.statement_paths.specs.Paths.{replied, end_of, HasDone, HasFailed, HasFailedIn, HasPutFailed, IsAround, IsRelaxed, asks_for, asks_of, work_for, work_of}
use Rattle.statement_paths.proofs.Only.{IsTouch, Only, held_asks, only_bind, only_mono, only_room}
use Rattle.statement_paths.proofs.Still.{Reads}
use Rattle.statement_paths.proofs.Apart.{held_apart}
use Rattle.statement_paths.proofs.Working.{answers_read}
use Rattle.statement_paths.proofs.Failing.{computes_read, selects_read}
use Rattle.statement_paths.proofs.Works.{IsWorkStep, prepares_reads}
use Rattle.statement_paths.proofs.Owned.{behind}
use Rattle.statement_paths.proofs.Unasked.{NotKnown, drops_silent}
use Rattle.statement_paths.proofs.Laws.{work_done, work_failed}
use Rattle.batch_laws.specs.Committing.{Agrees, Leaves}
use Rattle.batch_laws.specs.Laws.{FailureLeaves, WorkLeaves}
use Rattle.batch_laws.proofs.Leaving.{Wrote, commits_both, fetch_stand, wrote_both, wrote_done, wrote_failed, wrote_fetches, wrote_relaxed}

-- ---- around the work

-- its own transaction, to its end
own_leaves : (manner : Manner) (succeeded : Bool) (exchanges worked relaxed : List Exchange) (place : ℕ) (more : List Planned) → exchanges ≡ (replied manner ops.Begin replies.Began ∷ (worked ++ relaxed)) ++ replied manner (end_of succeeded) (replies.Ended place) ∷ []
    → IsRelaxed manner relaxed → ((stand : Stand) → Wrote stand worked more) → (progress_from none_open exchanges ≡ none_open) × (commits_from none_open exchanges ≡ (if succeeded then commit_of (Net more) else []))
own_leaves manner succeeded exchanges worked relaxed place more parts relaxes wrote =
    let begun : Stand = record { is_open = true; own = []; marks = [] } in
    let last : Exchange = replied manner (end_of succeeded) (replies.Ended place) in
    let both = wrote_both begun (worked ++ relaxed) worked relaxed more [] refl (wrote begun) (wrote_relaxed (progress_from begun worked) manner relaxed relaxes) in
    let own : (progress_from begun (worked ++ relaxed)).own ≡ more = both.own ∙ append-nil more in (
      ap (progress_from none_open) parts ∙ from_both begun (worked ++ relaxed) (last ∷ []),
      ap (commits_from none_open) parts ∙ commits_both begun (worked ++ relaxed) (last ∷ []) ∙ ap (λ (l : List _). l ++ commits_from (progress_from begun (worked ++ relaxed)) (last ∷ [])) both.commits ∙ by_end succeeded (progress_from begun (worked ++ relaxed)) own,
    )
  where
    by_end : (succeeded : Bool) (stand : Stand) → stand.own ≡ more → commits_from stand (replied manner (end_of succeeded) (replies.Ended place) ∷ []) ≡ (if succeeded then commit_of (Net more) else [])
    by_end true stand own = append-nil (commit_of (Net stand.own)) ∙ ap (λ (l : List Planned). commit_of (Net l)) own
    by_end false stand own = refl

open_leaves : (before : Stand) (manner : Manner) (exchanges worked relaxed : List Exchange) (more : List Planned) → before.is_open ≡ true → exchanges ≡ worked ++ relaxed → IsRelaxed manner relaxed → ((stand : Stand) → Wrote stand worked more) → Leaves true true before exchanges more
open_leaves before manner exchanges worked relaxed more agrees parts relaxes wrote =
    let both = wrote_both before exchanges worked relaxed more [] parts (wrote before) (wrote_relaxed (progress_from before worked) manner relaxed relaxes) in
    (both.is_open ∙ agrees, both.own ∙ ap (λ (l : List Planned). before.own ++ l) (append-nil more), both.commits)

-- where nothing is asked nothing is changed
pub none_leaves : (is_open : Bool) (before : Stand) (exchanges : List Exchange) → Agrees is_open before → exchanges ≡ [] → Leaves is_open is_open before exchanges []
none_leaves true before exchanges agrees none = subst (λ (l : List Exchange). Leaves true true before l []) (sym none) (agrees, sym (append-nil before.own), refl)
none_leaves false before exchanges agrees none = subst (λ (l : List Exchange). Leaves false false before l []) (sym none) (agrees, refl)

-- where none could be begun
pub begin_refused : (manner : Manner) (before : Stand) (exchanges : List Exchange) (is_open : Bool) → Agrees is_open before → exchanges ≡ replied manner ops.Begin replies.Memory ∷ [] → Leaves is_open is_open before exchanges []
begin_refused manner before exchanges true agree is = subst (λ (l : List Exchange). Leaves true true before l []) (sym is) (agree, refl, refl)
begin_refused manner before exchanges false agree is = subst (λ (l : List Exchange). Leaves false false before l []) (sym is) (subst (λ (s : Stand). Leaves false false s (replied manner ops.Begin replies.Memory ∷ []) []) (sym agree) (refl, refl))

module _ (before : Stand) (manner : Manner) (exchanges worked : List Exchange) (more : List Planned) (wrote : (stand : Stand) → Wrote stand worked more) where
  pub done_leaves : (is_open : Bool) → Agrees is_open before → IsAround true is_open true manner worked exchanges → Leaves is_open is_open before exchanges more
  done_leaves true agrees here = open_leaves before manner exchanges worked here.0 more agrees here.1 here.2 wrote
  done_leaves false agrees here =
      let is = own_leaves manner true exchanges worked here.0 here.1 more here.2 here.3 wrote in
      subst (λ (s : Stand). Leaves false false s exchanges more) (sym agrees) (is.0, is.1)

  pub fails_leave : (is_open : Bool) → Agrees is_open before → more ≡ [] → IsAround true is_open false manner worked exchanges → Leaves is_open is_open before exchanges []
  fails_leave true agrees none here = subst (λ (l : List Planned). Leaves true true before exchanges l) none (open_leaves before manner exchanges worked here.0 more agrees here.1 here.2 wrote)
  fails_leave false agrees none here =
      let is = own_leaves manner false exchanges worked here.0 here.1 more here.2 here.3 wrote in subst (λ (s : Stand). Leaves false false s exchanges []) (sym agrees) (is.0, is.1)

-- what only fetches leaves its transaction as it was
pub fetched_leaves : (before : Stand) (manner : Manner) (asks_some succeeded is_open : Bool) → Agrees is_open before → (exchanges worked : List Exchange) → AskOnly IsFetch worked → IsAround asks_some is_open succeeded manner worked exchanges
    → Leaves is_open is_open before exchanges []
fetched_leaves before manner false succeeded true agree exchanges worked fetches here =
    let is = fetch_stand worked before fetches in
    subst (λ (l : List Exchange). Leaves true true before l []) (sym here) (ap (λ (s : Stand). s.is_open) is.0 ∙ agree, ap (λ (s : Stand). s.own) is.0 ∙ sym (append-nil before.own), is.1)
fetched_leaves before manner false succeeded false agree exchanges worked fetches here =
    let is = fetch_stand worked before fetches in
    subst (λ (l : List Exchange). Leaves false false before l []) (sym here) (is.0 ∙ agree, is.1)
fetched_leaves before manner true true is_open agree exchanges worked fetches here = done_leaves before manner exchanges worked [] (λ stand. wrote_fetches stand worked fetches) is_open agree here
fetched_leaves before manner true false is_open agree exchanges worked fetches here = fails_leave before manner exchanges worked [] (λ stand. wrote_fetches stand worked fetches) is_open agree refl here

-- ---- where nothing is asked

-- a DROP of what a trigger sees finds nothing
drop_unknown : (fired : Option Fired) (kind : DropKind) (name : List ℕ) → NotKnown (known_in fired (Form-F.Drop kind name) name)
drop_unknown None kind name = inl refl
drop_unknown (Some fired) kind name = by_test (is_of_trigger name)
  where
    by_test : (test : Bool) → NotKnown (if test then Some None else None)
    by_test true = inr refl
    by_test false = inl refl

drop_unasked : (around : Around) (statement : Statement) (kind : DropKind) (name : List ℕ) (p new : SessionProgress) (exchanges : List Exchange) (came : Result Effect Failure) → form_of statement ≡ Form-F.Drop kind name → asks_any (known_by around statement) (name ∷ []) ≡ false
    → Held (drops around statement kind name) p exchanges came new → AskOnly IsFetch exchanges
drop_unasked around statement kind name p new exchanges came is none held =
    subst (AskOnly IsFetch) (sym (drops_silent around statement kind name (subst (λ (form : Layer). NotKnown (known_in around.fired form name)) (sym is) (drop_unknown around.fired kind name)) none p new exchanges came held)) tt

module _ (around : Around) (p0 : SessionProgress) (statement : Statement) where
  abbrev asks_some : Bool
  asks_some = asks_any (known_by around statement) (looked_up statement)

  -- a step of a statement that is done with its effect, and no operation but fetches
  abbrev Fetches : {A : Type 0} → Doing A → Type 0
  Fetches tree = Only IsWorkStep IsFetch tree

  reads_fetch : {A : Type 0} (tree : Doing A) → Reads tree → Fetches tree
  reads_fetch tree reads = only_mono IsTouch IsWorkStep IsFetch IsFetch by_step (λ op is. is) tree reads
    where
      by_step : (step : SessionStep) → IsTouch step → IsWorkStep step
      by_step touches is = tt
      by_step step is = absurd is

  sets_fetch : {A : Type 0} (sets : List Assigned) (next : Doing A) → Fetches next → Fetches (assigns_all sets next)
  unfolding assigns_all
  sets_fetch [] next more = more
  sets_fetch (one ∷ sets) next more = (tt, sets_fetch sets next more)

  rows_fetch : (count : ℕ) (came : List Assigned × Option Failure) → Fetches (assigns_rows count came)
  rows_fetch count (sets, None) = tt
  rows_fetch count (sets, Some failure) = sets_fetch sets (over (Err failure)) tt

  into_fetch : (shapes : List TableTree) (query : BoundQuery) (places : List ℕ) → Fetches (selects_into around shapes query places)
  unfolding selects_into
  into_fetch shapes query places = only_bind IsWorkStep IsFetch (answers around shapes query) _ (reads_fetch (answers around shapes query) (answers_read around p0 shapes query))
      (λ rows p. only_room IsWorkStep IsFetch (assigns_rows (length rows) (rows_assigned p.vars places [] rows)) (rows_fetch (length rows) (rows_assigned p.vars places [] rows)))

  select_fetch : (shapes : List TableTree) (of : Bound) → Fetches (select_bound around shapes of)
  select_fetch shapes (bound.Query query) = reads_fetch (selects around shapes query) (selects_read around p0 shapes query)
  select_fetch shapes (bound.Assign query places) = into_fetch shapes query places
  select_fetch shapes bound.Plain = tt
  select_fetch shapes (bound.Write write) = tt

  worked_fetch : (form : Layer) (shapes : List TableTree) (of : Bound) → Fetches (works_bound around form shapes of)
  worked_fetch (Form-F.Select select) shapes of = select_fetch shapes of
  worked_fetch form shapes of = reads_fetch (computes around form shapes of) (computes_read around p0 form shapes of)

  work_fetch : Fetches (binds around statement (works_bound around (form_of statement)))
  unfolding binds
  work_fetch = only_bind IsWorkStep IsFetch (prepares around statement) _ (reads_fetch (prepares around statement) (prepares_reads around statement)) (λ made. worked_fetch (form_of statement) made.0 made.1)

  module _ (p new : SessionProgress) (exchanges : List Exchange) (came : Result Effect Failure) where
    -- a statement that only reads
    works_unasked : asks_some ≡ false → Held (works around statement) p exchanges came new → AskOnly IsFetch exchanges
    unfolding works within own enters leaves ◌then◌ Held
    works_unasked none held = by_room held.0 held.1
      where
        by_own : (test : Bool) → test ≡ false → Held (own test (binds around statement (works_bound around (form_of statement)))) p exchanges came new → AskOnly IsFetch exchanges
        by_own true is was = absurd (let no : true ≡ false = is in cc)
        by_own false is was =
            let on = held_apart (binds around statement (works_bound around (form_of statement))) (behind Nowhere) p new exchanges came was in
            subst (AskOnly IsFetch) (sym (on.parts ∙ ap (λ (l : List Exchange). on.front ++ l) on.rest.0 ∙ append-nil on.front)) (held_asks IsWorkStep IsFetch (binds around statement (works_bound around (form_of statement))) p on.mid on.front on.came work_fetch on.held)

        by_room : (enough : Bool) → Held (if enough then own asks_some (binds around statement (works_bound around (form_of statement))) else fails no_memory) p exchanges came new → AskOnly IsFetch exchanges
        by_room true was = by_own asks_some none was
        by_room false was = subst (AskOnly IsFetch) (sym was.0) tt

    -- by its form
    form_unasked : (form : Layer) → form_of statement ≡ form → asks_for around statement form ≡ false → Held (work_for around statement form) p exchanges came new → AskOnly IsFetch exchanges
    form_unasked (Form-F.CreateTable table text) is none held = absurd (let no : true ≡ false = none in cc)
    form_unasked (Form-F.Drop kind name) is none held = drop_unasked around statement kind name p new exchanges came is none held
    form_unasked form is none held = works_unasked none held

pub unasked_fetches : (around : Around) (statement : Statement) (p new : SessionProgress) (exchanges : List Exchange) (came : Result Effect Failure) → asks_of around statement ≡ false → Held (work_of around statement) p exchanges came new → AskOnly IsFetch exchanges
unasked_fetches around statement p new exchanges came none held = form_unasked around p statement p new exchanges came (form_of statement) refl none held

-- ---- the whole

-- work that was done, with these changes
pub work_leaves_as : (before : Stand) (manner : Manner) (asks_some is_open : Bool) → Agrees is_open before → (exchanges worked : List Exchange) (planned : List Planned) → ((stand : Stand) → Wrote stand worked planned) → (asks_some ≡ false → AskOnly IsFetch exchanges)
    → IsAround asks_some is_open true manner worked exchanges → Leaves is_open is_open before exchanges planned
work_leaves_as before manner true is_open agrees exchanges worked planned wrote fetches here = done_leaves before manner exchanges worked planned wrote is_open agrees here
work_leaves_as before manner false is_open agrees exchanges worked planned wrote fetches here =
    let only : AskOnly IsFetch worked = subst (AskOnly IsFetch) here (fetches refl) in
    let nothing : planned ≡ [] = sym (wrote none_open).own ∙ ap (λ (s : Stand). s.own) (fetch_stand worked none_open only).0 in
    subst (Leaves is_open is_open before exchanges) (sym nothing) (fetched_leaves before manner false true is_open agrees exchanges worked only here)

-- work that failed
pub work_fails_as : (p : SessionProgress) (before : Stand) (asks_some : Bool) → Agrees p.is_open before → (exchanges : List Exchange) → (asks_some ≡ false → AskOnly IsFetch exchanges) → HasFailedIn asks_some p exchanges → Leaves p.is_open p.is_open before exchanges []
work_fails_as p before false agrees exchanges fetches failed = fetched_leaves before p.settings.manner false false p.is_open agrees exchanges exchanges (fetches refl) refl
work_fails_as p before true agrees exchanges fetches (inl nothing) = none_leaves p.is_open before exchanges agrees nothing
work_fails_as p before true agrees exchanges fetches (inr (inl refused)) = begin_refused p.settings.manner before exchanges p.is_open agrees refused
work_fails_as p before true agrees exchanges fetches (inr (inr (worked, f, here))) = fails_leave before p.settings.manner exchanges worked [] (λ stand. wrote_failed stand p.settings.manner worked f) p.is_open agrees refl here

-- the same of a definition, which always asks for a transaction
pub work_leaves_put : (before : Stand) (manner : Manner) (is_open : Bool) → Agrees is_open before → (exchanges worked : List Exchange) (planned : List Planned) → ((stand : Stand) → Wrote stand worked planned) → IsAround true is_open true manner worked exchanges → Leaves is_open is_open before exchanges planned
work_leaves_put before manner is_open agrees exchanges worked planned wrote here = done_leaves before manner exchanges worked planned wrote is_open agrees here

pub work_fails_put : (p : SessionProgress) (before : Stand) → Agrees p.is_open before → (exchanges : List Exchange) → HasPutFailed p exchanges → Leaves p.is_open p.is_open before exchanges []
work_fails_put p before agrees exchanges failed = work_fails_as p before true agrees exchanges (λ is. absurd (let no : true ≡ false = is in cc)) failed

module _ (around : Around) (statement : Statement) (old new : SessionProgress) (exchanges : List Exchange) (before : Stand) (agrees : Agrees old.is_open before) where
  pub ok_leaves : (effect : Effect) → Held (work_of around statement) old exchanges (Ok effect) new → (planned : List Planned) × HasDone around old statement planned effect exchanges × Leaves old.is_open old.is_open before exchanges planned
  ok_leaves effect held =
      let done = work_done around statement old new exchanges effect held in (
        done.0,
        done.1,
        work_leaves_as before old.settings.manner (asks_of around statement) old.is_open agrees exchanges done.1.0 done.0 (λ stand. wrote_done stand around old statement done.0 effect done.1.0 done.1.1) (λ none. unasked_fetches around statement old new exchanges (Ok effect) none held) done.1.2,
      )

  pub err_leaves : (failure : Failure) → Held (work_of around statement) old exchanges (Err failure) new → HasFailed around old statement exchanges × Leaves old.is_open old.is_open before exchanges []
  err_leaves failure held =
      let failed = work_failed around statement old new exchanges failure held in
      (failed, work_fails_as old before (asks_of around statement) agrees exchanges (λ none. unasked_fetches around statement old new exchanges (Err failure) none held) failed)

pub work_leaves : WorkLeaves
work_leaves around statement old new exchanges effect before agrees held = ok_leaves around statement old new exchanges before agrees effect held

pub failure_leaves : FailureLeaves
failure_leaves around statement old new exchanges failure before agrees held = err_leaves around statement old new exchanges before agrees failure held
