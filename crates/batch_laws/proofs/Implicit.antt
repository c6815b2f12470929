-- Under IMPLICIT_TRANSACTIONS ON plain statements commit nothing.
use Rattle.std.proofs.Common.{◌≡◌, ◌⊎◌, inl, inr, ℕ, ◌==◌, ◌&&◌, not, Bool, true, false, if◌then◌else◌, suc, zero, List, [], ◌∷◌, ◌++◌, None, Result, Ok, Err, refl, sym, ap, ◌∙◌, subst, append-nil}
use Rattle.tsql_tree.specs.declared.statement.Form.{Form-F}
use Rattle.tsql_tree.specs.declared.statement.Statement.{Statement}
use Rattle.binder.specs.Names.{Layer, form_of}
use Rattle.bound_tree.specs.declared.write.Bound.{Bound}
use Rattle.bound_tree.specs.declared.write.Bound.TheVariants as bound
use Rattle.step_model.specs.declared.change.Planned.{Planned}
use Rattle.step_model.specs.Exchange.{Exchange}
use Rattle.step_model.specs.Fits.{commit_of, commits_from}
use Rattle.step_model.specs.Net.{Net}
use Rattle.step_model.specs.Own.{Progress as Stand, progress_from}
use Rattle.batch_meaning.specs.declared.exit.Exit.{Exit}
use Rattle.batch_meaning.specs.declared.exit.Exit.TheVariants.{On, Leave, Again, Return, Raise, RaiseUp, End}
use Rattle.batch_meaning.specs.declared.failure.Failure.{Failure}
use Rattle.batch_meaning.specs.declared.settings.Settings.{Settings}
use Rattle.batch_meaning.specs.Doing.{Doing, makes, ◌then◌, Held}
use Rattle.batch_meaning.specs.Failures.{plain}
use Rattle.batch_meaning.specs.Meaning.{begun_unseen, behind_unseen, each_of, fails_for, goes_on, line_of, mean_by, mean_of, raises_at, spends, statements_spent}
use Rattle.batch_meaning.specs.Progress.{SessionProgress, counts, made, sends}
use Rattle.batch_meaning.specs.Raised.{Around, raised_in}
use Rattle.batch_meaning.specs.Selecting.{Effect}
use Rattle.batch_meaning.specs.Tokens.{command_of}
use Rattle.batch_meaning.specs.Unseen.{begins_unseen, is_unseen}
use Rattle.statement_paths.specs.Paths.{HasDone, IsDoneAs, IsSelect}
use Rattle.statement_paths.proofs.Apart.{held_apart}
use Rattle.write_laws.proofs.Parts.{from_both}
use Rattle.batch_laws.specs.Committing.{is_plain, Agrees, ArePlain, DoneBy, Ends, Fires, FiresSome, IsBehind, Leaves}
use Rattle.batch_laws.specs.Laws.{HasEnded}
use Rattle.batch_laws.specs.Transactions.{Begins}
use Rattle.batch_laws.specs.Unseen.{UnseenRun, to_begin}
use Rattle.batch_laws.proofs.Batches.{some_here, some_later}
use Rattle.batch_laws.proofs.Control.{mean_again}
use Rattle.batch_laws.proofs.Ending.{fail_as, fails_held, raises_held}
use Rattle.batch_laws.proofs.Idle.{fails_shut, raises_shut, shut_stays}
use Rattle.batch_laws.proofs.Leaving.{commits_both}
use Rattle.batch_laws.proofs.Statements.{begin_refused, none_leaves}
use Rattle.batch_laws.proofs.Turns.{here_behind, plain_ends}
use Rattle.batch_laws.proofs.Unseen.{unseen_held, unseen_open}

-- ---- what was left

-- nothing is committed, and a transaction is open, or none, as the session has it
abbrev Kept : SessionProgress → SessionProgress → Stand → List Exchange → Type 0
Kept old new before exchanges = (commits_from before exchanges ≡ []) × Agrees new.is_open (progress_from before exchanges) × (new.settings ≡ old.settings)

leaves_kept : (was now : Bool) (before : Stand) (exchanges : List Exchange) (planned : List Planned) → (was ≡ false → planned ≡ []) → Leaves was now before exchanges planned → (commits_from before exchanges ≡ []) × Agrees now (progress_from before exchanges)
leaves_kept true true before exchanges planned none leaves = (leaves.2, leaves.0)
leaves_kept true false before exchanges planned none leaves = (leaves.1, leaves.0)
leaves_kept false true before exchanges planned none leaves = absurd leaves
leaves_kept false false before exchanges planned none leaves = (leaves.1 ∙ ap (λ (l : List Planned). commit_of (Net l)) (none refl), leaves.0)

-- one behind another
kept_both : (old mid new : SessionProgress) (before : Stand) (exchanges front back : List Exchange) → exchanges ≡ front ++ back → Kept old mid before front → Kept mid new (progress_from before front) back → Kept old new before exchanges
kept_both old mid new before exchanges front back parts first second = (
  ap (commits_from before) parts ∙ commits_both before front back ∙ ap (λ c. c ++ commits_from (progress_from before front) back) first.0 ∙ second.0,
  subst (Agrees new.is_open) (sym (ap (progress_from before) parts ∙ from_both before front back)) second.1,
  second.2 ∙ first.2,
)

-- ---- a statement that begins none

-- it plans nothing
unplanned : (around : Around) (p : SessionProgress) (statement : Statement) (exit : Exit) (planned : List Planned) (effect : Effect) (exchanges : List Exchange) (form : Layer) → form_of statement ≡ form → is_plain form ≡ true → begins_unseen form ≡ false
    → DoneBy form around p statement exit planned effect exchanges → planned ≡ []
unplanned around p statement exit planned effect exchanges form is plain_one none done = by_form form is plain_one none done
  where
    as_form : (form : Layer) → form_of statement ≡ form → (has : HasDone around p statement planned effect exchanges) → IsDoneAs around p form statement planned effect has.0
    as_form form is has = subst (λ (f : Layer). IsDoneAs around p f statement planned effect has.0) is has.1

    by_select : (definitions : List _) (of : Bound) (worked : List Exchange) → IsSelect around p definitions of planned effect worked → planned ≡ []
    by_select definitions (bound.Query query) worked selected = selected.plans
    by_select definitions (bound.Assign query places) worked selected = selected.plans
    by_select definitions (bound.Write write) worked selected = absurd selected
    by_select definitions bound.Plain worked selected = absurd selected

    no_plain : false ≡ true → planned ≡ []
    no_plain is = absurd (let no : false ≡ true = is in cc)

    no_seen : true ≡ false → planned ≡ []
    no_seen is = absurd (let no : true ≡ false = is in cc)

    by_form : (form : Layer) → form_of statement ≡ form → is_plain form ≡ true → begins_unseen form ≡ false → DoneBy form around p statement exit planned effect exchanges → planned ≡ []
    by_form (Form-F.Select select) is plain_one none done = let has = as_form (Form-F.Select select) is done.0 in by_select _ has.of has.worked has.works
    by_form (Form-F.Declare declarations) is plain_one none done = (as_form (Form-F.Declare declarations) is done.0).works.plans
    by_form (Form-F.SetVariable name value) is plain_one none done = (as_form (Form-F.SetVariable name value) is done.0).works.plans
    by_form (Form-F.Return value) is plain_one none done = done.3
    by_form (Form-F.Insert table columns rows) is plain_one none done = no_seen none
    by_form (Form-F.Update table sets filter) is plain_one none done = no_seen none
    by_form (Form-F.Delete table filter) is plain_one none done = no_seen none
    by_form (Form-F.CreateTable table text) is plain_one none done = no_seen none
    by_form (Form-F.Drop kind name) is plain_one none done = no_seen none
    by_form (Form-F.If test so otherwise) is plain_one none done = no_plain plain_one
    by_form (Form-F.While test body) is plain_one none done = no_plain plain_one
    by_form Form-F.Break is plain_one none done = no_plain plain_one
    by_form Form-F.Continue is plain_one none done = no_plain plain_one
    by_form (Form-F.Block body) is plain_one none done = no_plain plain_one
    by_form (Form-F.TryCatch body handler) is plain_one none done = no_plain plain_one
    by_form (Form-F.Print value) is plain_one none done = no_plain plain_one
    by_form (Form-F.RaiseError value class state) is plain_one none done = no_plain plain_one
    by_form (Form-F.Throw number value state) is plain_one none done = no_plain plain_one
    by_form Form-F.ThrowAgain is plain_one none done = no_plain plain_one
    by_form (Form-F.SetOption option) is plain_one none done = no_plain plain_one
    by_form (Form-F.Execute status name arguments) is plain_one none done = no_plain plain_one
    by_form (Form-F.BeginTransaction name) is plain_one none done = no_plain plain_one
    by_form (Form-F.Commit name) is plain_one none done = no_plain plain_one
    by_form (Form-F.Rollback name) is plain_one none done = no_plain plain_one
    by_form (Form-F.Save name) is plain_one none done = no_plain plain_one
    by_form (Form-F.DeclareCursor name select) is plain_one none done = no_plain plain_one
    by_form (Form-F.OpenCursor name) is plain_one none done = no_plain plain_one
    by_form (Form-F.Fetch name variables) is plain_one none done = no_plain plain_one
    by_form (Form-F.CloseCursor name) is plain_one none done = no_plain plain_one
    by_form (Form-F.Deallocate name) is plain_one none done = no_plain plain_one
    by_form (Form-F.Use name) is plain_one none done = no_plain plain_one

begins_none : (implicit is_open begins : Bool) → implicit ≡ true → is_open ≡ false → ((implicit && not is_open) && begins) ≡ false → begins ≡ false
begins_none true false begins on shut seen = seen
begins_none false is_open begins on shut seen = absurd (let no : false ≡ true = on in cc)
begins_none true true begins on shut seen = absurd (let no : true ≡ false = shut in cc)

module _ (levels : ℕ) (around : Around) (statement : Statement) (plain_one : is_plain (form_of statement) ≡ true) where
  seen_kept : (p new : SessionProgress) (exchanges : List Exchange) (exit : Exit) (before : Stand) → p.settings.implicit ≡ true → is_unseen p (form_of statement) ≡ false → Agrees p.is_open before → Held (mean_of levels statement around) p exchanges exit new
      → Kept p new before exchanges ⊎ Fires around (made counts p) statement exchanges
  seen_kept p new exchanges exit before on seen agrees held = by_end (plain_ends levels around statement p new exchanges exit before plain_one seen agrees held)
    where
      by_ends : (tokens : List _) (planned : List Planned) → Ends around (made counts p) statement exit tokens planned exchanges new → p.is_open ≡ false → planned ≡ []
      by_ends tokens planned (inl done) shut =
          unplanned around (made counts p) statement exit planned done.0 exchanges (form_of statement) refl plain_one (begins_none p.settings.implicit p.is_open (begins_unseen (form_of statement)) on shut seen) done.1
      by_ends tokens planned (inr failed) shut = failed.0

      by_end : HasEnded around (made counts p) statement exit before exchanges new ⊎ Fires around (made counts p) statement exchanges → Kept p new before exchanges ⊎ Fires around (made counts p) statement exchanges
      by_end (inl ended) =
          let kept = leaves_kept p.is_open new.is_open before exchanges ended.0.1 (by_ends ended.0.0 ended.0.1 ended.0.3) ended.0.4 in
          inl (kept.0, kept.1, ended.1.settings)
      by_end (inr fires) = inr fires

-- ---- one that begins one

spent_kept : (around : Around) (statement : Statement) (p new : SessionProgress) (exchanges : List Exchange) (exit : Exit) (before : Stand) → Agrees p.is_open before → Held (spends statement around) p exchanges exit new → Kept p new before exchanges
spent_kept around statement p new exchanges exit before agrees held =
    let raised = raised_in around.procedure (line_of statement) (plain statements_spent) in
    let struck = (raises_held around (line_of statement) (command_of (form_of statement)) raised p new exchanges exit held).0 in
    let stays = shut_stays (raises_at around (line_of statement) (command_of (form_of statement)) raised) p new exchanges exit (raises_shut around (line_of statement) (command_of (form_of statement)) raised) held in
    let left = fail_as p new exchanges before [] exchanges p (here_behind p).near refl (none_leaves p.is_open before [] agrees refl) struck.stays in
    let kept = leaves_kept p.is_open new.is_open before exchanges [] (λ shut. refl) left in
    (kept.0, kept.1, stays.settings)

module _ (levels : ℕ) (around : Around) (statement : Statement) (plain_one : is_plain (form_of statement) ≡ true) (p new : SessionProgress) (exchanges : List Exchange) (exit : Exit) (before : Stand) (on : p.settings.implicit ≡ true) (agrees : Agrees p.is_open before) where
  abbrev Came : Type 0
  Came = Kept p new before exchanges ⊎ ((q : SessionProgress) × (front back : List Exchange) × (exchanges ≡ front ++ back) × Fires around q statement back)

  abbrev Next : Doing Exit
  Next = mean_by (λ inner at. mean_of levels inner at) statement around

  -- it was begun
  begun_kept : (effect : Effect) (front back : List Exchange) (begun : SessionProgress) → exchanges ≡ front ++ back → Begins (made counts p) None false (Ok effect) front begun → Held Next (made (sends effect.tokens) begun) back exit new → Came
  begun_kept effect front back begun parts begins held =
      let q = to_begin (made (sends effect.tokens) begun) in
      let opened : q.is_open ≡ true = ap (λ (s : SessionProgress). s.is_open) begins.2 in
      let same : begun.settings ≡ p.settings = ap (λ (s : SessionProgress). s.settings) begins.2 in
      let stand : (progress_from before front).is_open ≡ true = ap (λ (l : List Exchange). (progress_from before l).is_open) begins.0 in
      let first : Kept p begun before front = (ap (commits_from before) begins.0, subst (λ (b : Bool). Agrees b (progress_from before front)) (sym opened) stand, same) in
      let again = mean_again levels around statement (made (sends effect.tokens) begun) new back exit opened held in
      by_came first (seen_kept (suc levels) around statement plain_one q new back exit (progress_from before front) (ap (λ (s : Settings). s.implicit) same ∙ on) (unseen_open q (form_of statement) opened) first.1 again)
    where
      by_came : Kept p begun before front → Kept (to_begin (made (sends effect.tokens) begun)) new (progress_from before front) back ⊎ Fires around (made counts (to_begin (made (sends effect.tokens) begun))) statement back → Came
      by_came first (inl kept) = inl (kept_both p begun new before exchanges front back parts first kept)
      by_came first (inr fires) = inr (made counts (to_begin (made (sends effect.tokens) begun)), front, back, parts, fires)

  -- it failed
  failed_kept : (failure : Failure) (front back : List Exchange) (begun : SessionProgress) → exchanges ≡ front ++ back → Begins (made counts p) None false (Err failure) front begun → Held (fails_for around statement failure) begun back exit new → Came
  failed_kept failure front back begun parts begins held =
      let struck = fails_held around statement failure begun new back exit held in
      let stays = shut_stays (fails_for around statement failure) begun new back exit (fails_shut around statement failure) held in
      let behind = by_begins begins in
      let left = fail_as (made counts p) new exchanges before front back begun behind.0 parts behind.1 struck.stays in
      let kept = leaves_kept p.is_open new.is_open before exchanges [] (λ shut. refl) left in
      inl (kept.0, kept.1, stays.settings ∙ behind.0.settings)
    where
      by_begins : Begins (made counts p) None false (Err failure) front begun → IsBehind (made counts p) begun × Leaves p.is_open p.is_open before front []
      by_begins (inl refused) = (subst (IsBehind (made counts p)) (sym refused.1) (here_behind (made counts p)).near, none_leaves p.is_open before front agrees refused.0)
      by_begins (inr full) = (
        subst (IsBehind (made counts p)) (sym full.2) (record { within = record { serial = refl; opened = λ is. refl }; is_open = refl; is_own = λ is. refl; settings = refl; bytes = refl }),
        begin_refused p.settings.manner before front p.is_open agrees full.1,
      )

  unseen_kept : is_unseen p (form_of statement) ≡ true → Held (mean_of (suc levels) statement around) p exchanges exit new → Came
  unfolding mean_of Held
  unseen_kept unseen held = by_left (p.statements_left == 0) refl held
    where
      by_came : (came : Result Effect Failure) (front back : List Exchange) (begun : SessionProgress) → exchanges ≡ front ++ back → Begins (made counts p) None false came front begun → Held (behind_unseen (fails_for around statement) Next came) begun back exit new → Came
      by_came (Ok effect) front back begun parts begins held = begun_kept effect front back begun parts begins held
      by_came (Err failure) front back begun parts begins held = failed_kept failure front back begun parts begins held

      by_left : (spent : Bool) → (p.statements_left == 0) ≡ spent → Held (if spent then spends statement around else makes counts (begun_unseen (λ q. is_unseen q (form_of statement)) (fails_for around statement) Next)) p exchanges exit new → Came
      by_left true left was = inl (spent_kept around statement p new exchanges exit before agrees was)
      by_left false left was =
          let on = unseen_held (λ q. is_unseen q (form_of statement)) (fails_for around statement) Next (made counts p) new exchanges exit unseen was in
          by_came on.3 on.0 on.1 on.2 on.4 on.5 on.6

unseen_at : (levels : ℕ) (around : Around) (statement : Statement) → is_plain (form_of statement) ≡ true → (p new : SessionProgress) (exchanges : List Exchange) (exit : Exit) (before : Stand) → p.settings.implicit ≡ true → Agrees p.is_open before → is_unseen p (form_of statement) ≡ true
    → Held (mean_of levels statement around) p exchanges exit new → Kept p new before exchanges ⊎ ((q : SessionProgress) × (front back : List Exchange) × (exchanges ≡ front ++ back) × Fires around q statement back)
unfolding mean_of
unseen_at zero around statement plain_one p new exchanges exit before on agrees unseen held = inl (spent_kept around statement p new exchanges exit before agrees held)
unseen_at (suc levels) around statement plain_one p new exchanges exit before on agrees unseen held = unseen_kept levels around statement plain_one p new exchanges exit before on agrees unseen held

-- ---- statements one after another

mean_kept : (levels : ℕ) (around : Around) (statement : Statement) (p new : SessionProgress) (exchanges : List Exchange) (exit : Exit) (before : Stand) → is_plain (form_of statement) ≡ true → p.settings.implicit ≡ true → Agrees p.is_open before
    → Held (mean_of levels statement around) p exchanges exit new → Kept p new before exchanges ⊎ ((q : SessionProgress) × (front back : List Exchange) × (exchanges ≡ front ++ back) × Fires around q statement back)
mean_kept levels around statement p new exchanges exit before plain_one on agrees held = by_seen (is_unseen p (form_of statement)) refl
  where
    by_kept : Kept p new before exchanges ⊎ Fires around (made counts p) statement exchanges → Kept p new before exchanges ⊎ ((q : SessionProgress) × (front back : List Exchange) × (exchanges ≡ front ++ back) × Fires around q statement back)
    by_kept (inl kept) = inl kept
    by_kept (inr fires) = inr (made counts p, [], exchanges, refl, fires)

    by_seen : (unseen : Bool) → is_unseen p (form_of statement) ≡ unseen → Kept p new before exchanges ⊎ ((q : SessionProgress) × (front back : List Exchange) × (exchanges ≡ front ++ back) × Fires around q statement back)
    by_seen false is = by_kept (seen_kept levels around statement plain_one p new exchanges exit before on is agrees held)
    by_seen true is = unseen_at levels around statement plain_one p new exchanges exit before on agrees is held

module _ (around : Around) (levels : ℕ) where
  abbrev one : Statement → Around → Doing Exit
  one inner at = mean_of levels inner at

  run_kept : (statements : List Statement) (p new : SessionProgress) (exchanges : List Exchange) (exit : Exit) (before : Stand) → ArePlain statements → p.settings.implicit ≡ true → Agrees p.is_open before → (FiresSome around statements exchanges → ⊥)
      → Held (each_of one statements around) p exchanges exit new → Kept p new before exchanges
  unfolding each_of Held
  run_kept [] p new exchanges exit before plain_all on agrees calm held = (
    ap (commits_from before) held.0,
    subst (λ (l : List Exchange). Agrees new.is_open (progress_from before l)) (sym held.0) (subst (λ (s : SessionProgress). Agrees s.is_open before) (sym held.2) agrees),
    ap (λ (s : SessionProgress). s.settings) held.2,
  )
  run_kept (statement ∷ others) p new exchanges exit before plain_all on agrees calm held =
      let first = held_apart (one statement around) (λ exit. goes_on (each_of one others around) exit) p new exchanges exit held in
      by_first first.front first.back first.mid first.came first.parts (mean_kept levels around statement p first.mid first.front first.came before plain_all.0 on agrees first.held)
      (λ kept rest. run_kept others first.mid new first.back exit (progress_from before first.front) plain_all.1 (ap (λ (s : Settings). s.implicit) kept.2 ∙ on) kept.1 (λ fires. calm (some_later around statement others exchanges first.front first.back first.parts fires)) rest) first.rest
    where
      stopped : (front back : List Exchange) (mid : SessionProgress) → exchanges ≡ front ++ back → Kept p mid before front → (back ≡ []) × (new ≡ mid) → Kept p new before exchanges
      stopped front back mid parts kept rest =
          let whole : exchanges ≡ front = parts ∙ ap (λ (l : List Exchange). front ++ l) rest.0 ∙ append-nil front in
          subst (λ (s : SessionProgress). Kept p s before exchanges) (sym rest.1) (subst (Kept p mid before) (sym whole) kept)

      by_came : (front back : List Exchange) (mid : SessionProgress) (came : Exit) → exchanges ≡ front ++ back → Kept p mid before front → (Held (each_of one others around) mid back exit new → Kept mid new (progress_from before front) back) → Held (goes_on (each_of one others around) came) mid back exit new → Kept p new before exchanges
      by_came front back mid On parts kept goes rest = kept_both p mid new before exchanges front back parts kept (goes rest)
      by_came front back mid Leave parts kept goes rest = stopped front back mid parts kept (rest.0, rest.2)
      by_came front back mid Again parts kept goes rest = stopped front back mid parts kept (rest.0, rest.2)
      by_came front back mid (Return status) parts kept goes rest = stopped front back mid parts kept (rest.0, rest.2)
      by_came front back mid (Raise raised) parts kept goes rest = stopped front back mid parts kept (rest.0, rest.2)
      by_came front back mid (RaiseUp raised) parts kept goes rest = stopped front back mid parts kept (rest.0, rest.2)
      by_came front back mid End parts kept goes rest = stopped front back mid parts kept (rest.0, rest.2)

      by_first : (front back : List Exchange) (mid : SessionProgress) (came : Exit) → exchanges ≡ front ++ back → Kept p mid before front ⊎ ((q : SessionProgress) × (earlier path : List Exchange) × (front ≡ earlier ++ path) × Fires around q statement path)
          → (Kept p mid before front → Held (each_of one others around) mid back exit new → Kept mid new (progress_from before front) back) → Held (goes_on (each_of one others around) came) mid back exit new → Kept p new before exchanges
      by_first front back mid came parts (inl kept) goes rest = by_came front back mid came parts kept (goes kept) rest
      by_first front back mid came parts (inr fired) goes rest = absurd (calm (some_here around statement others fired.0 exchanges fired.1 fired.2 back (parts ∙ ap (λ (l : List Exchange). l ++ back) fired.3) fired.4))

pub unseen_run : UnseenRun
unseen_run levels around statements old new exchanges exit before plain_all on agrees calm held = run_kept around levels statements old new exchanges exit before plain_all on agrees calm held
