-- The work of each statement keeps what stands.
use Rattle.std.proofs.Common.{◌≡◌, inl, inr, ℕ, Bool, true, false, if◌then◌else◌, is_ok, List, [], ◌∷◌, ◌++◌, length, take, Option, Some, None, Result, Ok, Err, refl, sym, ap, subst, ◌∙◌}
use Rattle.std.specs.Prelude.{nat_lt, pos}
use Rattle.std.specs.Cmp.Lexicographic.{bytes_decides}
use Rattle.value_types.specs.Units.{same_units}
use Rattle.tsql_tree.specs.declared.definition.Definition.{Definition}
use Rattle.tsql_tree.specs.declared.definition.Definition.TheVariants.{Table, Procedure, Trigger}
use Rattle.tsql_tree.specs.declared.definition.TableTree.{TableTree}
use Rattle.tsql_tree.specs.declared.statement.DropKind.{DropKind}
use Rattle.tsql_tree.specs.declared.statement.DropKind.TheVariants as drop
use Rattle.tsql_tree.specs.declared.statement.Form.{Form-F}
use Rattle.tsql_tree.specs.declared.statement.Statement.{Statement, out-Statement}
use Rattle.bound_tree.specs.declared.query.BoundQuery.{BoundQuery}
use Rattle.bound_tree.specs.declared.write.Bound.{Bound}
use Rattle.bound_tree.specs.declared.write.Bound.TheVariants as bound
use Rattle.binder.specs.Names.{Layer, form_of, looked_up}
use Rattle.table_rows.specs.Definitions.{Defines, defined_name, is_objects}
use Rattle.constraint_check.proofs.Lists.{all_more}
use Rattle.step_model.specs.declared.op.Op.TheVariants as ops
use Rattle.step_model.specs.declared.reply.Reply.{Reply}
use Rattle.step_model.specs.declared.reply.Reply.TheVariants as replies
use Rattle.step_model.specs.Database.{Database}
use Rattle.step_model.specs.Exchange.{CanReply, Exchange}
use Rattle.step_model.specs.Fits.{place_of, place_or}
use Rattle.step_model.specs.Log.{Commit as Logged, State}
use Rattle.step_model.specs.Ranges.{Rows, no_memory}
use Rattle.batch_meaning.specs.declared.failure.Failure.{Failure}
use Rattle.batch_meaning.specs.declared.home.Home.{Home}
use Rattle.batch_meaning.specs.declared.home.Home.TheVariants.{Nowhere, Open, Own}
use Rattle.batch_meaning.specs.declared.raised.Raised.{Raised}
use Rattle.batch_meaning.specs.Raised.{Around}
use Rattle.batch_meaning.specs.Asking.{comes_to, fails, fails_naming, finds_by, if_bytes_left, reads_images, unless_refused, where_begun, where_done, where_ended, with_room, ◌>>=◌}
use Rattle.batch_meaning.specs.Changing.{not_there, object_present}
use Rattle.batch_meaning.specs.Doing.{Doing, asks, makes, over, reads, ◌then◌}
use Rattle.batch_meaning.specs.Failures.{plain}
use Rattle.batch_meaning.specs.Progress.{SessionProgress, SessionStep, size_of}
use Rattle.batch_meaning.specs.Selecting.{Effect, answer_in, bound_over, made_of, messages, not_bound_so, raised_by, result_full, result_of}
use Rattle.batch_meaning.specs.Tokens.{done_kind}
use Rattle.batch_meaning.specs.Values.{Assigned, first_of, first_row, is_one, rows_assigned, status_of}
use Rattle.batch_meaning.specs.Working.{answers, asks_any, assigns_rows, binds, closes, composes, composes_bound, computes, enters, given_in, if_it_fits, is_read_by, known_by, leaves, own, relaxes, select_bound, selects, selects_into, status_bound, statuses, tests, tests_bound, values_bound, within, works, works_bound}
use Rattle.batch_meaning.specs.Writes.{Written, change_bound, changes, creates, creates_table, drops, drops_definition, drops_found, drops_table, unless_objects}
use Rattle.statement_paths.proofs.Only.{AnyStep, IsTouch, only_bind, only_comes, only_if, only_naming, only_room, only_then}
use Rattle.statement_paths.proofs.Working.{images_read as images_fetched}
use Rattle.statement_paths.specs.Asked.{IsFetch}
use Rattle.statement_paths.specs.Paths.{definition_put}
use Rattle.write_laws.specs.Reads.{at_place}
use Rattle.write_laws.specs.Sound.{IsTableOf}
use Rattle.write_laws.proofs.Bound.{bound_stands}
use Rattle.write_laws.specs.Indexed.{own_rows}
use Rattle.write_laws.specs.Keeping.{IsCreated, IsNoTable}
use Rattle.write_laws.proofs.Created.{firm_created}
use Rattle.write_laws.proofs.Erased.{no_table}
use Rattle.write_laws.proofs.Indexed.{indexed_created}
use Rattle.write_laws.proofs.Owned.{firm_own}
use Rattle.sound_laws.specs.Stands.{Carries, Intact, Keeps, Brings, Stands, base_of}
use Rattle.text_laws.specs.Laws.{ReadsBackAs}
use Rattle.sound_laws.specs.Tied.{Tied}
use Rattle.sound_laws.proofs.Changing.{changes_bring, drops_bring, erases_bring, fits_still}
use Rattle.sound_laws.proofs.Creating.{MayCreate, creates_bring}
use Rattle.sound_laws.proofs.Bringing.{brings_asks, brings_bind, brings_makes, brings_mono, brings_over, brings_reads, brings_room, brings_then}
use Rattle.sound_laws.proofs.Looked.{DefinedIn, IsDefinedIf, IsKnownAs, IsThere}
use Rattle.sound_laws.proofs.Preparing.{IsPrepared, binds_bring, finds_bring}
use Rattle.sound_laws.proofs.Targets.{IsTarget, is_target, known_name, target_of}
use Rattle.sound_laws.proofs.Steps.{IsStill, one_stands}
use Rattle.sound_laws.proofs.Trees.{StandsWith, WritesNothing, carries_still, only_assigns, only_refused, reads_bind, reads_still}

-- ---- trees put together

pub carries_then : {A B : Type 0} (tree : Doing A) (go : A → Doing B) → Carries tree → ((a : A) → Carries (go a)) → Carries (tree then go)
carries_then {A} {B} tree go first second session begin log mine tied =
    brings_then log mine (Stands log) tree (λ (a : A). Stands log) go (λ (b : B). Stands log) (first session begin log mine tied) (λ a. second a session begin log mine tied)

pub carries_bind : {A B : Type 0} (tree : Doing (Result A Failure)) (go : A → Doing (Result B Failure)) → Carries tree → ((a : A) → Carries (go a)) → Carries (tree >>= go)
carries_bind {A} {B} tree go first second session begin log mine tied =
    brings_bind log mine (Stands log) tree (λ (a : Result A Failure). Stands log) go (λ (b : Result B Failure). Stands log) (first session begin log mine tied) (λ a. second a session begin log mine tied) (λ failure before later is stands. stands)

pub carries_reads : {A : Type 0} (look : SessionProgress → Doing A) → ((p : SessionProgress) → Carries (look p)) → Carries (reads look)
carries_reads {A} look each session begin log mine tied = brings_reads log mine (Stands log) look (λ (a : A). Stands log) (λ p. each p session begin log mine tied)

pub carries_makes : {A : Type 0} (step : SessionStep) (next : Doing A) → Carries next → Carries (makes step next)
carries_makes {A} step next rest session begin log mine tied = brings_makes log mine (Stands log) step next (λ (a : A). Stands log) (rest session begin log mine tied)

pub carries_if : {A : Type 0} (b : Bool) (one other : Doing A) → Carries one → Carries other → Carries (if b then one else other)
carries_if true one other first second = first
carries_if false one other first second = second

pub carries_room : {A : Type 0} (tree : Doing (Result A Failure)) → Carries tree → Carries (with_room tree)
carries_room {A} tree rest session begin log mine tied = brings_room log mine (Stands log) (λ enough. if enough then tree else fails no_memory) (λ (a : Result A Failure). Stands log) by_room
  where
    by_room : (enough : Bool) → Brings log mine (Stands log) (if enough then tree else fails no_memory) (λ (a : Result A Failure). Stands log)
    by_room true = rest session begin log mine tied
    by_room false = brings_over log mine (Stands log) (Err (plain no_memory)) (λ (a : Result A Failure). Stands log) (λ before later is stands. stands)

-- ---- transactions of a statement's own

pub ended_still : {A : Type 0} (next : Doing A) → WritesNothing next → (reply : Reply) → WritesNothing (where_ended next reply)
ended_still next still (replies.Ended place) = still
ended_still next still reply = tt

pub done_still : {A : Type 0} (next : Doing A) → WritesNothing next → (reply : Reply) → WritesNothing (where_done next reply)
done_still next still replies.Done = still
done_still next still reply = tt

pub begun_still : {A : Type 0} (next : Doing (Result A Failure)) → WritesNothing next → (reply : Reply) → WritesNothing (where_begun next reply)
begun_still next still replies.Began = still
begun_still next still reply = tt

pub relaxes_still : WritesNothing relaxes
unfolding relaxes
relaxes_still = λ p. only_if AnyStep IsStill p.touched (asks ops.Relax (where_done (over tt))) (over tt) (tt, λ reply can. done_still (over tt) tt reply) tt

pub closes_still : (succeeded : Bool) → WritesNothing (closes succeeded)
unfolding closes
closes_still true = (tt, λ reply can. ended_still (over tt) tt reply)
closes_still false = (tt, λ reply can. ended_still (over tt) tt reply)

pub enters_still : (asking : Bool) → WritesNothing (enters asking)
unfolding enters
enters_still false = tt
enters_still true = λ p. only_if AnyStep IsStill p.is_open (over (Ok Open)) (asks ops.Begin (unless_refused (where_begun (over (Ok Own))))) tt
    (tt, λ reply can. only_refused IsStill (where_begun (over (Ok Own))) (begun_still (over (Ok Own)) tt) reply)

pub leaves_still : (home : Home) (succeeded : Bool) → WritesNothing (leaves home succeeded)
unfolding leaves
leaves_still Nowhere succeeded = tt
leaves_still Open succeeded = relaxes_still
leaves_still Own succeeded = only_then AnyStep IsStill relaxes (λ done. closes succeeded) relaxes_still (λ done. closes_still succeeded)

pub left_still : {A : Type 0} (home : Home) (came : Result A Failure) → WritesNothing (leaves home (is_ok came) then λ done. over came)
left_still home came = only_then AnyStep IsStill (leaves home (is_ok came)) (λ done. over came) (leaves_still home (is_ok came)) (λ done. tt)

-- in whatever transaction the work is done
pub own_carries : {A : Type 0} (asking : Bool) (work : Doing (Result A Failure)) → Carries work → Carries (own asking work)
unfolding own
own_carries asking work carries =
    carries_bind (enters asking) (λ home. work then λ came. leaves home (is_ok came) then λ done. over came) (carries_still (enters asking) (enters_still asking))
    (λ home. carries_then work (λ came. leaves home (is_ok came) then λ done. over came) carries (λ came. carries_still (leaves home (is_ok came) then λ done. over came) (left_still home came)))

-- ---- bound statements

-- what goes on by what a statement is bound to
abbrev pub GoesOn : {A : Type 0} → Around → Statement → (List TableTree → Bound → Doing (Result A Failure)) → Type 0
GoesOn {A} around statement go = (session : ℕ) (begin log : List Logged) (mine : List Exchange) → Tied session begin log mine → (shapes : List TableTree) (of : Bound)
    → Brings log mine (StandsWith log (IsPrepared around statement shapes of)) (go shapes of) (λ (a : Result A Failure). Stands log)

still_on : {A : Type 0} (around : Around) (statement : Statement) (shapes : List TableTree) (of : Bound) (tree : Doing (Result A Failure)) → Carries tree
    → (session : ℕ) (begin log : List Logged) (mine : List Exchange) → Tied session begin log mine → Brings log mine (StandsWith log (IsPrepared around statement shapes of)) tree (λ (a : Result A Failure). Stands log)
still_on {A} around statement shapes of tree carries session begin log mine tied =
    brings_mono log mine (Stands log) (StandsWith log (IsPrepared around statement shapes of)) tree (λ (a : Result A Failure). Stands log) (λ (a : Result A Failure). Stands log) (λ before later is from. from.0) (λ a before later is stands. stands) (carries session begin log mine tied)

pub within_carries : {A : Type 0} (around : Around) (statement : Statement) (go : List TableTree → Bound → Doing (Result A Failure)) → GoesOn around statement go → Carries (within around statement go)
unfolding within
within_carries around statement go brings = carries_room (own (asks_any (known_by around statement) (looked_up statement)) (binds around statement go))
    (own_carries (asks_any (known_by around statement) (looked_up statement)) (binds around statement go) (λ session begin log mine tied. binds_bring session begin log mine tied around statement go (brings session begin log mine tied)))

-- ---- what only reads

pub bytes_still : {A : Type 0} (tokens : List _) (next : Doing (Result A Failure)) → WritesNothing next → WritesNothing (if_bytes_left tokens next)
bytes_still tokens next still = λ p. only_if AnyStep IsStill (nat_lt p.bytes_left (size_of tokens)) (fails result_full) next tt still

pub rows_still : (count : ℕ) (came : List Assigned × Option Failure) → WritesNothing (assigns_rows count came)
rows_still count (sets, None) = tt
rows_still count (sets, Some failure) = only_assigns IsStill sets (over (Err failure)) tt

module _ (around : Around) where
  pub answers_still : (shapes : List TableTree) (query : BoundQuery) → WritesNothing (answers around shapes query)
  unfolding answers
  answers_still shapes query = only_bind AnyStep IsStill (reads_images (given_in around.fired) shapes (bound.Query query)) (λ images. reads λ p. comes_to (answer_in around p query images)) (reads_still (reads_images (given_in around.fired) shapes (bound.Query query)) (images_fetched (given_in around.fired) shapes (bound.Query query)))
      (λ images p. only_comes AnyStep IsStill (answer_in around p query images))

  pub selects_still : (shapes : List TableTree) (query : BoundQuery) → WritesNothing (selects around shapes query)
  unfolding selects
  selects_still shapes query =
      only_bind AnyStep IsStill (answers around shapes query) (λ rows. (reads λ p. comes_to (result_of (done_kind around) p.settings.no_count query rows)) >>= λ effect. if_it_fits effect) (answers_still shapes query)
      (λ rows. only_bind AnyStep IsStill (reads λ p. comes_to (result_of (done_kind around) p.settings.no_count query rows)) (λ effect. if_it_fits effect) (λ p. only_comes AnyStep IsStill (result_of (done_kind around) p.settings.no_count query rows)) (λ effect. fits_still effect))

  pub into_still : (shapes : List TableTree) (query : BoundQuery) (places : List ℕ) → WritesNothing (selects_into around shapes query places)
  unfolding selects_into
  into_still shapes query places =
      only_bind AnyStep IsStill (answers around shapes query) (λ rows. reads λ p. with_room (assigns_rows (length rows) (rows_assigned p.vars places [] rows))) (answers_still shapes query)
      (λ rows p. only_room AnyStep IsStill (assigns_rows (length rows) (rows_assigned p.vars places [] rows)) (rows_still (length rows) (rows_assigned p.vars places [] rows)))

  pub select_still : (shapes : List TableTree) (of : Bound) → WritesNothing (select_bound around shapes of)
  select_still shapes (bound.Query query) = selects_still shapes query
  select_still shapes (bound.Assign query places) = into_still shapes query places
  select_still shapes bound.Plain = tt
  select_still shapes (bound.Write write) = tt

  pub values_still : (shapes : List TableTree) (of : Bound) → WritesNothing (values_bound around shapes of)
  values_still shapes (bound.Query query) = answers_still shapes query
  values_still shapes bound.Plain = tt
  values_still shapes (bound.Write write) = tt
  values_still shapes (bound.Assign query places) = tt

  pub computes_still : (form : Layer) (shapes : List TableTree) (of : Bound) → WritesNothing (computes around form shapes of)
  unfolding computes
  computes_still form shapes of = only_bind AnyStep IsStill (values_bound around shapes of) (λ rows. reads λ p. comes_to (made_of form p.vars (first_row rows))) (values_still shapes of) (λ rows p. only_comes AnyStep IsStill (made_of form p.vars (first_row rows)))

  pub tests_still : (shapes : List TableTree) (of : Bound) → WritesNothing (tests_bound around shapes of)
  unfolding tests_bound
  tests_still shapes of = only_bind AnyStep IsStill (values_bound around shapes of) (λ rows. over (Ok (is_one (first_of (first_row rows))))) (values_still shapes of) (λ rows. tt)

  pub composes_still : (statement : Statement) (shapes : List TableTree) (of : Bound) → WritesNothing (composes_bound around statement shapes of)
  unfolding composes_bound
  composes_still statement shapes of =
      only_bind AnyStep IsStill (values_bound around shapes of) (λ rows. comes_to (Composed rows) >>= Sent) (values_still shapes of)
      (λ rows. only_bind AnyStep IsStill (comes_to (Composed rows)) Sent (only_comes AnyStep IsStill (Composed rows))
      (λ raised. only_room AnyStep IsStill (if_bytes_left (messages raised) (over (Ok raised))) (bytes_still (messages raised) (over (Ok raised)) tt)))
    where
      Composed : Rows → Result Raised Failure
      Composed rows = raised_by (form_of statement) around.procedure (pos (out-Statement statement).line) (first_row rows)

      Sent : Raised → Doing (Result Raised Failure)
      Sent raised = with_room (if_bytes_left (messages raised) (over (Ok raised)))

  -- a test, and a message
  pub tests_carry : (statement : Statement) → Carries (tests around statement)
  unfolding tests
  tests_carry statement = within_carries around statement (tests_bound around) (λ session begin log mine tied shapes of. still_on around statement shapes of (tests_bound around shapes of) (carries_still (tests_bound around shapes of) (tests_still shapes of)) session begin log mine tied)

  pub composes_carry : (statement : Statement) → Carries (composes around statement)
  unfolding composes
  composes_carry statement =
      within_carries around statement (composes_bound around statement) (λ session begin log mine tied shapes of. still_on around statement shapes of (composes_bound around statement shapes of) (carries_still (composes_bound around statement shapes of) (composes_still statement shapes of)) session begin log mine tied)

  -- the status of RETURN
  pub status_still : (shapes : List TableTree) (of : Bound) → WritesNothing (status_bound around shapes of)
  unfolding status_bound
  status_still shapes of = only_bind AnyStep IsStill (values_bound around shapes of) (λ rows. comes_to (status_of (first_row rows))) (values_still shapes of) (λ rows. only_comes AnyStep IsStill (status_of (first_row rows)))

  pub statuses_carry : (statement : Statement) → Carries (statuses around statement)
  unfolding statuses
  statuses_carry statement = within_carries around statement (status_bound around) (λ session begin log mine tied shapes of. still_on around statement shapes of (status_bound around shapes of) (carries_still (status_bound around shapes of) (status_still shapes of)) session begin log mine tied)

  pub work_still : (form : Layer) (shapes : List TableTree) (of : Bound) → WritesNothing (works_bound around form shapes of)
  work_still (Form-F.Select select) shapes of = select_still shapes of
  work_still form shapes of = computes_still form shapes of

  -- a statement that is done with its effect
  pub works_carry : (statement : Statement) → Carries (works around statement)
  unfolding works
  works_carry statement = within_carries around statement (works_bound around (form_of statement))
      (λ session begin log mine tied shapes of. still_on around statement shapes of (works_bound around (form_of statement) shapes of) (carries_still (works_bound around (form_of statement) shapes of) (work_still (form_of statement) shapes of)) session begin log mine tied)

  -- ---- what writes

  -- INSERT, UPDATE and DELETE, up to where their triggers run
  module _ (statement : Statement) (table : List ℕ) (of_form : target_of (form_of statement) ≡ Some table) (session : ℕ) (begin log : List Logged) (mine : List Exchange) (tied : Tied session begin log mine) where
    abbrev From : List TableTree → Bound → List Exchange → List Exchange → Type 0
    From shapes of = StandsWith log (IsPrepared around statement shapes of)

    abbrev To : Result Written Failure → List Exchange → List Exchange → Type 0
    To result = Stands log

    nothing_on : (shapes : List TableTree) (of : Bound) (tree : Doing (Result Written Failure)) → WritesNothing tree → Brings log mine (From shapes of) tree To
    nothing_on shapes of tree still = still_on around statement shapes of tree (carries_still tree still) session begin log mine tied

    change_on : (shapes : List TableTree) (of : Bound) → Brings log mine (From shapes of) (change_bound around shapes of) To
    change_on [] of = nothing_on [] of (fails not_bound_so) tt
    change_on (shape ∷ shapes) (bound.Write write) =
        brings_mono log mine (StandsWith log (IsTarget around (shape ∷ shapes) write)) (From (shape ∷ shapes) (bound.Write write)) (changes around shape shapes write) To To
        (λ before later is from. (from.0, λ intact. is_target around statement table (shape ∷ shapes) write (at_place log before later) of_form (from.1 intact))) (λ a before later is stands. stands)
        (changes_bring session begin log mine tied around shape shapes write)
    change_on (shape ∷ shapes) (bound.Query query) = nothing_on (shape ∷ shapes) (bound.Query query) (fails not_bound_so) tt
    change_on (shape ∷ shapes) (bound.Assign query places) = nothing_on (shape ∷ shapes) (bound.Assign query places) (fails not_bound_so) tt
    change_on (shape ∷ shapes) bound.Plain = nothing_on (shape ∷ shapes) bound.Plain (fails not_bound_so) tt

  pub change_carry : (statement : Statement) (table : List ℕ) → target_of (form_of statement) ≡ Some table → Carries (binds around statement (change_bound around))
  change_carry statement table of_form session begin log mine tied = binds_bring session begin log mine tied around statement (change_bound around) (change_on statement table of_form session begin log mine tied)

  -- ---- DROP

  -- what is found under the name of a DROP is defined
  drop_unknown : (statement : Statement) (kind : DropKind) (name : List ℕ) → form_of statement ≡ Form-F.Drop kind name → (definition : Definition) → known_by around statement name ≡ Some (Some definition) → ⊥
  drop_unknown statement kind name form definition is =
      let known = known_name around.fired (form_of statement) name definition is in
      absurd (let no : false ≡ true = sym (ap (λ (layer : Layer). is_read_by layer name) form) ∙ known.0 in cc)

  module _ (statement : Statement) (kind : DropKind) (name : List ℕ) (form : form_of statement ≡ Form-F.Drop kind name) (session : ℕ) (begin log : List Logged) (mine : List Exchange) (tied : Tied session begin log mine) where
    abbrev Dropped : Result Effect Failure → List Exchange → List Exchange → Type 0
    Dropped result = Stands log

    abbrev Found : Option Definition → List Exchange → List Exchange → Type 0
    Found found = StandsWith log (λ db. Unit {0} × IsDefinedIf db found)

    no_more : (found : Option Definition) (tree : Doing (Result Effect Failure)) → WritesNothing tree → Brings log mine (Found found) tree Dropped
    no_more found tree still = brings_mono log mine (Stands log) (Found found) tree Dropped Dropped (λ before later is from. from.0) (λ a before later is stands. stands) (carries_still tree still session begin log mine tied)

    unless_there : (found : Option Definition) (own : List ℕ) (tree : Doing (Result Effect Failure)) → (own ≡ name → Brings log mine (Found found) tree Dropped) → Brings log mine (Found found) (if same_units own name then tree else fails_naming not_there name) Dropped
    unless_there found own tree brings = by_test (same_units own name) refl
      where
        by_test : (b : Bool) → same_units own name ≡ b → Brings log mine (Found found) (if b then tree else fails_naming not_there name) Dropped
        by_test true is = brings ((bytes_decides own name).0 is)
        by_test false is = no_more found (fails_naming not_there name) (only_naming AnyStep IsStill Effect not_there name)

    table_on : (table : TableTree) → table.name ≡ name → Brings log mine (Found (Some (Table table))) (drops_table around table name) Dropped
    table_on table named = subst (λ (n : List ℕ). Brings log mine (Found (Some (Table table))) (drops_table around table n) Dropped) named
        (brings_mono log mine (StandsWith log (λ db. IsTableOf db table)) (Found (Some (Table table))) (drops_table around table table.name) Dropped Dropped (λ before later is from. (from.0, λ intact. (from.1 intact).1)) (λ a before later is stands. stands)
        (drops_bring session begin log mine tied around table))

    other_on : (definition : Definition) → ((shape : TableTree) → definition ≡ Table shape → ⊥) → defined_name definition ≡ name → Brings log mine (Found (Some definition)) (drops_definition around name) Dropped
    other_on definition other named = brings_mono log mine (StandsWith log (λ db. IsNoTable db name)) (Found (Some definition)) (drops_definition around name) Dropped Dropped
        (λ before later is from. (from.0, λ intact. subst (IsNoTable (at_place log before later)) named (no_table (own_rows (at_place log before later)) (from.0 intact).now.firm (defined_name definition) definition (from.1 intact).1 other))) (λ a before later is stands. stands)
        (erases_bring session begin log mine tied around name)

    found_on : (kind : DropKind) (found : Option Definition) → Brings log mine (Found found) (drops_found around kind name found) Dropped
    found_on drop.Table (Some (Table table)) = unless_there (Some (Table table)) table.name (drops_table around table name) (table_on table)
    found_on drop.Procedure (Some (Procedure procedure)) =
        unless_there (Some (Procedure procedure)) procedure.name (drops_definition around name) (other_on (Procedure procedure) (λ shape is. absurd (let no : Procedure procedure ≡ Table shape = is in cc)))
    found_on drop.Trigger (Some (Trigger trigger)) = unless_there (Some (Trigger trigger)) trigger.name (drops_definition around name) (other_on (Trigger trigger) (λ shape is. absurd (let no : Trigger trigger ≡ Table shape = is in cc)))
    found_on kind found = no_more found (fails_naming not_there name) (only_naming AnyStep IsStill Effect not_there name)

    abbrev Binding : Doing (Result Bound Failure)
    Binding = reads λ p. comes_to (bound_over [] p.vars statement)

    drop_on : Brings log mine (Stands log) (finds_by (known_by around statement name) name >>= λ found. Binding >>= λ of. drops_found around kind name found) Dropped
    drop_on =
        brings_mono log mine (StandsWith log (λ db. Unit {0})) (Stands log) (finds_by (known_by around statement name) name >>= λ found. Binding >>= λ of. drops_found around kind name found) Dropped Dropped
        (λ before later is stands. (stands, λ intact. tt)) (λ a before later is stands. stands)
        (finds_bring session begin log mine tied (λ db. Unit {0}) (known_by around statement name) name (drop_unknown statement kind name form) (λ found. Binding >>= λ of. drops_found around kind name found)
        (λ found. reads_bind session begin log mine tied (λ db. Unit {0} × IsDefinedIf db found) Binding (λ of db. Unit {0} × IsDefinedIf db found) (λ of. drops_found around kind name found) (λ p. only_comes IsTouch IsFetch (bound_over [] p.vars statement))
        (λ before part later p new of is held intact there. there) (λ of. found_on kind found)))

  pub drops_carry : (statement : Statement) (kind : DropKind) (name : List ℕ) → form_of statement ≡ Form-F.Drop kind name → Carries (drops around statement kind name)
  unfolding drops
  drops_carry statement kind name form = carries_room (own (asks_any (known_by around statement) (name ∷ [])) Dropping)
      (own_carries (asks_any (known_by around statement) (name ∷ [])) Dropping (λ session begin log mine tied. drop_on statement kind name form session begin log mine tied))
    where
      Dropping : Doing (Result Effect Failure)
      Dropping = finds_by (known_by around statement name) name >>= λ found. (reads λ p. comes_to (bound_over [] p.vars statement)) >>= λ of. drops_found around kind name found

-- ---- CREATE TABLE

-- a table whose CREATE TABLE is bound over definitions of a database may be created there
create_unknown : (around : Around) (statement : Statement) (table : TableTree) (text : List ℕ) → form_of statement ≡ Form-F.CreateTable table text → (definition : Definition) → IsKnownAs (known_by around statement) definition → ⊥
create_unknown around statement table text form definition (name, is) =
    let known = known_name around.fired (form_of statement) name definition is in
    absurd (let no : false ≡ true = sym (ap (λ (layer : Layer). is_read_by layer name) form) ∙ known.0 in cc)

may_create : (db : Database) (around : Around) (statement : Statement) (table : TableTree) (text : List ℕ) (shapes : List TableTree) (of : Bound) → form_of statement ≡ Form-F.CreateTable table text → ReadsBackAs statement (Form-F.CreateTable table text)
    → is_objects table.name ≡ false → IsPrepared around statement shapes of db → Intact db → MayCreate table.name text db
may_create db around statement table text shapes of form back other prepared intact free =
    let defines : Defines table.name text (Table table) = back prepared.definitions prepared.vars of prepared.binds in
    let defined = all_more (IsThere db (known_by around statement)) (DefinedIn db) (λ definition there. elim there [ inl is ↦ is | inr known ↦ absurd (create_unknown around statement table text form definition known) ]) prepared.definitions prepared.there in
    let created : IsCreated (own_rows db) table.name text table = record {
      free = free;
      defines = defines;
      other = other;
      stands = bound_stands (own_rows db) prepared.definitions prepared.vars statement table text of intact.firm defined form prepared.binds;
    } in
    record {
      firm = firm_own db (definition_put table.name text ∷ []) (refl, tt) (firm_created (own_rows db) table.name text table intact.firm created);
      indexed = indexed_created db table.name text table intact.firm intact.indexed created;
    }

-- where nothing was looked up, in any other database too
elsewhere : (db other : Database) (around : Around) (statement : Statement) (shapes : List TableTree) (of : Bound) → asks_any (known_by around statement) (looked_up statement) ≡ false → IsPrepared around statement shapes of db → IsPrepared around statement shapes of other
elsewhere db other around statement shapes of nameless prepared = record {
  definitions = prepared.definitions;
  vars = prepared.vars;
  tables = prepared.tables;
  binds = prepared.binds;
  there = all_more (IsKnownAs (known_by around statement)) (IsThere other (known_by around statement)) (λ definition known. inr known) prepared.definitions (prepared.none nameless);
  none = prepared.none;
  first = prepared.first;
}

module _ (around : Around) (statement : Statement) (table : TableTree) (text : List ℕ) (form : form_of statement ≡ Form-F.CreateTable table text) (back : ReadsBackAs statement (Form-F.CreateTable table text))
    (session : ℕ) (begin log : List Logged) (mine : List Exchange) (tied : Tied session begin log mine) where
  abbrev Made : Result Effect Failure → List Exchange → List Exchange → Type 0
  Made result = Stands log

  -- a fact of no database in particular
  abbrev Known : Type 0 → List Exchange → List Exchange → Type 0
  Known C = StandsWith log (λ db. C)

  -- it is known still behind the begin of a transaction
  begun_knows : (C : Type 0) → Brings log mine (Known C) (enters true) (λ (home : Result Home Failure). Known C)
  unfolding enters
  begun_knows C = brings_reads log mine (Known C) (λ p. if p.is_open then over (Ok Open) else Beginning) (λ (home : Result Home Failure). Known C) (λ p. by_open p.is_open)
    where
      Beginning : Doing (Result Home Failure)
      Beginning = asks ops.Begin (unless_refused (where_begun (over (Ok Own))))

      on : (a : Result Home Failure) → Brings log mine (Known C) (over a) (λ (home : Result Home Failure). Known C)
      on a = brings_over log mine (Known C) a (λ (home : Result Home Failure). Known C) (λ before later is known. known)

      step : (before : List Exchange) (x : Exchange) (later : List Exchange) → mine ≡ before ++ x ∷ later → x.op ≡ ops.Begin → CanReply ops.Begin x.reply → Known C before (x ∷ later)
          → (x.op ≡ ops.Commit → Keeps log before x) × Known C (before ++ x ∷ []) later
      step before x later is of can known =
          ((λ commits. absurd (let no : ops.Begin ≡ ops.Commit = sym of ∙ commits in cc)), (one_stands session begin log mine tied before x later is (subst IsStill (sym of) tt) known.0, λ intact. known.1 (subst Intact (base x.reply can) intact)))
        where
          base : (reply : Reply) → CanReply ops.Begin reply → base_of log later ≡ State (take (place_or reply (place_of (length log) later)) log)
          base replies.Began can = refl
          base replies.Memory can = refl
          base reply can = absurd can

      by_reply : (reply : Reply) → CanReply ops.Begin reply → Brings log mine (Known C) (unless_refused (where_begun (over (Ok Own))) reply) (λ (home : Result Home Failure). Known C)
      by_reply replies.Began can = on (Ok Own)
      by_reply replies.Memory can = on (Err (plain no_memory))
      by_reply reply can = absurd can

      by_open : (b : Bool) → Brings log mine (Known C) (if b then over (Ok Open) else Beginning) (λ (home : Result Home Failure). Known C)
      by_open true = on (Ok Open)
      by_open false = brings_asks log mine (Known C) ops.Begin (unless_refused (where_begun (over (Ok Own)))) (λ reply. Known C) (λ (home : Result Home Failure). Known C) step by_reply

  -- so work that may count on it keeps what stands
  own_knows : (C : Type 0) (work : Doing (Result Effect Failure)) → Brings log mine (Known C) work Made → Brings log mine (Known C) (own true work) Made
  unfolding own
  own_knows C work brings =
      brings_bind log mine (Known C) (enters true) (λ (home : Result Home Failure). Known C) (λ home. work then λ came. leaves home (is_ok came) then λ done. over came) Made (begun_knows C)
      (λ home. brings_then log mine (Known C) work Made (λ came. leaves home (is_ok came) then λ done. over came) Made brings
      (λ came. carries_still (leaves home (is_ok came) then λ done. over came) (left_still home came) session begin log mine tied))
      (λ failure before later is known. known.0)

  -- the name of `objects` is none of a batch
  unless_bring : (From : List Exchange → List Exchange → Type 0) (tree : Doing (Result Effect Failure)) → ((before later : List Exchange) → mine ≡ before ++ later → From before later → Stands log before later)
      → (is_objects table.name ≡ false → Brings log mine From tree Made) → Brings log mine From (unless_objects table.name tree) Made
  unless_bring From tree stands brings = by_name (is_objects table.name) refl
    where
      by_name : (b : Bool) → is_objects table.name ≡ b → Brings log mine From (if b then fails_naming object_present table.name else tree) Made
      by_name true is = brings_mono log mine (Stands log) From (fails_naming object_present table.name) Made Made stands (λ a before later is stands. stands)
          (carries_still (fails_naming object_present table.name) (only_naming AnyStep IsStill Effect object_present table.name) session begin log mine tied)
      by_name false is = brings is

  -- what is bound within the transaction
  inner : (shapes : List TableTree) (of : Bound) → Brings log mine (StandsWith log (IsPrepared around statement shapes of)) (unless_objects table.name (creates table.name text)) Made
  inner shapes of = unless_bring (StandsWith log (IsPrepared around statement shapes of)) (creates table.name text) (λ before later is from. from.0)
      (λ other. brings_mono log mine (StandsWith log (MayCreate table.name text)) (StandsWith log (IsPrepared around statement shapes of)) (creates table.name text) Made Made
      (λ before later is from. (from.0, λ intact. may_create (at_place log before later) around statement table text shapes of form back other (from.1 intact) (from.0 intact).now)) (λ a before later is stands. stands)
      (creates_bring session begin log mine tied table.name text))

  -- and what is bound in front of it, where nothing was looked up
  abbrev Anywhere : List TableTree → Bound → Type 0
  Anywhere shapes of = (db : Database) → IsPrepared around statement shapes of db

  outer : asks_any (known_by around statement) (looked_up statement) ≡ false → (shapes : List TableTree) (of : Bound) → Brings log mine (StandsWith log (IsPrepared around statement shapes of)) (unless_objects table.name (own true (creates table.name text))) Made
  outer nameless shapes of = unless_bring (StandsWith log (IsPrepared around statement shapes of)) (own true (creates table.name text)) (λ before later is from. from.0)
      (λ other. brings_mono log mine (Known (Anywhere shapes of)) (StandsWith log (IsPrepared around statement shapes of)) (own true (creates table.name text)) Made Made
      (λ before later is from. (from.0, λ intact db. elsewhere (at_place log before later) db around statement shapes of nameless (from.1 intact))) (λ a before later is stands. stands)
      (own_knows (Anywhere shapes of) (creates table.name text)
      (brings_mono log mine (StandsWith log (MayCreate table.name text)) (Known (Anywhere shapes of)) (creates table.name text) Made Made
      (λ before later is from. (from.0, λ intact. may_create (at_place log before later) around statement table text shapes of form back other (from.1 intact (at_place log before later)) (from.0 intact).now)) (λ a before later is stands. stands)
      (creates_bring session begin log mine tied table.name text))))

  created_brings : Brings log mine (Stands log) (creates_table around statement table.name text) Made
  unfolding creates_table own ◌then◌
  created_brings = brings_room log mine (Stands log) (λ enough. if enough then Creating (asks_any (known_by around statement) (looked_up statement)) else fails no_memory) Made by_room
    where
      Creating : Bool → Doing (Result Effect Failure)
      Creating b = if b then own true (binds around statement λ shapes of. unless_objects table.name (creates table.name text)) else binds around statement λ shapes of. unless_objects table.name (own true (creates table.name text))

      by_asks : (b : Bool) → asks_any (known_by around statement) (looked_up statement) ≡ b → Brings log mine (Stands log) (Creating b) Made
      by_asks true is = brings_bind log mine (Stands log) (enters true) (λ (home : Result Home Failure). Stands log) (λ home. binds around statement (λ shapes of. unless_objects table.name (creates table.name text)) then λ came. leaves home (is_ok came) then λ done. over came) Made
          (carries_still (enters true) (enters_still true) session begin log mine tied)
          (λ home. brings_then log mine (Stands log) (binds around statement (λ shapes of. unless_objects table.name (creates table.name text))) Made (λ came. leaves home (is_ok came) then λ done. over came) Made
          (binds_bring session begin log mine tied around statement (λ shapes of. unless_objects table.name (creates table.name text)) inner)
          (λ came. carries_still (leaves home (is_ok came) then λ done. over came) (left_still home came) session begin log mine tied))
          (λ failure before later is stands. stands)
      by_asks false is = binds_bring session begin log mine tied around statement (λ shapes of. unless_objects table.name (own true (creates table.name text))) (outer is)

      by_room : (enough : Bool) → Brings log mine (Stands log) (if enough then Creating (asks_any (known_by around statement) (looked_up statement)) else fails no_memory) Made
      by_room true = by_asks (asks_any (known_by around statement) (looked_up statement)) refl
      by_room false = brings_over log mine (Stands log) (Err (plain no_memory)) Made (λ before later is stands. stands)

pub creates_carry : (around : Around) (statement : Statement) (table : TableTree) (text : List ℕ) → form_of statement ≡ Form-F.CreateTable table text → ReadsBackAs statement (Form-F.CreateTable table text) → Carries (creates_table around statement table.name text)
creates_carry around statement table text form back session begin log mine tied = created_brings around statement table text form back session begin log mine tied
