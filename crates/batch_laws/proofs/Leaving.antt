-- What exchanges leave of a transaction, part by part: what it has written, and what they commit.
use Rattle.std.proofs.Common.{◌≡◌, ◌⊎◌, inl, inr, ℕ, ℤ, Bool, true, false, List, [], ◌∷◌, ◌++◌, Option, None, Some, Ok, refl, sym, ap, ◌∙◌, subst, append_assoc, append-nil}
use Rattle.tsql_tree.specs.declared.definition.Definition.{Definition}
use Rattle.tsql_tree.specs.declared.definition.Definition.TheVariants.{Table, Procedure, Trigger}
use Rattle.value_types.specs.declared.value.Value.{Value}
use Rattle.tsql_tree.specs.declared.definition.TableTree.{TableTree}
use Rattle.tsql_tree.specs.declared.statement.DropKind.{DropKind}
use Rattle.tsql_tree.specs.declared.statement.DropKind.TheVariants as drop
use Rattle.tsql_tree.specs.declared.statement.Form.{Form-F}
use Rattle.tsql_tree.specs.declared.statement.Statement.{Statement}
use Rattle.bound_tree.specs.declared.query.BoundQuery.{BoundQuery}
use Rattle.bound_tree.specs.declared.write.Bound.{Bound}
use Rattle.bound_tree.specs.declared.write.Bound.TheVariants as bound
use Rattle.binder.specs.Names.{Layer, form_of, looked_up}
use Rattle.table_rows.specs.Definitions.{defined_name, is_objects, tables_of}
use Rattle.step_model.specs.declared.change.Planned.{Planned}
use Rattle.step_model.specs.declared.manner.Manner.{Manner}
use Rattle.step_model.specs.declared.op.Op.{Op}
use Rattle.step_model.specs.declared.op.Op.TheVariants as ops
use Rattle.step_model.specs.declared.range.Start.{Start}
use Rattle.step_model.specs.declared.range.Start.TheVariants.{First}
use Rattle.step_model.specs.declared.reply.Reply.{Reply}
use Rattle.step_model.specs.declared.reply.Reply.TheVariants as replies
use Rattle.step_model.specs.Dialog as said
use Rattle.step_model.specs.Dialog.{Dialog, IsQuiet}
use Rattle.step_model.specs.Exchange.{CanReply, Exchange}
use Rattle.step_model.specs.Fits.{commits_from, committed_by}
use Rattle.step_model.specs.Own.{Progress as Stand, own_at, progress_after, progress_from}
use Rattle.step_model.specs.Ranges.{Rows}
use Rattle.dml_exec.specs.declared.refusal.Level.{Level}
use Rattle.dml_exec.specs.declared.refusal.Level.TheVariants.{Serializable}
use Rattle.dml_exec.specs.declared.written.Written.TheVariants as written
use Rattle.dml_exec.specs.Reading.{GivenRows, behind_gone, images_of, none_given}
use Rattle.dml_exec.specs.Writing.{writes}
use Rattle.statement_paths.specs.Asked.{AskOnly, IsFetch}
use Rattle.write_laws.proofs.Parts.{from_both}
use Rattle.write_laws.proofs.Writes.{applied_adds}
use Rattle.batch_meaning.specs.Asking.{KnownNames, is_table, with_found}
use Rattle.batch_meaning.specs.Changing.{created, definition_erased, whole}
use Rattle.batch_meaning.specs.Progress.{SessionProgress, values_of}
use Rattle.batch_meaning.specs.Raised.{Around, around_batch}
use Rattle.batch_meaning.specs.Selecting.{Effect, no_effect}
use Rattle.batch_meaning.specs.Working.{given_in, known_by}
use Rattle.batch_meaning.specs.Writes.{Written}
use Rattle.statement_paths.specs.Paths.{definition_put, replied, AddsBy, AreApplied, AreDefined, AreLookedUp, AreRead, AreValues, IsAnswered, IsBound, IsChange, IsChanged, IsCreated, IsDone, IsDoneAs, IsDrop, IsFailed, IsForward, IsFoundBy, IsFoundFor, IsLookedUp, IsPut, IsRelaxed, IsReturned, IsSelect, IsStatus, IsTableDropped, IsTakenBack, IsUndone, IsWorked, NoneCommits}
use Rattle.statement_paths.proofs.Only.{NoCommit, quiet_commits, says_held, says_quiet}
use Rattle.statement_paths.proofs.Asking.{images_say}
use Rattle.statement_paths.proofs.Owned.{none_append}
use Rattle.batch_laws.proofs.Writes.{own_last}

-- ---- commits

pub commits_both : (stand : Stand) (front back : List Exchange) → commits_from stand (front ++ back) ≡ commits_from stand front ++ commits_from (progress_from stand front) back
commits_both stand [] back = refl
commits_both stand (x ∷ front) back =
    ap (λ (l : List _). committed_by x.op x.reply stand ++ l) (commits_both (progress_after stand x.op x.reply) front back)
    ∙ sym (append_assoc (committed_by x.op x.reply stand) (commits_from (progress_after stand x.op x.reply) front) (commits_from (progress_from (progress_after stand x.op x.reply) front) back))

-- ---- what is written

-- these changes were written, and nothing was begun, ended or committed
pub record Wrote (stand : Stand) (exchanges : List Exchange) (more : List Planned) : Type 0 where
  pub is_open : (progress_from stand exchanges).is_open ≡ stand.is_open
  pub own : (progress_from stand exchanges).own ≡ stand.own ++ more
  pub commits : commits_from stand exchanges ≡ []
  pub calm : NoneCommits exchanges

pub wrote_none : (stand : Stand) → Wrote stand [] []
wrote_none stand = record { is_open = refl; own = sym (append-nil stand.own); commits = refl; calm = tt }

pub wrote_both : (stand : Stand) (exchanges front back : List Exchange) (first second : List Planned) → exchanges ≡ front ++ back → Wrote stand front first → Wrote (progress_from stand front) back second → Wrote stand exchanges (first ++ second)
wrote_both stand exchanges front back first second parts one two =
    let at : progress_from stand exchanges ≡ progress_from (progress_from stand front) back = ap (progress_from stand) parts ∙ from_both stand front back in
    record {
      is_open = ap (λ (s : Stand). s.is_open) at ∙ two.is_open ∙ one.is_open;
      own = ap (λ (s : Stand). s.own) at ∙ two.own ∙ ap (λ (l : List Planned). l ++ second) one.own ∙ append_assoc stand.own first second;
      commits = ap (commits_from stand) parts ∙ commits_both stand front back ∙ ap (λ (l : List _). l ++ commits_from (progress_from stand front) back) one.commits ∙ two.commits;
      calm = subst NoneCommits (sym parts) (none_append front back one.calm two.calm);
    }

-- ---- fetches

fetch_after : (op : Op) (reply : Reply) (stand : Stand) → IsFetch op → CanReply op reply → progress_after stand op reply ≡ record stand { own = stand.own ++ [] }
fetch_after (ops.Fetch table start stop hold part) (replies.Ended place) stand fetch can = absurd can
fetch_after (ops.Fetch table start stop hold part) reply stand fetch can = refl
fetch_after op reply stand fetch can = absurd fetch

fetch_commits : (op : Op) (reply : Reply) (stand : Stand) → IsFetch op → committed_by op reply stand ≡ []
fetch_commits (ops.Fetch table start stop hold part) reply stand fetch = refl
fetch_commits op reply stand fetch = absurd fetch

pub fetch_stand : (exchanges : List Exchange) (stand : Stand) → AskOnly IsFetch exchanges → (progress_from stand exchanges ≡ stand) × (commits_from stand exchanges ≡ [])
fetch_stand [] stand fetches = (refl, refl)
fetch_stand (x ∷ later) stand fetches =
    let same : progress_after stand x.op x.reply ≡ stand = fetch_after x.op x.reply stand fetches.0.0 fetches.0.1 ∙ ap (λ (l : List Planned). record stand { own = l }) (append-nil stand.own) in
    let rest = fetch_stand later stand fetches.1 in (
      ap (λ (s : Stand). progress_from s later) same ∙ rest.0,
      ap (λ (l : List _). l ++ commits_from (progress_after stand x.op x.reply) later) (fetch_commits x.op x.reply stand fetches.0.0) ∙ ap (λ (s : Stand). commits_from s later) same ∙ rest.1,
    )

fetch_calm : (exchanges : List Exchange) → AskOnly IsFetch exchanges → NoneCommits exchanges
fetch_calm [] fetches = tt
fetch_calm (x ∷ later) fetches = (one x.op fetches.0.0, fetch_calm later fetches.1)
  where
    one : (op : Op) → IsFetch op → NoCommit op
    one (ops.Fetch table start stop hold part) is so = let no : ops.Fetch table start stop hold part ≡ ops.Commit = so in absurd (cc)
    one op is so = absurd is

pub wrote_fetches : (stand : Stand) (exchanges : List Exchange) → AskOnly IsFetch exchanges → Wrote stand exchanges []
wrote_fetches stand exchanges fetches =
    let is = fetch_stand exchanges stand fetches in
    record { is_open = ap (λ (s : Stand). s.is_open) is.0; own = ap (λ (s : Stand). s.own) is.0 ∙ sym (append-nil stand.own); commits = is.1; calm = fetch_calm exchanges fetches }

-- ---- quiet exchanges

quiet_after : (op : Op) (reply : Reply) (stand : Stand) → IsQuiet op → CanReply op reply → ((progress_after stand op reply).is_open ≡ stand.is_open) × (committed_by op reply stand ≡ [])
quiet_after ops.Begin reply stand quiet can = absurd quiet
quiet_after ops.Relax reply stand quiet can = absurd quiet
quiet_after ops.Commit reply stand quiet can = absurd quiet
quiet_after ops.Rollback reply stand quiet can = absurd quiet
quiet_after (ops.Fetch table start stop hold part) (replies.Ended place) stand quiet can = absurd can
quiet_after (ops.Insert table key row) (replies.Ended place) stand quiet can = absurd can
quiet_after (ops.Replace table key row) (replies.Ended place) stand quiet can = absurd can
quiet_after (ops.Erase table key) (replies.Ended place) stand quiet can = absurd can
quiet_after ops.Mark (replies.Ended place) stand quiet can = absurd can
quiet_after (ops.BackTo mark) (replies.Ended place) stand quiet can = absurd can
quiet_after op reply stand quiet can = (refl, refl)

quiet_stand : (exchanges : List Exchange) (stand : Stand) → AskOnly IsQuiet exchanges → ((progress_from stand exchanges).is_open ≡ stand.is_open) × (commits_from stand exchanges ≡ [])
quiet_stand [] stand quiet = (refl, refl)
quiet_stand (x ∷ later) stand quiet =
    let first = quiet_after x.op x.reply stand quiet.0.0 quiet.0.1 in
    let rest = quiet_stand later (progress_after stand x.op x.reply) quiet.1 in
    (rest.0 ∙ first.0, ap (λ (l : List _). l ++ commits_from (progress_after stand x.op x.reply) later) first.1 ∙ rest.1)

quiet_calm : (exchanges : List Exchange) → AskOnly IsQuiet exchanges → NoneCommits exchanges
quiet_calm [] quiet = tt
quiet_calm (x ∷ later) quiet = (quiet_commits x.op quiet.0.0, quiet_calm later quiet.1)

wrote_quiet : (stand : Stand) (exchanges : List Exchange) (more : List Planned) → AskOnly IsQuiet exchanges → (progress_from stand exchanges).own ≡ stand.own ++ more → Wrote stand exchanges more
wrote_quiet stand exchanges more quiet own = let is = quiet_stand exchanges stand quiet in record { is_open = is.0; own = own; commits = is.1; calm = quiet_calm exchanges quiet }

-- ---- the parts of work

wrote_images : (stand : Stand) (manner : Manner) (given : GivenRows) (shapes : List TableTree) (level : Level) (vars : List Value) (of : Bound) (exchanges : List Exchange) (images : List Rows) → said.Held manner (images_of given shapes level vars of) exchanges (Ok images) → Wrote stand exchanges []
wrote_images stand manner given shapes level vars of exchanges images held = wrote_fetches stand exchanges (says_held IsFetch manner (images_of given shapes level vars of) exchanges (Ok images) (images_say IsFetch (λ op is. is) given shapes level vars of) held)

wrote_read : (stand : Stand) (manner : Manner) (given : GivenRows) (level : Level) (vars : List Value) (shapes : List TableTree) (of : Bound) (exchanges : List Exchange) (images : List Rows) → AreRead manner given level vars shapes of exchanges images → Wrote stand exchanges []
wrote_read stand manner given level vars [] of exchanges images is = subst (λ (l : List Exchange). Wrote stand l []) (sym is.0) (wrote_none stand)
wrote_read stand manner given level vars (shape ∷ shapes) of exchanges images is = wrote_images stand manner given (shape ∷ shapes) level vars of exchanges images is

looked_fetch : (manner : Manner) (is_own : Bool) (name : List ℕ) (exchanges : List Exchange) (found : Option Definition) → IsLookedUp manner is_own name exchanges found → AskOnly IsFetch exchanges
looked_fetch manner true name exchanges found is = subst (AskOnly IsFetch) (sym is.0) tt
looked_fetch manner false name exchanges found is =
    subst (AskOnly IsFetch) (sym is.1) ((subst IsFetch (sym is.2.0) tt, subst (λ (o : Op). CanReply o is.0.reply) (sym is.2.0) is.2.2), tt)

found_fetch : (manner : Manner) (known : Option (Option Definition)) (name : List ℕ) (exchanges : List Exchange) (found : Option Definition) → IsFoundBy manner known name exchanges found → AskOnly IsFetch exchanges
found_fetch manner None name exchanges found is = looked_fetch manner (is_objects name) name exchanges found is
found_fetch manner (Some known) name exchanges found is = subst (AskOnly IsFetch) (sym is.0) tt

ask_both : (P : Op → Type 0) (exchanges front back : List Exchange) → exchanges ≡ front ++ back → AskOnly P front → AskOnly P back → AskOnly P exchanges
ask_both P exchanges front back parts one two = subst (AskOnly P) (sym parts) (both front one)
  where
    both : (front : List Exchange) → AskOnly P front → AskOnly P (front ++ back)
    both [] one = two
    both (x ∷ front) one = (one.0, both front one.1)

pub looks_fetch : (manner : Manner) (known_names : KnownNames) (names : List (List ℕ)) (so_far : List Definition) (exchanges : List Exchange) (definitions : List Definition) → AreLookedUp manner known_names so_far names exchanges definitions → AskOnly IsFetch exchanges
looks_fetch manner known_names [] so_far exchanges definitions is = subst (AskOnly IsFetch) (sym is.0) tt
looks_fetch manner known_names (name ∷ names) so_far exchanges definitions is =
    ask_both IsFetch exchanges is.1 is.2 is.3 (found_fetch manner (known_names name) name is.1 is.0 is.4) (by_more (λ more. looks_fetch manner known_names names (with_found so_far is.0) is.2 definitions more) is.5)
  where
    by_more : (AreLookedUp manner known_names (with_found so_far is.0) names is.2 definitions → AskOnly IsFetch is.2)
        → ((is_table is.0 ≡ true) × AreLookedUp manner known_names (with_found so_far is.0) names is.2 definitions) ⊎ ((is_table is.0 ≡ false) × (is.2 ≡ []) × (definitions ≡ so_far)) → AskOnly IsFetch is.2
    by_more on (inl more) = on more.1
    by_more on (inr last) = subst (AskOnly IsFetch) (sym last.1) tt

pub defined_fetch : (manner : Manner) (exchanges : List Exchange) (start : Start) (so_far all : List Definition) → AreDefined manner start so_far exchanges all → AskOnly IsFetch exchanges
defined_fetch manner [] start so_far all is = absurd is
defined_fetch manner (x ∷ later) start so_far all is =
    ((subst IsFetch (sym is.0.0) tt, subst (λ (o : Op). CanReply o x.reply) (sym is.0.0) is.0.2), by_reply x.reply (λ on more here. defined_fetch manner later on more all here) is.1)
  where
    by_reply : (reply : Reply) → ((on : Start) (more : List Definition) → AreDefined manner on more later all → AskOnly IsFetch later) → AddsBy (λ on more. AreDefined manner on more later all) (λ more. (later ≡ []) × (all ≡ more)) so_far reply → AskOnly IsFetch later
    by_reply (replies.Row key row at) goes adds = goes (behind_gone 1 key) (with_found so_far adds.0) adds.2
    by_reply (replies.Gone key at) goes adds = goes (behind_gone 1 key) so_far adds
    by_reply (replies.End at) goes adds = subst (AskOnly IsFetch) (sym adds.0) tt
    by_reply reply goes adds = absurd adds

wrote_applied : (stand : Stand) (manner : Manner) (shapes : List TableTree) (plan planned : List Planned) (exchanges : List Exchange) → AreApplied manner shapes plan planned exchanges → Wrote stand exchanges planned
wrote_applied stand manner shapes plan planned exchanges applied =
    wrote_quiet stand exchanges planned (says_held IsQuiet manner (writes shapes plan) exchanges (Ok (written.Done applied.mark)) (says_quiet IsQuiet (writes shapes plan) (λ op quiet. quiet)) applied.whole)
    (applied_adds manner shapes plan planned exchanges applied stand)

wrote_parts : (stand : Stand) (exchanges defined read applied : List Exchange) (planned : List Planned) → exchanges ≡ defined ++ (read ++ applied) → AskOnly IsFetch defined → ((s : Stand) → Wrote s read []) → ((s : Stand) → Wrote s applied planned) → Wrote stand exchanges planned
wrote_parts stand exchanges defined read applied planned parts fetches reads applies =
    wrote_both stand exchanges defined (read ++ applied) [] planned parts (wrote_fetches stand defined fetches)
    (wrote_both (progress_from stand defined) (read ++ applied) read applied [] planned refl (reads (progress_from stand defined)) (applies (progress_from (progress_from stand defined) read)))

module _ (stand : Stand) (around : Around) (p : SessionProgress) where
  wrote_answered : (shapes : List TableTree) (query : BoundQuery) (rows : Rows) (exchanges : List Exchange) → IsAnswered around p shapes query rows exchanges → Wrote stand exchanges []
  wrote_answered shapes query rows exchanges a = wrote_read stand p.settings.manner (given_in around.fired) p.settings.level (values_of p.vars) shapes (bound.Query query) exchanges a.images a.reads

  nothing_planned : (exchanges : List Exchange) (planned : List Planned) → planned ≡ [] → Wrote stand exchanges [] → Wrote stand exchanges planned
  nothing_planned exchanges planned none wrote = subst (Wrote stand exchanges) (sym none) wrote

  wrote_select : (shapes : List TableTree) (of : Bound) (planned : List Planned) (effect : Effect) (exchanges : List Exchange) → IsSelect around p shapes of planned effect exchanges → Wrote stand exchanges planned
  wrote_select shapes (bound.Query query) planned effect exchanges s = nothing_planned exchanges planned s.plans (wrote_answered shapes query s.rows exchanges s.answered)
  wrote_select shapes (bound.Assign query places) planned effect exchanges s = nothing_planned exchanges planned s.plans (wrote_answered shapes query s.rows exchanges s.answered)
  wrote_select shapes bound.Plain planned effect exchanges is = absurd is
  wrote_select shapes (bound.Write write) planned effect exchanges is = absurd is

  wrote_values : (shapes : List TableTree) (of : Bound) (rows : Rows) (exchanges : List Exchange) → AreValues around p shapes of rows exchanges → Wrote stand exchanges []
  wrote_values shapes (bound.Query query) rows exchanges a = wrote_answered shapes query rows exchanges a
  wrote_values shapes bound.Plain rows exchanges is = subst (λ (l : List Exchange). Wrote stand l []) (sym is.1) (wrote_none stand)
  wrote_values shapes (bound.Write write) rows exchanges is = absurd is
  wrote_values shapes (bound.Assign query places) rows exchanges is = absurd is

  wrote_change : (shapes : List TableTree) (of : Bound) (planned : List Planned) (done : Written) (exchanges : List Exchange) → IsChange around p shapes of planned done exchanges → Wrote stand exchanges planned
  wrote_change [] of planned done exchanges is = absurd is
  wrote_change (shape ∷ shapes) (bound.Write write) planned done exchanges w =
      wrote_parts stand exchanges w.defined w.read w.applied planned w.parts (defined_fetch p.settings.manner w.defined First [] w.definitions w.defines)
      (λ s. wrote_images s p.settings.manner (given_in around.fired) (shape ∷ shapes) p.settings.level (values_of p.vars) (bound.Write write) w.read w.images w.reads) (λ s. wrote_applied s p.settings.manner (tables_of w.definitions) w.plan planned w.applied w.applies)
  wrote_change (shape ∷ shapes) (bound.Query query) planned done exchanges is = absurd is
  wrote_change (shape ∷ shapes) (bound.Assign query places) planned done exchanges is = absurd is
  wrote_change (shape ∷ shapes) bound.Plain planned done exchanges is = absurd is

  wrote_table : (shape : TableTree) (name : List ℕ) (planned : List Planned) (effect : Effect) (exchanges : List Exchange) → IsTableDropped around p shape name planned effect exchanges → Wrote stand exchanges planned
  wrote_table shape name planned effect exchanges d =
      wrote_parts stand exchanges d.defined d.read d.applied planned d.parts (defined_fetch p.settings.manner d.defined First [] d.definitions d.defines)
      (λ s. wrote_images s p.settings.manner none_given (shape ∷ []) Serializable [] (bound.Write (whole name)) d.read d.images d.reads) (λ s. wrote_applied s p.settings.manner [] d.plan planned d.applied d.applies)

  wrote_drop : (kind : DropKind) (name : List ℕ) (found : Option Definition) (planned : List Planned) (effect : Effect) (exchanges : List Exchange) → IsDrop around p kind name found planned effect exchanges → Wrote stand exchanges planned
  wrote_drop drop.Table name (Some (Table table)) planned effect exchanges d = wrote_table table name planned effect exchanges d.1
  wrote_drop drop.Procedure name (Some (Procedure procedure)) planned effect exchanges d = wrote_applied stand p.settings.manner [] (definition_erased name ∷ []) planned exchanges d.1.applies
  wrote_drop drop.Trigger name (Some (Trigger trigger)) planned effect exchanges d = wrote_applied stand p.settings.manner [] (definition_erased name ∷ []) planned exchanges d.1.applies
  wrote_drop kind name found planned effect exchanges is = absurd is

  wrote_created : (name text : List ℕ) (planned : List Planned) (effect : Effect) (exchanges : List Exchange) → IsCreated around p name text planned effect exchanges → Wrote stand exchanges planned
  wrote_created name text planned effect exchanges c =
      subst (Wrote stand exchanges) (sym c.plans) (subst (λ (l : List Exchange). Wrote stand l (definition_put name text ∷ [])) (sym c.parts) (record {
        is_open = refl;
        own = refl;
        commits = refl;
        calm = ((λ is. let no : ops.Mark ≡ ops.Commit = is in cc), ((λ is. let no : created name text ≡ ops.Commit = is in absurd (cc)), tt));
      }))

  wrote_worked : (form : Layer) (shapes : List TableTree) (of : Bound) (planned : List Planned) (effect : Effect) (exchanges : List Exchange) → IsWorked around p form shapes of planned effect exchanges → Wrote stand exchanges planned
  wrote_worked (Form-F.Select select) shapes of planned effect exchanges is = wrote_select shapes of planned effect exchanges is
  wrote_worked (Form-F.Insert table columns rows) shapes of planned effect exchanges is = wrote_change shapes of planned is.0 exchanges is.1
  wrote_worked (Form-F.Update table sets filter) shapes of planned effect exchanges is = wrote_change shapes of planned is.0 exchanges is.1
  wrote_worked (Form-F.Delete table filter) shapes of planned effect exchanges is = wrote_change shapes of planned is.0 exchanges is.1
  wrote_worked (Form-F.CreateTable table text) shapes of planned effect exchanges is = wrote_created table.name text planned effect exchanges is
  wrote_worked form shapes of planned effect exchanges c = nothing_planned exchanges planned c.plans (wrote_values shapes of c.rows exchanges c.values)

  wrote_bound : (statement : Statement) (Works : List TableTree → Bound → List Exchange → Type 0) (planned : List Planned) (exchanges : List Exchange) → ((at : Stand) (shapes : List TableTree) (of : Bound) (worked : List Exchange) → Works shapes of worked → Wrote at worked planned)
      → IsBound around p statement Works exchanges → Wrote stand exchanges planned
  wrote_bound statement Works planned exchanges wrote d =
      wrote_both stand exchanges d.looked d.worked [] planned d.parts (wrote_fetches stand d.looked (looks_fetch p.settings.manner (known_by around statement) (looked_up statement) [] d.looked d.definitions d.looks))
      (wrote (progress_from stand d.looked) (tables_of d.definitions) d.of d.worked d.works)

module _ (stand : Stand) (around : Around) (p : SessionProgress) (statement : Statement) where
  wrote_as : (form : Layer) (planned : List Planned) (effect : Effect) (exchanges : List Exchange) → IsDoneAs around p form statement planned effect exchanges → Wrote stand exchanges planned
  wrote_as (Form-F.Drop kind name) planned effect exchanges d =
      wrote_both stand exchanges d.looked d.worked [] planned d.parts (wrote_fetches stand d.looked (found_fetch p.settings.manner (known_by around statement name) name d.looked d.found d.looks))
      (wrote_drop (progress_from stand d.looked) around p kind name d.found planned effect d.worked d.works)
  wrote_as form planned effect exchanges d =
      wrote_bound stand around p statement (λ shapes of worked. IsWorked around p form shapes of planned effect worked) planned exchanges (λ at shapes of worked is. wrote_worked at around p form shapes of planned effect worked is) d

  -- work that was done has written what it planned
  pub wrote_done : (planned : List Planned) (effect : Effect) (exchanges : List Exchange) → IsDone around p statement planned effect exchanges → Wrote stand exchanges planned
  wrote_done planned effect exchanges d = wrote_as (form_of statement) planned effect exchanges d

  pub wrote_changed : (planned : List Planned) (done : Written) (exchanges : List Exchange) → IsChanged around p statement planned done exchanges → Wrote stand exchanges planned
  wrote_changed planned done exchanges d =
      wrote_bound stand around p statement (λ shapes of worked. IsChange around p shapes of planned done worked) planned exchanges (λ at shapes of worked is. wrote_change at around p shapes of planned done worked is) d

  pub wrote_returned : (status : ℤ) (exchanges : List Exchange) → IsReturned around p statement status exchanges → Wrote stand exchanges []
  wrote_returned status exchanges d =
      wrote_bound stand around p statement (λ shapes of worked. IsStatus around p shapes of status worked) [] exchanges (λ at shapes of worked is. wrote_values at around p shapes of is.rows worked is.values) d

looks_for : (manner : Manner) (of : Definition) (exchanges : List Exchange) → IsFoundFor manner of exchanges → AskOnly IsFetch exchanges
looks_for manner (Table table) exchanges is = absurd is
looks_for manner (Procedure procedure) exchanges is = subst (AskOnly IsFetch) (sym is) tt
looks_for manner (Trigger trigger) exchanges is = looked_fetch manner false trigger.table exchanges (Some (Table is.1.0)) is.1.2

pub wrote_put : (stand : Stand) (p : SessionProgress) (of : Definition) (text : List ℕ) (planned : List Planned) (exchanges : List Exchange) → IsPut p of text planned exchanges → Wrote stand exchanges planned
wrote_put stand p of text planned exchanges d =
    wrote_both stand exchanges d.looked d.worked [] planned d.parts (wrote_fetches stand d.looked (looks_for p.settings.manner of d.looked d.looks)) (wrote_created (progress_from stand d.looked) around_batch p (defined_name of) text planned no_effect d.worked d.works)

-- ---- what failed

forward_marks : (exchanges : List Exchange) (stand : Stand) → AskOnly IsForward exchanges → (progress_from stand exchanges).marks ≡ stand.marks
forward_marks [] stand forward = refl
forward_marks (x ∷ later) stand forward = forward_marks later (progress_after stand x.op x.reply) forward.1 ∙ one x.op x.reply forward.0.0 forward.0.1
  where
    one : (op : Op) (reply : Reply) → IsForward op → CanReply op reply → (progress_after stand op reply).marks ≡ stand.marks
    one (ops.Fetch table start stop hold part) (replies.Ended place) is can = absurd can
    one (ops.Insert table key row) (replies.Ended place) is can = absurd can
    one (ops.Replace table key row) (replies.Ended place) is can = absurd can
    one (ops.Erase table key) (replies.Ended place) is can = absurd can
    one ops.Begin reply is can = absurd is
    one ops.Mark reply is can = absurd is
    one (ops.BackTo mark) reply is can = absurd is
    one ops.Relax reply is can = absurd is
    one ops.Commit reply is can = absurd is
    one ops.Rollback reply is can = absurd is
    one op reply is can = refl

forward_quiet : (exchanges : List Exchange) → AskOnly IsForward exchanges → AskOnly IsQuiet exchanges
forward_quiet [] forward = tt
forward_quiet (x ∷ later) forward = ((one x.op forward.0.0, forward.0.1), forward_quiet later forward.1)
  where
    one : (op : Op) → IsForward op → IsQuiet op
    one (ops.Fetch table start stop hold part) is = tt
    one (ops.Insert table key row) is = tt
    one (ops.Replace table key row) is = tt
    one (ops.Erase table key) is = tt
    one op is = absurd is

wrote_back : (stand : Stand) (manner : Manner) (exchanges : List Exchange) → IsTakenBack manner exchanges → Wrote stand exchanges []
wrote_back stand manner exchanges t =
    let marked : Stand = record stand { marks = stand.marks ++ record { mark = t.mark; own = stand.own } ∷ [] } in
    let went : Stand = progress_from marked t.between in
    let quiet = quiet_stand t.between marked (forward_quiet t.between t.forward) in
    let back : Exchange = replied manner (ops.BackTo t.mark) replies.Done in
    subst (λ (l : List Exchange). Wrote stand l []) (sym t.parts) (record {
      is_open = ap (λ (s : Stand). s.is_open) (from_both marked t.between (back ∷ [])) ∙ quiet.0;
      own = ap (λ (s : Stand). s.own) (from_both marked t.between (back ∷ [])) ∙ ap (own_at t.mark) (forward_marks t.between marked t.forward) ∙ own_last t.mark stand.own stand.marks ∙ sym (append-nil stand.own);
      commits = commits_both marked t.between (back ∷ []) ∙ ap (λ (l : List _). l ++ commits_from went (back ∷ [])) quiet.1;
      calm = ((λ is. let no : ops.Mark ≡ ops.Commit = is in cc), none_append t.between (back ∷ []) (quiet_calm t.between (forward_quiet t.between t.forward)) ((λ is. let no : ops.BackTo t.mark ≡ ops.Commit = is in absurd (cc)), tt));
    })

wrote_undone : (stand : Stand) (manner : Manner) (exchanges : List Exchange) → IsUndone manner exchanges → Wrote stand exchanges []
wrote_undone stand manner exchanges (inl none) = subst (λ (l : List Exchange). Wrote stand l []) (sym none) (wrote_none stand)
wrote_undone stand manner exchanges (inr (inl refused)) = subst (λ (l : List Exchange). Wrote stand l []) (sym refused) (record { is_open = refl; own = refl; commits = refl; calm = ((λ is. let no : ops.Mark ≡ ops.Commit = is in cc), tt) })
wrote_undone stand manner exchanges (inr (inr taken)) = wrote_back stand manner exchanges taken

pub wrote_failed : (stand : Stand) (manner : Manner) (exchanges : List Exchange) → IsFailed manner exchanges → Wrote stand exchanges []
wrote_failed stand manner exchanges f = wrote_both stand exchanges f.read f.undone [] [] f.parts (wrote_fetches stand f.read f.reads) (wrote_undone (progress_from stand f.read) manner f.undone f.undoes)

pub wrote_relaxed : (stand : Stand) (manner : Manner) (exchanges : List Exchange) → IsRelaxed manner exchanges → Wrote stand exchanges []
wrote_relaxed stand manner exchanges (inl none) = subst (λ (l : List Exchange). Wrote stand l []) (sym none) (wrote_none stand)
wrote_relaxed stand manner exchanges (inr is) = subst (λ (l : List Exchange). Wrote stand l []) (sym is) (record { is_open = refl; own = refl; commits = refl; calm = ((λ so. let no : ops.Relax ≡ ops.Commit = so in cc), tt) })
