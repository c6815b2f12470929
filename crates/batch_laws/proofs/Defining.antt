-- A batch that defines a procedure or a trigger.
use Rattle.std.proofs.Common.{◌≡◌, ◌⊎◌, inl, inr, ℕ, ℤ, Bool, true, false, if◌then◌else◌, List, [], ◌∷◌, ◌++◌, None, Result, Ok, Err, refl, sym, ap, ◌∙◌, subst, append-nil}
use Rattle.std.specs.Prelude.{◌||◌, not}
use Rattle.tsql_tree.specs.declared.definition.Definition.{Definition}
use Rattle.tsql_tree.specs.declared.definition.Definition.TheVariants.{Table, Procedure, Trigger}
use Rattle.table_rows.specs.Definitions.{is_objects}
use Rattle.clause_binder.specs.Scope.{is_long}
use Rattle.step_model.specs.declared.change.Planned.{Planned}
use Rattle.step_model.specs.Exchange.{Exchange}
use Rattle.step_model.specs.Fits.{commit_of, commits_of}
use Rattle.step_model.specs.Net.{Net}
use Rattle.step_model.specs.Own.{Progress as Stand, none_open, progress_of}
use Rattle.tds_tokens.specs.Numbers.{command_none}
use Rattle.tds_tokens.specs.declared.token.Token.{Token}
use Rattle.batch_meaning.specs.declared.exit.Exit.{Exit}
use Rattle.batch_meaning.specs.declared.failure.Failure.{Failure}
use Rattle.batch_meaning.specs.declared.settings.Settings.{Settings}
use Rattle.batch_meaning.specs.Asking.{fails, fails_naming, look_up}
use Rattle.batch_meaning.specs.Changing.{object_present}
use Rattle.batch_meaning.specs.Doing.{◌then◌, Held}
use Rattle.batch_meaning.specs.Failures.{plain}
use Rattle.batch_meaning.specs.Meaning.{batch, behind_unseen, defined, defines_object, doomed_write, ends, has_failed, puts_object}
use Rattle.batch_meaning.specs.Progress.{SessionProgress, begins, made, sends, tells_rows}
use Rattle.batch_meaning.specs.Raised.{around_batch, raised_at}
use Rattle.batch_meaning.specs.Selecting.{Effect}
use Rattle.batch_meaning.specs.Tokens.{batch_done}
use Rattle.batch_meaning.specs.Unseen.{wants_begin}
use Rattle.batch_meaning.specs.Values.{outside_limits}
use Rattle.batch_meaning.specs.Working.{own}
use Rattle.batch_meaning.specs.Writes.{creates, creates_definition, is_odd_list, unless_objects}
use Rattle.statement_paths.specs.Paths.{HasPut, HasPutFailed}
use Rattle.statement_paths.proofs.Only.{AnyOp, IsTouch, only_if, only_naming, only_room}
use Rattle.statement_paths.proofs.Apart.{held_apart}
use Rattle.statement_paths.proofs.Looking.{look_reads}
use Rattle.statement_paths.proofs.Laws.{definition_done, definition_failed}
use Rattle.batch_laws.specs.Committing.{Agrees, IsIdle, IsWithin, Leaves, Stays}
use Rattle.batch_laws.specs.Laws.{DefinesEnds, DefinitionRuns, PutFails, PutSucceeds}
use Rattle.batch_laws.specs.Transactions.{Begins}
use Rattle.batch_laws.specs.Unseen.{DefinesGoes, UnseenDefines}
use Rattle.batch_laws.proofs.Batches.{closed_leaves, ends_held}
use Rattle.batch_laws.proofs.Ending.{fail_as, raises_held}
use Rattle.batch_laws.proofs.Idle.{Behind, IsShut, Shut, own_makes, raises_shut, shut_idle, shut_stays, stays_then}
use Rattle.batch_laws.proofs.Leaving.{wrote_put}
use Rattle.batch_laws.proofs.Named.{putting_trigger, trigger_only}
use Rattle.batch_laws.proofs.Statements.{none_leaves, work_fails_put, work_leaves_put}
use Rattle.batch_laws.proofs.Turns.{here_behind}
use Rattle.batch_laws.proofs.Unseen.{held_seen, seen_held, unseen_held, unwanted_off, unwanted_open}
use Rattle.batch_laws.proofs.Variables.{Still, creates_still, reads_still, still_vars}
use Rattle.batch_laws.proofs.Writing.{put_behind}

-- ---- it assigns nothing

definition_still : (of : Definition) (units : List ℕ) → Still (creates_definition of units)
unfolding creates_definition
definition_still (Table table) units = tt
definition_still (Procedure procedure) units = only_room IsTouch AnyOp _ (only_if IsTouch AnyOp (is_long procedure.name || is_odd_list procedure.parameters) (fails outside_limits) (unless_objects procedure.name (own true (creates procedure.name units))) tt
    (only_if IsTouch AnyOp (is_objects procedure.name) (fails_naming object_present procedure.name) (own true (creates procedure.name units)) (only_naming IsTouch AnyOp Effect object_present procedure.name) (own_makes IsTouch true (creates procedure.name units) (creates_still procedure.name units))))
definition_still (Trigger trigger) units = only_room IsTouch AnyOp _ (own_makes IsTouch (not (is_objects trigger.table)) (putting_trigger trigger units) (trigger_only IsTouch AnyOp trigger units (reads_still (look_up trigger.table) (look_reads trigger.table)) (creates_still trigger.name units)))

defined_shut : (line : ℤ) (came : Result Effect Failure) → Shut (defined line came)
defined_shut line (Ok effect) = (tt, (tt, tt))
defined_shut line (Err failure) = (tt, raises_shut around_batch line command_none (raised_at line failure))

-- ---- what was done

module _ (line : ℤ) (of : Definition) (units : List ℕ) (old new : SessionProgress) (exchanges : List Exchange) (exit : Exit) (before : Stand) (agrees : Agrees old.is_open before) where
  abbrev pub HasDefined : Type 0
  HasDefined =
      ((tokens : List Token) × (planned : List Planned) × (new.tokens ≡ old.tokens ++ tokens) × (PutSucceeds of units old exit tokens planned exchanges new ⊎ ((planned ≡ []) × PutFails line old exit tokens exchanges new)) × Leaves old.is_open new.is_open before exchanges planned)
      × (new.row_count ≡ 0) × (new.vars ≡ old.vars) × Stays old new

  -- behind what was asked for it
  record Put : Type 0 where
    defined_so : HasDefined
    idle : IsShut old → IsShut new

  -- its error strikes
  put_fails : (failure : Failure) (front back : List Exchange) (mid : SessionProgress) → exchanges ≡ front ++ back → Behind old mid → mid.vars ≡ old.vars → HasPutFailed old front → Leaves old.is_open old.is_open before front []
      → Held (defined line (Err failure)) mid back exit new → Put
  unfolding Held
  put_fails failure front back mid parts behind vars failed leaves held =
      let ends_so = raises_held around_batch line command_none (raised_at line failure) (made (tells_rows 0) mid) new back exit held in
      let struck = ends_so.0 in
      let near = behind.near in (
      record {
        defined_so = (
          (
            struck.tokens,
            [],
            struck.sent ∙ ap (λ (l : List Token). l ++ struck.tokens) behind.tokens,
            inr (refl, (failure, front, back, mid, parts, failed, near, struck.strikes)),
            fail_as old new exchanges before front back mid near parts leaves struck.stays,
          ),
          ap (λ (s : SessionProgress). s.row_count) ends_so.1,
          ap (λ (s : SessionProgress). s.vars) ends_so.1 ∙ vars,
          stays_then old mid new behind.stays (shut_stays (defined line (Err failure)) mid new back exit (defined_shut line (Err failure)) held),
        );
        idle = λ closed. shut_idle (defined line (Err failure)) mid new back exit (defined_shut line (Err failure)) held (behind.idle closed);
      }
      )

  put_ends : (came : Result Effect Failure) (front back : List Exchange) (mid : SessionProgress) → exchanges ≡ front ++ back → Held (creates_definition of units) old front came mid → Held (defined line came) mid back exit new → Put
  unfolding Held
  put_ends (Err failure) front back mid parts held rest =
      let failed = definition_failed of units old mid front failure held in
      put_fails failure front back mid parts (put_behind of units old mid front (Err failure) held) (still_vars (creates_definition of units) old mid front (Err failure) (definition_still of units) held) failed
      (work_fails_put old before agrees front failed) rest
  put_ends (Ok effect) front back mid parts held rest =
      let behind = put_behind of units old mid front (Ok effect) held in
      let done = definition_done of units old mid front effect held in
      let whole : exchanges ≡ front = parts ∙ ap (λ (l : List Exchange). front ++ l) rest.0 ∙ append-nil front in
      record {
        defined_so = (
          (
            [],
            done.0,
            ap (λ (s : SessionProgress). s.tokens) rest.2 ∙ behind.tokens ∙ sym (append-nil old.tokens),
            inl (subst (HasPut old of units done.0) (sym whole) done.1, rest.1, refl, ap (λ (s : SessionProgress). s.error) rest.2, subst (IsWithin old) (sym (ap (λ (s : SessionProgress). s.txn) rest.2)) behind.near.within),
            subst (λ (b : Bool). Leaves old.is_open b before exchanges done.0) (sym (ap (λ (s : SessionProgress). s.is_open) rest.2 ∙ behind.near.is_open))
                (subst (λ (l : List Exchange). Leaves old.is_open old.is_open before l done.0) (sym whole) (work_leaves_put before old.settings.manner old.is_open agrees front done.1.0 done.0 (λ stand. wrote_put stand old of units done.0 done.1.0 done.1.1) done.1.2)),
          ),
          ap (λ (s : SessionProgress). s.row_count) rest.2,
          ap (λ (s : SessionProgress). s.vars) rest.2 ∙ still_vars (creates_definition of units) old mid front (Ok effect) (definition_still of units) held,
          stays_then old mid new behind.stays (shut_stays (defined line (Ok effect)) mid new back exit (defined_shut line (Ok effect)) rest),
        );
        idle = λ closed. shut_idle (defined line (Ok effect)) mid new back exit (defined_shut line (Ok effect)) rest (behind.idle closed);
      }

  put_held : Held (puts_object line of units) old exchanges exit new → Put
  unfolding puts_object Held
  put_held held = by_doom old.txn.doomed held
    where
      by_doom : (doomed : Bool) → Held (if doomed then defined line (Err (plain doomed_write)) else (creates_definition of units then defined line)) old exchanges exit new → Put
      by_doom true was = put_fails (plain doomed_write) [] exchanges old refl (here_behind old) refl (inl refl) (none_leaves old.is_open before [] agrees refl) was
      by_doom false was = let on = held_apart (creates_definition of units) (defined line) old new exchanges exit was in put_ends on.came on.front on.back on.mid on.parts on.held on.rest

  -- where no transaction is begun unseen
  seen_put : wants_begin old ≡ false → Held (defines_object line of units) old exchanges exit new → Put
  unfolding defines_object
  seen_put seen held = put_held (seen_held (λ p. wants_begin p) (λ failure. defined line (Err failure)) (puts_object line of units) old new exchanges exit seen held)

pub defines_ends : DefinesEnds
defines_ends line of units old new exchanges exit before seen agrees held = (seen_put line of units old new exchanges exit before agrees seen held).defined_so

-- where one is
pub unseen_defines : UnseenDefines
unfolding defines_object Held
unseen_defines line of units old new exchanges exit wants held =
    let on = unseen_held (λ p. wants_begin p) (λ failure. defined line (Err failure)) (puts_object line of units) old new exchanges exit wants held in
    (on.0, on.1, on.2, on.3, on.4, on.5, by_came on.3 on.0 on.1 on.2 on.5 on.6)
  where
    by_came : (came : Result Effect Failure) (front back : List Exchange) (mid : SessionProgress) → Begins old None false came front mid → Held (behind_unseen (λ failure. defined line (Err failure)) (puts_object line of units) came) mid back exit new
        → DefinesGoes line of units came mid back exit new
    by_came (Ok effect) front back mid was goes =
        held_seen (λ p. wants_begin p) (λ failure. defined line (Err failure)) (puts_object line of units) (made (sends effect.tokens) mid) new back exit (unwanted_open (made (sends effect.tokens) mid) (ap (λ (s : SessionProgress). s.is_open) was.2)) goes
    by_came (Err failure) front back mid was goes =
        let struck = raises_held around_batch line command_none (raised_at line failure) (made (tells_rows 0) mid) new back exit goes in
        ((struck.0.tokens, struck.0.sent, struck.0.strikes), ap (λ (s : SessionProgress). s.row_count) struck.1)

-- ---- a batch

pub definition_runs : DefinitionRuns
unfolding batch Held
definition_runs line of units old new exchanges idle held =
    let begun : SessionProgress = made (begins []) old in
    let on = held_apart (defines_object line of units) ends begun new exchanges tt held in
    let agree : Agrees old.is_open none_open = subst (λ (b : Bool). Agrees b none_open) (sym idle.none.shut) refl in
    by_put begun on.front on.back on.mid on.came on.parts refl agree (seen_put line of units begun on.mid on.front on.came none_open agree (unwanted_off begun idle.seen) on.held) on.rest
  where
    by_put : (begun : SessionProgress) (front back : List Exchange) (mid : SessionProgress) (exit : Exit) → exchanges ≡ front ++ back → begun ≡ made (begins []) old → (agree : Agrees begun.is_open none_open) → Put line of units begun mid front exit none_open agree → Held (ends exit) mid back tt new
        → ((tokens : List Token) × (planned : List Planned) × (exit : Exit) × (last : SessionProgress) × (new.tokens ≡ tokens ++ batch_done (has_failed exit) ∷ []) × (commits_of exchanges ≡ commit_of (Net planned))
        × (PutSucceeds of units (made (begins []) old) exit tokens planned exchanges last ⊎ ((planned ≡ []) × PutFails line (made (begins []) old) exit tokens exchanges last)))
        × (progress_of exchanges ≡ none_open) × IsIdle new
    by_put begun front back mid exit parts same agree put rest =
        let put_so = put.defined_so.0 in
        let shut : begun.is_open ≡ false = ap (λ (s : SessionProgress). s.is_open) same ∙ idle.none.shut in
        let closed = closed_leaves begun.is_open mid.is_open front put_so.1 shut put_so.4 in
        let still = put.idle (subst IsShut (sym same) (idle.none.closed, idle.none.sound)) in
        let end = ends_held exit mid new back tt still.1 rest in
        let whole : front ≡ exchanges = sym (parts ∙ ap (λ (l : List Exchange). front ++ l) end.0 ∙ append-nil front) in
        let started : begun.tokens ≡ [] = ap (λ (s : SessionProgress). s.tokens) same in (
          (
            put_so.0,
            put_so.1,
            exit,
            mid,
            ap (λ (s : SessionProgress). s.tokens) end.1 ∙ ap (λ (l : List Token). l ++ batch_done (has_failed exit) ∷ []) (put_so.2 ∙ ap (λ (l : List Token). l ++ put_so.0) started),
            subst (λ (l : List Exchange). commits_of l ≡ commit_of (Net put_so.1)) whole closed.2,
            subst (λ (s : SessionProgress). PutSucceeds of units s exit put_so.0 put_so.1 exchanges mid ⊎ ((put_so.1 ≡ []) × PutFails line s exit put_so.0 exchanges mid)) same
                (subst (λ (l : List Exchange). PutSucceeds of units begun exit put_so.0 put_so.1 l mid ⊎ ((put_so.1 ≡ []) × PutFails line begun exit put_so.0 l mid)) whole put_so.3),
          ),
          subst (λ (l : List Exchange). progress_of l ≡ none_open) whole closed.1,
          subst IsIdle (sym end.1) (record { none = record { shut = closed.0; closed = still.0; sound = still.1 }; seen = ap (λ (s : Settings). s.implicit) put.defined_so.3.settings ∙ ap (λ (s : SessionProgress). s.settings.implicit) same ∙ idle.seen }),
        )
