-- Where a definition is put, or not, what stands goes on.
use Rattle.std.proofs.Common.{◌≡◌, ◌≢◌, ℕ, Bool, true, false, if◌then◌else◌, List, [], ◌∷◌, ◌++◌, length, map, take, None, Result, Ok, Err, refl, sym, ap, subst, ◌∙◌, append-nil}
use Rattle.step_model.specs.declared.change.Planned.{Planned}
use Rattle.step_model.specs.declared.op.Op.{Op}
use Rattle.step_model.specs.declared.op.Op.TheVariants as ops
use Rattle.step_model.specs.declared.reply.Reply.{Reply}
use Rattle.step_model.specs.declared.reply.Reply.TheVariants as replies
use Rattle.step_model.specs.Database.{Database, With}
use Rattle.step_model.specs.Exchange.{CanReply, Exchange}
use Rattle.step_model.specs.Fits.{FreshIn, place_of, place_or}
use Rattle.step_model.specs.Log.{Commit as Logged, State}
use Rattle.step_model.specs.Own.{Progress, change_of, progress_after, progress_of}
use Rattle.step_model.specs.Ranges.{deadlock, lock_timeout, no_memory}
use Rattle.step_model.proofs.Databases.{With-append}
use Rattle.std.proofs.lemmas.List.{map-append}
use Rattle.constraint_check.specs.Laws.{behind}
use Rattle.table_rows.specs.Rows.{rows_table}
use Rattle.table_rows.specs.Definitions.{object_key, objects_name}
use Rattle.write_laws.specs.Reads.{at_place}
use Rattle.batch_meaning.specs.declared.failure.Failure.{Failure}
use Rattle.batch_meaning.specs.Asking.{fails, marked, takes_back, unless_refused, where_done, with_room}
use Rattle.batch_meaning.specs.Changing.{created, object_present}
use Rattle.batch_meaning.specs.Doing.{asks, over}
use Rattle.batch_meaning.specs.Failures.{naming, plain}
use Rattle.batch_meaning.specs.Selecting.{Effect, no_effect}
use Rattle.batch_meaning.specs.Writes.{creates, inserted}
use Rattle.statement_paths.specs.Paths.{definition_put}
use Rattle.sound_laws.specs.Stands.{Intact, Keeps, Brings, Stands, StandsAt, base_of}
use Rattle.sound_laws.specs.Tied.{Tied}
use Rattle.sound_laws.proofs.Bringing.{brings_asks, brings_bind, brings_never, brings_over, brings_room}
use Rattle.sound_laws.proofs.Steps.{AllMarked, IsStill, after_one, one_stands}
use Rattle.sound_laws.proofs.Trees.{StandsWith}
use Rattle.sound_laws.proofs.Writing.{MarksStand, marks_one, was_taken_back}

-- A definition may be put in a database: where no row stands at its key, it is intact behind it.
abbrev pub MayCreate : List ℕ → List ℕ → Database → Type 0
MayCreate name text db = db (rows_table objects_name) (object_key name) ≡ None → Intact (behind db (definition_put name text ∷ []))

module _ (session : ℕ) (begin log : List Logged) (mine : List Exchange) (tied : Tied session begin log mine) (name text : List ℕ) where
  abbrev From : List Exchange → List Exchange → Type 0
  From = StandsWith log (MayCreate name text)

  -- ---- taken back

  -- behind a reply that says that it is done
  abbrev Done : Reply → List Exchange → List Exchange → Type 0
  Done replies.Done before later = Stands log before later
  Done reply before later = Unit {0}

  no_commit : (op : Op) (other : Op) → other ≢ ops.Commit → op ≡ other → op ≡ ops.Commit → ⊥
  no_commit op other differ is commits = absurd (differ (sym is ∙ commits))

  back_brings : (mark : ℕ) (failure : Failure) → Brings log mine (MarksStand log) (takes_back mark failure) (λ (result : Result (Unit {0}) Failure). Stands log)
  unfolding takes_back
  back_brings mark failure = brings_asks log mine (MarksStand log) (ops.BackTo mark) (where_done (over (Err failure))) Done (λ (result : Result (Unit {0}) Failure). Stands log) step by_reply
    where
      step : (before : List Exchange) (x : Exchange) (later : List Exchange) → mine ≡ before ++ x ∷ later → x.op ≡ ops.BackTo mark → CanReply (ops.BackTo mark) x.reply → MarksStand log before (x ∷ later)
          → (x.op ≡ ops.Commit → Keeps log before x) × Done x.reply (before ++ x ∷ []) later
      step before x later is of can marks =
          ((λ commits. absurd (no_commit x.op (ops.BackTo mark) (λ same. absurd (let no : ops.BackTo mark ≡ ops.Commit = same in cc)) of commits)), by_reply x.reply refl)
        where
          by_reply : (reply : Reply) → x.reply ≡ reply → Done reply (before ++ x ∷ []) later
          by_reply replies.Done done = was_taken_back session begin log mine tied before x later mark is of done marks
          by_reply reply same = tt

      by_reply : (reply : Reply) → CanReply (ops.BackTo mark) reply → Brings log mine (Done reply) (where_done (over (Err failure)) reply) (λ (result : Result (Unit {0}) Failure). Stands log)
      by_reply replies.Done can = brings_over log mine (Stands log) (Err failure) (λ (result : Result (Unit {0}) Failure). Stands log) (λ before later is stands. stands)
      by_reply reply can = brings_never log mine (Done reply) (λ (result : Result (Unit {0}) Failure). Stands log)

  -- ---- put

  -- what an insertion leaves: where it was done what stands goes on, and else the marks do
  abbrev Inserted : Reply → List Exchange → List Exchange → Type 0
  Inserted replies.Done before later = Stands log before later
  Inserted reply before later = MarksStand log before later

  put_stands : (before : List Exchange) (x : Exchange) (later : List Exchange) → mine ≡ before ++ x ∷ later → x.op ≡ created name text → x.reply ≡ replies.Done → From before (x ∷ later) → Stands log (before ++ x ∷ []) later
  put_stands before x later is of done from intact =
      let place : place_of (length log) (x ∷ later) ≡ place_of (length log) later = ap (λ (reply : Reply). place_or reply (place_of (length log) later)) done in
      let base : base_of log (x ∷ later) ≡ base_of log later = ap (λ (n : ℕ). State (take n log)) place in
      let here : Intact (base_of log (x ∷ later)) = subst Intact (sym base) intact in
      let own : List Planned = (progress_of before).own in
      let may : MayCreate name text (behind (base_of log later) own) = subst (λ (db : Database). MayCreate name text (behind db own)) base (from.1 here) in
      let free : behind (base_of log later) own (rows_table objects_name) (object_key name) ≡ None =
      subst (λ (reply : Reply). FreshIn (behind (base_of log later) own) (created name text) reply) done (subst (λ (op : Op). FreshIn (behind (base_of log later) own) op x.reply) of (tied.inserts before x later is)) in
      let after : progress_of (before ++ x ∷ []) ≡ progress_after (progress_of before) (created name text) replies.Done =
      after_one before x ∙ ap (λ (op : Op). progress_after (progress_of before) op x.reply) of ∙ ap (progress_after (progress_of before) (created name text)) done in
      let both : behind (behind (base_of log later) own) (definition_put name text ∷ []) ≡ behind (base_of log later) (own ++ definition_put name text ∷ []) =
      sym (ap (With (base_of log later)) (map-append change_of own (definition_put name text ∷ [])) ∙ With-append (base_of log later) (map change_of own) (map change_of (definition_put name text ∷ []))) in
      subst (StandsAt (base_of log later)) (sym after) (record {
        now = subst Intact both (may free);
        marks = subst (λ (db : Database). AllMarked (λ own. Intact (behind db own)) (progress_of before).marks) base (from.0 here).marks;
      })

  inserted_brings : (mark : ℕ) → Brings log mine From (asks (created name text) (inserted mark name)) (λ (result : Result (Unit {0}) Failure). Stands log)
  inserted_brings mark = brings_asks log mine From (created name text) (inserted mark name) Inserted (λ (result : Result (Unit {0}) Failure). Stands log) step by_reply
    where
      step : (before : List Exchange) (x : Exchange) (later : List Exchange) → mine ≡ before ++ x ∷ later → x.op ≡ created name text → CanReply (created name text) x.reply → From before (x ∷ later)
          → (x.op ≡ ops.Commit → Keeps log before x) × Inserted x.reply (before ++ x ∷ []) later
      step before x later is of can from =
          ((λ commits. absurd (no_commit x.op (created name text) (λ same. absurd (let no : created name text ≡ ops.Commit = same in cc)) of commits)), by_reply x.reply refl)
        where
          others : MarksStand log (before ++ x ∷ []) later
          others = marks_one log before x later (λ same. absurd (let no : created name text ≡ ops.Mark = sym of ∙ same in cc)) (λ intact. (from.0 intact).marks)

          by_reply : (reply : Reply) → x.reply ≡ reply → Inserted reply (before ++ x ∷ []) later
          by_reply replies.Done done = put_stands before x later is of done from
          by_reply reply same = others

      by_reply : (reply : Reply) → CanReply (created name text) reply → Brings log mine (Inserted reply) (inserted mark name reply) (λ (result : Result (Unit {0}) Failure). Stands log)
      by_reply replies.Done can = brings_over log mine (Stands log) (Ok tt) (λ (result : Result (Unit {0}) Failure). Stands log) (λ before later is stands. stands)
      by_reply replies.Exists can = brings_room log mine (MarksStand log) (λ enough. takes_back mark (if enough then naming object_present name else plain no_memory)) (λ (result : Result (Unit {0}) Failure). Stands log) (λ enough. back_brings mark (if enough then naming object_present name else plain no_memory))
      by_reply replies.Memory can = back_brings mark (plain no_memory)
      by_reply (replies.TimedOut holder held wanted on) can = back_brings mark (plain lock_timeout)
      by_reply (replies.Victim cycle) can = back_brings mark (plain deadlock)
      by_reply reply can = absurd can

  -- ---- behind its mark

  -- a mark changes nothing
  mark_stays : (before : List Exchange) (x : Exchange) (later : List Exchange) → mine ≡ before ++ x ∷ later → x.op ≡ ops.Mark → CanReply ops.Mark x.reply → From before (x ∷ later) → From (before ++ x ∷ []) later
  mark_stays before x later is of can from = (one_stands session begin log mine tied before x later is (subst IsStill (sym of) tt) from.0, by_reply x.reply refl can)
    where
      own_was : (reply : Reply) → CanReply ops.Mark reply → (progress_after (progress_of before) ops.Mark reply).own ≡ (progress_of before).own
      own_was (replies.Marked mark) can = refl
      own_was replies.Memory can = append-nil (progress_of before).own
      own_was reply can = absurd can

      place_was : (reply : Reply) → CanReply ops.Mark reply → place_or reply (place_of (length log) later) ≡ place_of (length log) later
      place_was (replies.Marked mark) can = refl
      place_was replies.Memory can = refl
      place_was reply can = absurd can

      by_reply : (reply : Reply) → x.reply ≡ reply → CanReply ops.Mark reply → Intact (base_of log later) → MayCreate name text (at_place log (before ++ x ∷ []) later)
      by_reply reply same can intact =
          let base : base_of log (x ∷ later) ≡ base_of log later = ap (λ (reply : Reply). State (take (place_or reply (place_of (length log) later)) log)) same ∙ ap (λ (n : ℕ). State (take n log)) (place_was reply can) in
          let own : (progress_of (before ++ x ∷ [])).own ≡ (progress_of before).own =
          ap (λ (p : Progress). p.own) (after_one before x ∙ ap (λ (op : Op). progress_after (progress_of before) op x.reply) of ∙ ap (progress_after (progress_of before) ops.Mark) same) ∙ own_was reply can in
          subst (λ (list : List Planned). MayCreate name text (behind (base_of log later) list)) (sym own)
          (subst (λ (db : Database). MayCreate name text (behind db (progress_of before).own)) base (from.1 (subst Intact (sym base) intact)))

  marked_brings : (reply : Reply) → CanReply ops.Mark reply → Brings log mine From (unless_refused (marked λ mark. asks (created name text) (inserted mark name)) reply) (λ (result : Result (Unit {0}) Failure). Stands log)
  marked_brings (replies.Marked mark) can = inserted_brings mark
  marked_brings replies.Memory can = brings_over log mine From (Err (plain no_memory)) (λ (result : Result (Unit {0}) Failure). Stands log) (λ before later is from. from.0)
  marked_brings reply can = absurd can

  pub creates_bring : Brings log mine From (creates name text) (λ (result : Result Effect Failure). Stands log)
  unfolding creates
  creates_bring = brings_bind log mine From (with_room (asks ops.Mark (unless_refused (marked λ mark. asks (created name text) (inserted mark name))))) (λ (put : Result (Unit {0}) Failure). Stands log) (λ put. over (Ok no_effect)) (λ (result : Result Effect Failure). Stands log)
      (brings_room log mine From (λ enough. if enough then asks ops.Mark (unless_refused (marked λ mark. asks (created name text) (inserted mark name))) else fails no_memory) (λ (put : Result (Unit {0}) Failure). Stands log) by_room)
      (λ put. brings_over log mine (Stands log) (Ok no_effect) (λ (result : Result Effect Failure). Stands log) (λ before later is stands. stands)) (λ failure before later is stands. stands)
    where
      by_room : (enough : Bool) → Brings log mine From (if enough then asks ops.Mark (unless_refused (marked λ mark. asks (created name text) (inserted mark name))) else fails no_memory) (λ (put : Result (Unit {0}) Failure). Stands log)
      by_room true = brings_asks log mine From ops.Mark (unless_refused (marked λ mark. asks (created name text) (inserted mark name))) (λ reply. From) (λ (put : Result (Unit {0}) Failure). Stands log)
          (λ before x later is of can from. ((λ commits. absurd (no_commit x.op ops.Mark (λ same. absurd (let no : ops.Mark ≡ ops.Commit = same in cc)) of commits)), mark_stays before x later is of can from)) marked_brings
      by_room false = brings_over log mine From (Err (plain no_memory)) (λ (put : Result (Unit {0}) Failure). Stands log) (λ before later is from. from.0)
