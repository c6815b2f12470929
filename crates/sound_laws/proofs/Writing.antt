-- Where changes are asked, and checked, or taken back, what stands goes on.
use Rattle.std.proofs.Common.{◌≡◌, ◌≢◌, ℕ, Bool, true, false, if◌then◌else◌, List, [], ◌∷◌, ◌++◌, length, map, take, None, Some, Result, Ok, Err, refl, sym, ap, subst, ◌∙◌, append-nil, append_assoc}
use Rattle.std.specs.List.{AllByRecursion}
use Rattle.value_types.specs.declared.table_name.TableName.{TableName}
use Rattle.value_types.specs.declared.value.Value.{Value}
use Rattle.tsql_tree.specs.declared.definition.TableTree.{TableTree}
use Rattle.step_model.specs.declared.change.Deed.{Deed}
use Rattle.step_model.specs.declared.change.Deed.TheVariants as deed
use Rattle.step_model.specs.declared.change.Planned.{Planned}
use Rattle.step_model.specs.declared.manner.Manner.{Manner}
use Rattle.step_model.specs.declared.op.Op.{Op}
use Rattle.step_model.specs.declared.op.Op.TheVariants as ops
use Rattle.step_model.specs.declared.reply.Reply.{Reply}
use Rattle.step_model.specs.declared.reply.Reply.TheVariants as replies
use Rattle.step_model.specs.Database.{Database, With}
use Rattle.step_model.specs.Dialog.{Dialog, Held as Said, IsQuiet, asks, never, over, room, tries, ◌then◌}
use Rattle.step_model.specs.Exchange.{CanReply, Exchange, MayCome}
use Rattle.step_model.specs.Fits.{NoneEnds, is_ended, place_of, place_or}
use Rattle.step_model.specs.Log.{Commit as Logged, State}
use Rattle.step_model.specs.Own.{Progress, change_of, is_own, progress_after, progress_of, standing_at}
use Rattle.constraint_check.specs.Laws.{Passes, behind}
use Rattle.table_rows.specs.Rows.{rows_table}
use Rattle.constraint_check.specs.Meant.{reads_meant}
use Rattle.constraint_check.specs.Reads.{reads_for}
use Rattle.dml_exec.specs.declared.refusal.Level.{Level}
use Rattle.dml_exec.specs.declared.refusal.Refusal.{Refusal}
use Rattle.dml_exec.specs.declared.written.Attempt.{Attempt}
use Rattle.dml_exec.specs.declared.written.Written.{Written}
use Rattle.dml_exec.specs.declared.written.Written.TheVariants as written
use Rattle.dml_exec.specs.Asking.{with_room}
use Rattle.dml_exec.specs.Planning.{all_changes, as_found}
use Rattle.dml_exec.specs.Writing.{asks_deed, asks_keys, attempts, behind_keys, checks_all, done_by, ends, marked, no_room, outcome, present, told, where_done, works, writes, writes_all, writes_one}
use Rattle.statement_paths.specs.Asked.{AskOnly, IsFetch}
use Rattle.statement_paths.specs.Paths.{AreApplied}
use Rattle.statement_paths.proofs.Asking.{keys_say}
use Rattle.write_laws.specs.Attempted.{IsToldPlan}
use Rattle.write_laws.specs.Indexed.{Indexed, own_rows}
use Rattle.write_laws.specs.Checking.{CanCheck}
use Rattle.write_laws.specs.Reads.{HoldsIt, at_place}
use Rattle.write_laws.specs.Sound.{Firm, IsTableOf}
use Rattle.write_laws.proofs.Applied.{applied_follows}
use Rattle.write_laws.proofs.Checking.{parts_pass}
use Rattle.write_laws.proofs.Checks.{all_fetches}
use Rattle.write_laws.proofs.Dialogs.{held_both}
use Rattle.write_laws.proofs.Parts.{AsksOnly, all_asked, asks_more, asks_ok, asks_room, asks_then}
use Rattle.write_laws.proofs.OwnMade.{own_applied}
use Rattle.write_laws.proofs.Writes.{applied_of, writes_leave, writes_pass}
use Rattle.batch_meaning.specs.declared.failure.Failure.{Failure}
use Rattle.batch_meaning.specs.Asking.{applies, unless_broken}
use Rattle.batch_meaning.specs.Doing.{Held}
use Rattle.batch_meaning.specs.Progress.{SessionProgress}
use Rattle.statement_paths.proofs.Apart.{holds_apart}
use Rattle.statement_paths.proofs.Only.{AnyStep, NoCommit, Only, only_gives, quiet_commits, says_held, says_quiet}
use Rattle.sound_laws.specs.Stands.{Intact, Brings, Stands, StandsAt, base_of}
use Rattle.sound_laws.specs.Tied.{Tied}
use Rattle.sound_laws.proofs.Bringing.{brings_mono}
use Rattle.sound_laws.proofs.Here.{place_past}
use Rattle.sound_laws.proofs.Steps.{AllMarked, IsStill, after_one, back_stands, marks_stand, one_stands}
use Rattle.sound_laws.proofs.Trees.{StandsBy, StandsWith, fetch_still, quiet_brings}

-- ---- what a dialog ends and asks

ends_none : (op : Op) (reply : Reply) → IsQuiet op → CanReply op reply → is_ended reply ≡ false
ends_none ops.Commit reply quiet can = absurd quiet
ends_none ops.Rollback reply quiet can = absurd quiet
ends_none ops.Begin reply quiet can = absurd quiet
ends_none ops.Relax reply quiet can = absurd quiet
ends_none ops.Mark (replies.Ended place) quiet can = absurd can
ends_none (ops.BackTo mark) (replies.Ended place) quiet can = absurd can
ends_none (ops.Fetch table start stop hold part) (replies.Ended place) quiet can = absurd can
ends_none (ops.Insert table key row) (replies.Ended place) quiet can = absurd can
ends_none (ops.Replace table key row) (replies.Ended place) quiet can = absurd can
ends_none (ops.Erase table key) (replies.Ended place) quiet can = absurd can
ends_none op reply quiet can = refl

-- no dialog ends a transaction
pub held_goes : {A : Type 0} (manner : Manner) (dialog : Dialog A) (part : List Exchange) (result : A) → Said manner dialog part result → NoneEnds part
unfolding Said
held_goes manner (over a) part result held = subst NoneEnds (sym held.0) tt
held_goes manner (asks op quiet go) [] result held = absurd held
held_goes manner (asks op quiet go) (x ∷ later) result held = (ends_none op x.reply quiet held.2, held_goes manner (go x.reply) later result held.3)
held_goes manner (room go) part result held = held_goes manner (go held.0) part result held.1
held_goes manner never part result held = absurd held

-- ---- no mark is set between changes and checks

abbrev pub IsNoMark : Op → Type 0
IsNoMark op = op ≢ ops.Mark

fetch_marks : (op : Op) → HoldsIt op → IsNoMark op
fetch_marks ops.Mark holds is = absurd holds
fetch_marks op holds is = absurd (let no : op ≡ ops.Mark = is in cc)

module _ (shapes : List TableTree) where
  tried_marks : (op : Op) (quiet : IsQuiet op) → IsNoMark op → AsksOnly IsNoMark (tries op quiet over)
  unfolding tries
  tried_marks op quiet other = by_room
    where
      by_room : (enough : Bool) → AsksOnly IsNoMark (if enough then asks op quiet over else over replies.Memory)
      by_room true = (other, λ reply. tt)
      by_room false = tt

  deed_marks : (table : TableName) (key : List Value) (deed : Deed) → AsksOnly IsNoMark (asks_deed table key deed)
  deed_marks table key deed.Erase = tried_marks (ops.Erase table key) tt (λ is. absurd (let no : ops.Erase table key ≡ ops.Mark = is in cc))
  deed_marks table key (deed.Replace row) = tried_marks (ops.Replace table key row) tt (λ is. absurd (let no : ops.Replace table key row ≡ ops.Mark = is in cc))
  deed_marks table key (deed.Insert row) = tried_marks (ops.Insert table key row) tt (λ is. absurd (let no : ops.Insert table key row ≡ ops.Mark = is in cc))

  done_marks : (change : Planned) (reply : Reply) → AsksOnly IsNoMark (done_by shapes change reply)
  done_marks change replies.Done = tt
  done_marks change replies.Exists = by_own (is_own change)
    where
      by_own : (own : Bool) → AsksOnly IsNoMark {A = Result (Unit {0}) _} (if own then with_room no_room (over (Err (present shapes change.table change.key))) else over (Ok tt))
      by_own true = asks_room IsNoMark no_room (over (Err (present shapes change.table change.key))) tt
      by_own false = tt
  done_marks change replies.Missing = tt
  done_marks change replies.Memory = tt
  done_marks change (replies.TimedOut holder held asked on) = tt
  done_marks change (replies.Victim cycle) = tt
  done_marks change reply = tt

  one_marks : (change : Planned) → AsksOnly IsNoMark (writes_one shapes change)
  unfolding writes_one
  one_marks change = asks_then IsNoMark (asks_deed change.table change.key change.deed) (done_by shapes change) (deed_marks change.table change.key change.deed) (done_marks change)

  all_marks : (changes : List Planned) → AsksOnly IsNoMark (writes_all shapes changes)
  unfolding writes_all
  all_marks [] = tt
  all_marks (change ∷ changes) = asks_ok IsNoMark (writes_one shapes change) (λ done. writes_all shapes changes) (one_marks change) (λ done. all_marks changes)

  pub works_marks : (changes : List Planned) (found : List Bool) → AsksOnly IsNoMark (works shapes changes found)
  unfolding works
  works_marks changes found =
      asks_ok IsNoMark (writes_all shapes (as_found changes found)) (λ done. with_room no_room (checks_all shapes (reads_for changes shapes))) (all_marks (as_found changes found))
      (λ done. asks_room IsNoMark no_room (checks_all shapes (reads_for changes shapes)) (asks_more HoldsIt IsNoMark fetch_marks (checks_all shapes (reads_for changes shapes)) (all_fetches shapes (reads_for changes shapes))))

-- ---- the marks

module _ (log : List Logged) where
  -- at each live mark the database is intact
  abbrev pub MarksStand : List Exchange → List Exchange → Type 0
  MarksStand before later = Intact (base_of log later) → AllMarked (λ own. Intact (behind (base_of log later) own)) (progress_of before).marks

  pub marks_one : (before : List Exchange) (x : Exchange) (later : List Exchange) → IsNoMark x.op → MarksStand before (x ∷ later) → MarksStand (before ++ x ∷ []) later
  marks_one before x later other marks intact = subst (λ (p : Progress). AllMarked (λ own. Intact (behind (base_of log later) own)) p.marks) (sym (after_one before x)) (by_reply x.reply marks)
    where
      by_reply : (reply : Reply) → (Intact (State (take (place_or reply (place_of (length log) later)) log)) → AllMarked (λ own. Intact (behind (State (take (place_or reply (place_of (length log) later)) log)) own)) (progress_of before).marks)
          → AllMarked (λ own. Intact (behind (base_of log later) own)) (progress_after (progress_of before) x.op reply).marks
      by_reply (replies.Ended place) m = tt
      by_reply reply m = marks_stand (base_of log later) intact (progress_of before) x.op reply other (m intact)

  pub marks_on : (part before later : List Exchange) → AskOnly IsNoMark part → MarksStand before (part ++ later) → MarksStand (before ++ part) later
  marks_on [] before later none marks = subst (λ (xs : List Exchange). MarksStand xs later) (sym (append-nil before)) marks
  marks_on (x ∷ part) before later none marks =
      subst (λ (xs : List Exchange). MarksStand xs later) (append_assoc before (x ∷ []) part) (marks_on part (before ++ x ∷ []) later none.1 (marks_one before x (part ++ later) none.0.0 marks))

module _ (session : ℕ) (begin log : List Logged) (mine : List Exchange) (tied : Tied session begin log mine) where
  -- a way back
  pub was_taken_back : (before : List Exchange) (x : Exchange) (later : List Exchange) (mark : ℕ) → mine ≡ before ++ x ∷ later → x.op ≡ ops.BackTo mark → x.reply ≡ replies.Done → MarksStand log before (x ∷ later) → Stands log (before ++ x ∷ []) later
  was_taken_back before x later mark is back done marks intact =
      let same : base_of log (x ∷ later) ≡ base_of log later = ap (λ (reply : Reply). State (take (place_or reply (place_of (length log) later)) log)) done in
      let may : MayCome (standing_at (progress_of before)) (ops.BackTo mark) = subst (MayCome (standing_at (progress_of before))) back (tied.comes before x later is) in
      let there : AllMarked (λ own. Intact (behind (base_of log later) own)) (progress_of before).marks = subst (λ (base : Database). AllMarked (λ own. Intact (behind base own)) (progress_of before).marks) same (marks (subst Intact (sym same) intact)) in
      subst (StandsAt (base_of log later)) (sym (after_one before x ∙ ap (λ (op : Op). progress_after (progress_of before) op x.reply) back ∙ ap (progress_after (progress_of before) (ops.BackTo mark)) done))
      (back_stands (base_of log later) intact (progress_of before) mark may there)

-- ---- a write

-- Changes of own rows may be made in a database: rows can be read behind them for their checks, and where these pass it is intact.
pub record MayWrite (db : Database) (shapes : List TableTree) (planned : List Planned) : Type 0 where
  pub own : AllByRecursion (λ change. is_own change ≡ true) planned
  pub can : CanCheck (behind db planned) shapes
  pub intact : AllByRecursion (Passes (behind db planned)) (reads_meant planned shapes) → Intact (behind db planned)

-- Changes may be made that were planned on rows which were told among the exchanges so far: where the parts follow the rows that change they do
-- behind all of it; then rows can be read for their checks; and where these pass the own rows are firm.
pub record MayChange (before : List Exchange) (db : Database) (shapes : List TableTree) (planned : List Planned) : Type 0 where
  pub level : Level
  pub shape : TableTree
  pub told : IsToldPlan before level shape planned
  pub defined : IsTableOf db shape
  pub can : Indexed (behind db planned) → CanCheck (behind db planned) shapes
  pub firm : AllByRecursion (Passes (behind db planned)) (reads_meant planned shapes) → Firm (own_rows (behind db planned))
  pub indexed : Indexed (behind db (all_changes (rows_table shape.name) shape told.rows)) → Indexed (behind db planned)

-- Changes may be made behind these exchanges: where that is what comes next, the database behind them is intact, too.
abbrev pub MayMake : List Logged → List TableTree → List Planned → List Exchange → List Exchange → Type 0
MayMake log shapes planned before later = (manner : Manner) (part rest : List Exchange) (mark : ℕ) → later ≡ part ++ rest → Said manner (writes shapes planned) part (Ok (written.Done mark))
    → Intact (at_place log before later) → Intact (at_place log (before ++ part) rest)

-- what a dialog came to, seen otherwise
said_on : {A B : Type 0} (manner : Manner) (dialog : Dialog A) (seen : A → B) (part : List Exchange) (a : A) → Said manner dialog part a → Said manner (dialog then λ a. over (seen a)) part (seen a)
unfolding Said ◌then◌
said_on manner (over c) seen part a held = (held.0, ap seen held.1)
said_on manner (asks op quiet go) seen [] a held = absurd held
said_on manner (asks op quiet go) seen (x ∷ part) a held = (held.0, held.1, held.2, said_on manner (go x.reply) seen part a held.3)
said_on manner (room go) seen part a held = (held.0, said_on manner (go held.0) seen part a held.1)
said_on manner never seen part a held = absurd held

-- what is over asks nothing
nothing_asked : {A : Type 0} (manner : Manner) (a : A) (part : List Exchange) (result : A) → Said manner (over a) part result → part ≡ []
unfolding Said
nothing_asked manner a part result held = held.0

-- what came of an attempt is what came of the write
pub attempt_wrote : (manner : Manner) (shapes : List TableTree) (planned : List Planned) (part : List Exchange) (attempt : Attempt) → Said manner (attempts shapes planned) part attempt → Said manner (writes shapes planned) part attempt.came
unfolding writes
attempt_wrote manner shapes planned part attempt held = said_on manner (attempts shapes planned) (λ attempt. attempt.came) part attempt held

module _ (session : ℕ) (begin log : List Logged) (mine : List Exchange) (tied : Tied session begin log mine) (manner : Manner) (shapes : List TableTree) (planned : List Planned) where
  module _ (before part later : List Exchange) (is : mine ≡ before ++ (part ++ later)) (attempt : Attempt) (held : Said manner (attempts shapes planned) part attempt)
      (from : StandsBy log (MayMake log shapes planned) before (part ++ later)) where
    goes_on : NoneEnds part
    goes_on = held_goes manner (attempts shapes planned) part attempt held

    base_past : base_of log (part ++ later) ≡ base_of log later
    base_past = ap (λ (n : ℕ). State (take n log)) (place_past (length log) part later goes_on)

    -- the changes were made, and their checks passed
    was_made : (mark : ℕ) → attempt.came ≡ Ok (written.Done mark) → MarksStand log (before ++ part) later → Stands log (before ++ part) later
    was_made mark done marks intact =
        let wrote : Said manner (writes shapes planned) part (Ok (written.Done mark)) = subst (λ (came : Result Written Refusal). Said manner (writes shapes planned) part came) done (attempt_wrote manner shapes planned part attempt held) in
        let there : Intact (base_of log (part ++ later)) = subst Intact (sym base_past) intact in
        record { now = from.1 there manner part later mark refl wrote (from.0 there).now; marks = marks intact }

  -- the end of an attempt, behind changes and checks
  ends_stand : (before part later : List Exchange) (mark : ℕ) (came : Result (Unit {0}) _) (attempt : Attempt) → mine ≡ before ++ (part ++ later) → MarksStand log before (part ++ later) → Said manner (ends mark came) part attempt
      → (((attempt.came ≡ Ok (written.Done mark)) × MarksStand log (before ++ part) later) → Stands log (before ++ part) later) → Stands log (before ++ part) later
  unfolding Said
  ends_stand before part later mark (Ok done) attempt is marks held made =
      made (ap (λ (a : Attempt). a.came) held.1, subst (λ (xs : List Exchange). MarksStand log (before ++ xs) later) (sym held.0) (subst (λ (xs : List Exchange). MarksStand log xs later) (sym (append-nil before)) (subst (λ (xs : List Exchange). MarksStand log before (xs ++ later)) held.0 marks)))
  ends_stand before [] later mark (Err why) attempt is marks held made = absurd held
  ends_stand before (x ∷ part) later mark (Err why) attempt is marks held made = by_reply x.reply refl held.2 held.3
    where
      by_reply : (reply : Reply) → x.reply ≡ reply → CanReply (ops.BackTo mark) reply → Said manner (where_done (over (told (Some mark) (outcome why))) reply) part attempt → Stands log (before ++ x ∷ part) later
      by_reply replies.Done done can rest =
          subst (λ (xs : List Exchange). Stands log (before ++ x ∷ xs) later) (sym rest.0)
          (was_taken_back session begin log mine tied before x later mark (is ∙ ap (λ (xs : List Exchange). before ++ x ∷ (xs ++ later)) rest.0) held.0 done (subst (λ (xs : List Exchange). MarksStand log before (x ∷ (xs ++ later))) rest.0 marks))
      by_reply reply other can rest = absurd can

  -- index rows that are asked for leave what stands
  keys_stand : (part before later : List Exchange) → mine ≡ before ++ (part ++ later) → AskOnly IsFetch part → Stands log before (part ++ later) → Stands log (before ++ part) later
  keys_stand [] before later is fetch stands = subst (λ (xs : List Exchange). Stands log xs later) (sym (append-nil before)) stands
  keys_stand (x ∷ part) before later is fetch stands =
      subst (λ (xs : List Exchange). Stands log xs later) (append_assoc before (x ∷ []) part)
      (keys_stand part (before ++ x ∷ []) later (is ∙ sym (append_assoc before (x ∷ []) (part ++ later))) fetch.1
      (one_stands session begin log mine tied before x (part ++ later) is (fetch_still x.op fetch.0.0) stands))

  -- behind them, from the mark on
  marked_stands : (found : List Bool) (before part later : List Exchange) → mine ≡ before ++ (part ++ later) → (attempt : Attempt) → Said manner (asks ops.Mark tt (marked shapes planned found)) part attempt → Stands log before (part ++ later)
      → ((mark : ℕ) → attempt.came ≡ Ok (written.Done mark) → MarksStand log (before ++ part) later → Stands log (before ++ part) later) → Stands log (before ++ part) later
  unfolding Said
  marked_stands found before [] later is attempt held from made = absurd held
  marked_stands found before (x ∷ part) later is attempt held from made = by_reply x.reply refl held.2 held.3
    where
      split : mine ≡ (before ++ x ∷ []) ++ (part ++ later)
      split = is ∙ sym (append_assoc before (x ∷ []) (part ++ later))

      mark_stands : Stands log (before ++ x ∷ []) (part ++ later)
      mark_stands = one_stands session begin log mine tied before x (part ++ later) is (subst IsStill (sym held.0) tt) from

      by_reply : (reply : Reply) → x.reply ≡ reply → CanReply ops.Mark reply → Said manner (marked shapes planned found reply) part attempt → Stands log (before ++ x ∷ part) later
      by_reply (replies.Marked mark) same can rest =
          let both = held_both manner (works shapes planned found) (ends mark) part attempt rest in
          let parts : part ++ later ≡ both.first ++ (both.second ++ later) = ap (λ (xs : List Exchange). xs ++ later) both.parts ∙ append_assoc both.first both.second later in
          let there : before ++ x ∷ part ≡ ((before ++ x ∷ []) ++ both.first) ++ both.second =
          ap (λ (xs : List Exchange). before ++ x ∷ xs) both.parts ∙ sym (append_assoc before (x ∷ []) (both.first ++ both.second)) ∙ sym (append_assoc (before ++ x ∷ []) both.first both.second) in
          let marks = marks_on log both.first (before ++ x ∷ []) (both.second ++ later) (all_asked IsNoMark manner (works shapes planned found) both.first both.came (works_marks shapes planned found) both.held)
          (λ intact. (subst (Stands log (before ++ x ∷ [])) parts mark_stands intact).marks) in
          subst (λ (xs : List Exchange). Stands log xs later) (sym there)
          (ends_stand ((before ++ x ∷ []) ++ both.first) both.second later mark both.came attempt (split ∙ ap (λ (xs : List Exchange). (before ++ x ∷ []) ++ xs) parts ∙ sym (append_assoc (before ++ x ∷ []) both.first (both.second ++ later)))
          marks both.more
          (λ was. subst (λ (xs : List Exchange). Stands log xs later) there (made mark was.0 (subst (λ (xs : List Exchange). MarksStand log xs later) (sym there) was.1))))
      by_reply replies.Memory same can rest =
          subst (λ (xs : List Exchange). Stands log (before ++ x ∷ xs) later) (sym rest.0) (subst (λ (xs : List Exchange). Stands log (before ++ x ∷ []) (xs ++ later)) rest.0 mark_stands)
      by_reply reply same can rest = absurd can

  -- an attempt at changes that may be made keeps what stands
  pub attempt_stands : (before part later : List Exchange) → mine ≡ before ++ (part ++ later) → (attempt : Attempt) → Said manner (attempts shapes planned) part attempt
      → StandsBy log (MayMake log shapes planned) before (part ++ later) → Stands log (before ++ part) later
  unfolding attempts
  attempt_stands before part later is attempt held from =
      let both = held_both manner (asks_keys planned []) (behind_keys shapes planned) part attempt held in
      let parts : part ++ later ≡ both.first ++ (both.second ++ later) = ap (λ (xs : List Exchange). xs ++ later) both.parts ∙ append_assoc both.first both.second later in
      let fetch : AskOnly IsFetch both.first = says_held IsFetch manner (asks_keys planned []) both.first both.came (keys_say planned []) both.held in
      by_came both.came both.first both.second both.parts
      (is ∙ ap (λ (xs : List Exchange). before ++ xs) parts ∙ sym (append_assoc before both.first (both.second ++ later)))
      (keys_stand both.first before (both.second ++ later) (is ∙ ap (λ (xs : List Exchange). before ++ xs) parts) fetch (subst (Stands log before) parts from.0)) both.more
    where
      by_came : (came : Result (List Bool) Refusal) (first second : List Exchange) → part ≡ first ++ second → mine ≡ (before ++ first) ++ (second ++ later) → Stands log (before ++ first) (second ++ later) → Said manner (behind_keys shapes planned came) second attempt
          → Stands log (before ++ part) later
      by_came (Ok found) first second parts split stands more =
          let there : (before ++ first) ++ second ≡ before ++ part = append_assoc before first second ∙ ap (λ (xs : List Exchange). before ++ xs) (sym parts) in
          subst (λ (xs : List Exchange). Stands log xs later) there
          (marked_stands found (before ++ first) second later split attempt more stands
          (λ mark done marks. subst (λ (xs : List Exchange). Stands log xs later) (sym there) (was_made before part later is attempt held from mark done (subst (λ (xs : List Exchange). MarksStand log xs later) there marks))))
      by_came (Err why) first second parts split stands more =
          let none : second ≡ [] = nothing_asked manner (told None (Err why)) second attempt more in
          subst (λ (xs : List Exchange). Stands log (before ++ xs) later) (sym (parts ∙ ap (λ (xs : List Exchange). first ++ xs) none ∙ append-nil first)) (subst (λ (xs : List Exchange). Stands log (before ++ first) (xs ++ later)) none stands)

-- ---- as trees

unless_apart : (came : Result Written Refusal) (p new : SessionProgress) (part : List Exchange) (result : Result ℕ Failure) → Held (unless_broken came) p part result new → part ≡ []
unfolding Held
unless_apart (Ok (written.Done mark)) p new part result held = held.0
unless_apart (Ok (written.Refused number name)) p new part result held = held.0
unless_apart (Err why) p new part result held = held.0

unless_asks : (came : Result Written Refusal) → Only AnyStep NoCommit (unless_broken came)
unless_asks (Ok (written.Done mark)) = tt
unless_asks (Ok (written.Refused number name)) = tt
unless_asks (Err why) = tt

module _ (session : ℕ) (begin log : List Logged) (mine : List Exchange) (tied : Tied session begin log mine) (shapes : List TableTree) (planned : List Planned) where
  -- changes that may be made are asked, and checked
  pub applies_bring : Brings log mine (StandsBy log (MayMake log shapes planned)) (applies shapes planned) (λ (result : Result ℕ Failure). Stands log)
  unfolding applies
  applies_bring = quiet_brings log mine (StandsBy log (MayMake log shapes planned)) (applies shapes planned) (λ (result : Result ℕ Failure). Stands log)
      (tt, only_gives AnyStep NoCommit (attempts shapes planned) (λ attempt. unless_broken attempt.came) (says_quiet NoCommit (attempts shapes planned) quiet_commits) (λ attempt. unless_asks attempt.came)) came
    where
      came : (before part later : List Exchange) (p new : SessionProgress) (result : Result ℕ Failure) → mine ≡ before ++ (part ++ later) → Held (applies shapes planned) p part result new
          → StandsBy log (MayMake log shapes planned) before (part ++ later) → Stands log (before ++ part) later
      came before part later p new result is held from =
          let on = holds_apart (attempts shapes planned) (λ attempt. unless_broken attempt.came) p new part result held in
          let whole : part ≡ on.front = on.parts ∙ ap (λ (xs : List Exchange). on.front ++ xs) (unless_apart on.came.came _ new on.back result on.rest) ∙ append-nil on.front in
          subst (λ (xs : List Exchange). Stands log (before ++ xs) later) (sym whole)
          (attempt_stands session begin log mine tied _ shapes planned before on.front later (is ∙ ap (λ (xs : List Exchange). before ++ (xs ++ later)) whole) on.came on.held
          (subst (λ (xs : List Exchange). StandsBy log (MayMake log shapes planned) before (xs ++ later)) whole from))

  -- where rows can be read behind them for their checks, and these keep all intact
  may_make : (before later : List Exchange) → mine ≡ before ++ later → MayWrite (at_place log before later) shapes planned → MayMake log shapes planned before later
  may_make before later is may manner part rest mark split wrote intact =
      let whole : mine ≡ before ++ (part ++ rest) = is ∙ ap (λ (xs : List Exchange). before ++ xs) split in
      let place : at_place log before later ≡ at_place log before rest =
      ap (at_place log before) split
      ∙ ap (λ (n : ℕ). With (State (take n log)) (map change_of (progress_of before).own)) (place_past (length log) part rest (held_goes manner (writes shapes planned) part (Ok (written.Done mark)) wrote)) in
      let there : MayWrite (at_place log before rest) shapes planned = subst (λ (db : Database). MayWrite db shapes planned) place may in
      let done = applied_of manner shapes planned mark part wrote in
      let applied : AreApplied manner shapes planned planned part = subst (λ (l : List Planned). AreApplied manner shapes planned l part) (own_applied manner shapes planned done.0 part there.own done.1) done.1 in
      let passes = writes_pass log mine before part rest manner shapes planned planned whole tied.ranges applied there.can in
      subst Intact (sym (writes_leave log before part rest manner shapes planned planned applied)) (there.intact (parts_pass (behind (at_place log before rest) planned) shapes planned there.can passes))

  -- where they were planned on rows that were told
  may_change : (before later : List Exchange) → mine ≡ before ++ later → MayChange before (at_place log before later) shapes planned → MayMake log shapes planned before later
  may_change before later is may manner part rest mark split wrote intact =
      let whole : mine ≡ before ++ (part ++ rest) = is ∙ ap (λ (xs : List Exchange). before ++ xs) split in
      let place : at_place log before later ≡ at_place log before rest =
      ap (at_place log before) split
      ∙ ap (λ (n : ℕ). With (State (take n log)) (map change_of (progress_of before).own)) (place_past (length log) part rest (held_goes manner (writes shapes planned) part (Ok (written.Done mark)) wrote)) in
      let there : MayChange before (at_place log before rest) shapes planned = subst (λ (db : Database). MayChange before db shapes planned) place may in
      let kept : Intact (at_place log before rest) = subst Intact place intact in
      let done = applied_of manner shapes planned mark part wrote in
      let follows =
      applied_follows begin log mine before part rest manner shapes there.level there.shape planned done.0 whole tied.numbers tied.fetches tied.ranges tied.inserts tied.targets there.told done.1 kept.firm kept.indexed there.defined in
      let same : behind (at_place log before rest) done.0 ≡ behind (at_place log before rest) planned = sym (writes_leave log before part rest manner shapes planned done.0 done.1) ∙ follows.0 in
      let indexed : Indexed (behind (at_place log before rest) planned) = there.indexed follows.1 in
      let can : CanCheck (behind (at_place log before rest) planned) shapes = there.can indexed in
      let passes = writes_pass log mine before part rest manner shapes planned done.0 whole tied.ranges done.1 (subst (λ (db : Database). CanCheck db shapes) (sym same) can) in
      subst Intact (sym follows.0) (record {
        firm = there.firm (parts_pass (behind (at_place log before rest) planned) shapes planned can (subst (λ (db : Database). AllByRecursion (Passes db) (reads_for planned shapes)) same passes));
        indexed = indexed;
      })

  pub changes_when : Brings log mine (StandsBy log (λ before later. MayChange before (at_place log before later) shapes planned)) (applies shapes planned) (λ (result : Result ℕ Failure). Stands log)
  changes_when =
      brings_mono log mine (StandsBy log (MayMake log shapes planned)) (StandsBy log (λ before later. MayChange before (at_place log before later) shapes planned)) (applies shapes planned)
      (λ (result : Result ℕ Failure). Stands log) (λ (result : Result ℕ Failure). Stands log)
      (λ before later is from. (from.0, λ intact. may_change before later is (from.1 intact))) (λ a before later is stands. stands) applies_bring

  pub applies_when : Brings log mine (StandsWith log (λ db. MayWrite db shapes planned)) (applies shapes planned) (λ (result : Result ℕ Failure). Stands log)
  applies_when =
      brings_mono log mine (StandsBy log (MayMake log shapes planned)) (StandsWith log (λ db. MayWrite db shapes planned)) (applies shapes planned) (λ (result : Result ℕ Failure). Stands log) (λ (result : Result ℕ Failure). Stands log)
      (λ before later is from. (from.0, λ intact. may_make before later is (from.1 intact))) (λ a before later is stands. stands) applies_bring
