-- Changes that were made and checked.
use Rattle.std.proofs.Common.{◌≡◌, List, [], ◌∷◌, ◌++◌, length, map, take, Ok, refl, sym, ap, subst, ◌∙◌, append-nil, append_assoc}
use Rattle.std.specs.List.{AllByRecursion}
use Rattle.std.proofs.lemmas.List.{map-append}
use Rattle.tsql_tree.specs.declared.definition.TableTree.{TableTree}
use Rattle.step_model.specs.declared.change.Planned.{Planned}
use Rattle.step_model.specs.declared.manner.Manner.{Manner}
use Rattle.step_model.specs.declared.op.Op.{Op}
use Rattle.step_model.specs.declared.op.Op.TheVariants as ops
use Rattle.step_model.specs.declared.reply.Reply.{Reply}
use Rattle.step_model.specs.declared.reply.Reply.TheVariants as replies
use Rattle.step_model.specs.Database.{Database, With}
use Rattle.step_model.specs.Dialog.{Held, over}
use Rattle.step_model.specs.Exchange.{Exchange, CanReply}
use Rattle.step_model.specs.Fits.{AnswersIn, place_of}
use Rattle.step_model.specs.Log.{Commit as Logged, State}
use Rattle.step_model.specs.Own.{Progress, change_of, none_open, planned_by, progress_after, progress_from, progress_of}
use Rattle.step_model.proofs.Databases.{With-append}
use Rattle.constraint_check.specs.Laws.{behind}
use Rattle.constraint_check.specs.Reads.{reads_for}
use Rattle.constraint_check.proofs.Behind.{one_behind}
use Rattle.dml_exec.specs.declared.written.Written.TheVariants as written
use Rattle.dml_exec.specs.Planning.{as_found}
use Rattle.dml_exec.specs.Writing.{attempts, checks_all, writes, writes_all}
use Rattle.statement_paths.specs.Asked.{AskOnly}
use Rattle.statement_paths.specs.Paths.{AreApplied, IsForward, done_of, replied}
use Rattle.statement_paths.proofs.Asking.{writes_say}
use Rattle.statement_paths.proofs.Dialogs.{applied_apart}
use Rattle.statement_paths.proofs.Only.{says_held}
use Rattle.write_laws.specs.Reading.{WritesLeave, WritesPass}
use Rattle.write_laws.specs.Reads.{at_place, HoldsIt}
use Rattle.write_laws.proofs.Checks.{all_fetches, all_passed}
use Rattle.write_laws.proofs.Dialogs.{held_both}
use Rattle.write_laws.proofs.IndexKeys.{keys_asked}
use Rattle.write_laws.proofs.Parts.{IsFetched, all_asked, answers, from_both, one_place, own_stays}
use Rattle.write_laws.proofs.Tables.{all_good}

-- ---- what is written

-- a fetch or a write leaves what it wrote behind the others
forward_adds : (op : Op) (reply : Reply) (stand : Progress) → IsForward op → CanReply op reply → (progress_after stand op reply).own ≡ stand.own ++ planned_by op reply
forward_adds (ops.Fetch table start stop hold part) (replies.Ended place) stand is can = absurd can
forward_adds (ops.Insert table key row) (replies.Ended place) stand is can = absurd can
forward_adds (ops.Replace table key row) (replies.Ended place) stand is can = absurd can
forward_adds (ops.Erase table key) (replies.Ended place) stand is can = absurd can
forward_adds (ops.Fetch table start stop hold part) reply stand is can = refl
forward_adds (ops.Insert table key row) reply stand is can = refl
forward_adds (ops.Replace table key row) reply stand is can = refl
forward_adds (ops.Erase table key) reply stand is can = refl
forward_adds op reply stand is can = absurd is

forwards_add : (part : List Exchange) (stand : Progress) → AskOnly IsForward part → (progress_from stand part).own ≡ stand.own ++ done_of part
forwards_add [] stand all = sym (append-nil stand.own)
forwards_add (x ∷ part) stand all =
    forwards_add part (progress_after stand x.op x.reply) all.1
    ∙ ap (λ (own : List Planned). own ++ done_of part) (forward_adds x.op x.reply stand all.0.0 all.0.1)
    ∙ append_assoc stand.own (planned_by x.op x.reply) (done_of part)

-- ---- the whole

-- a write that was done, by its parts
pub applied_of : (manner : Manner) (shapes : List TableTree) (plan : List Planned) (mark : _) (part : List Exchange) → Held manner (writes shapes plan) part (Ok (written.Done mark)) → (planned : List Planned) × AreApplied manner shapes plan planned part
unfolding Held writes
applied_of manner shapes plan mark part held =
    let h = held_both manner (attempts shapes plan) (λ attempt. over attempt.came) part (Ok (written.Done mark)) held in
    let done = applied_apart manner shapes plan mark h.first h.came h.held (sym h.more.1) in
    (done.0, subst (AreApplied manner shapes plan done.0) (sym (h.parts ∙ ap (λ (xs : List Exchange). h.first ++ xs) h.more.0 ∙ append-nil h.first)) done.1)

module _ (manner : Manner) (shapes : List TableTree) (plan planned : List Planned) (part : List Exchange) (applied : AreApplied manner shapes plan planned part) where
  -- first what was asked for, the mark and the changes, and then what is read
  abbrev pub made : List Exchange
  made = applied.asked ++ replied manner ops.Mark (replies.Marked applied.mark) ∷ applied.put

  pub made_parts : part ≡ made ++ applied.checked
  made_parts = applied.parts ∙ sym (append_assoc applied.asked (replied manner ops.Mark (replies.Marked applied.mark) ∷ applied.put) applied.checked)

  asked_fetch : AllByRecursion IsFetched applied.asked
  asked_fetch = keys_asked manner plan applied.asked applied.found applied.asks

  pub checked_fetch : AllByRecursion IsFetched applied.checked
  checked_fetch = all_asked HoldsIt manner (checks_all shapes (reads_for plan shapes)) applied.checked (Ok tt) (all_fetches shapes (reads_for plan shapes)) applied.checks

  made_adds : (stand : Progress) → (progress_from stand made).own ≡ stand.own ++ planned
  made_adds stand =
      ap (λ (p : Progress). p.own) (from_both stand applied.asked (replied manner ops.Mark (replies.Marked applied.mark) ∷ applied.put))
      ∙ forwards_add applied.put (progress_after (progress_from stand applied.asked) ops.Mark (replies.Marked applied.mark))
      (says_held IsForward manner (writes_all shapes (as_found plan applied.found)) applied.put (Ok tt) (writes_say shapes (as_found plan applied.found)) applied.puts)
      ∙ ap (λ (own : List Planned). own ++ done_of applied.put) (own_stays applied.asked stand asked_fetch)
      ∙ ap (λ (list : List Planned). stand.own ++ list) (sym applied.makes)

  -- all of it adds the changes that were done
  pub applied_adds : (stand : Progress) → (progress_from stand part).own ≡ stand.own ++ planned
  applied_adds stand =
      ap (λ (xs : List Exchange). (progress_from stand xs).own) made_parts
      ∙ ap (λ (p : Progress). p.own) (from_both stand made applied.checked)
      ∙ own_stays applied.checked (progress_from stand made) checked_fetch
      ∙ made_adds stand

-- ---- the database behind the changes

module _ (log : List Logged) (before later : List Exchange) (changes : List Planned) where
  abbrev base : Database
  base = State (take (place_of (length log) later) log)

  -- with these, where they stand behind the transaction's own
  grown : (after : List Exchange) → (progress_of after).own ≡ (progress_of before).own ++ changes → at_place log after later ≡ behind (at_place log before later) changes
  grown after is =
      ap (λ (own : List Planned). With base (map change_of own)) is
      ∙ ap (With base) (map-append change_of (progress_of before).own changes)
      ∙ With-append base (map change_of (progress_of before).own) (map change_of changes)

  pub behind_made : (made : List Exchange) → ((stand : Progress) → (progress_from stand made).own ≡ stand.own ++ changes) → at_place log (before ++ made) later ≡ behind (at_place log before later) changes
  behind_made made adds = grown (before ++ made) (ap (λ (p : Progress). p.own) (from_both none_open before made) ∙ adds (progress_of before))

pub writes_leave : WritesLeave
writes_leave log before part later manner shapes plan planned applied = behind_made log before later planned part (applied_adds manner shapes plan planned part applied)

pub writes_pass : WritesPass
writes_pass log mine before part later manner shapes plan planned is holds applied can =
    let reads = reads_for plan shapes in
    let front : List Exchange = made manner shapes plan planned part applied in
    let db : Database = behind (at_place log before later) planned in
    let split : mine ≡ (before ++ front) ++ (applied.checked ++ later) =
    is ∙ ap (λ (xs : List Exchange). before ++ (xs ++ later)) (made_parts manner shapes plan planned part applied) ∙ ap (λ (xs : List Exchange). before ++ xs) (append_assoc front applied.checked later) ∙ sym (append_assoc before front (applied.checked ++ later)) in
    let answered : AllByRecursion (λ x. AnswersIn db x.op x.reply) applied.checked =
    subst (λ (d : Database). AllByRecursion (λ x. AnswersIn d x.op x.reply) applied.checked) (behind_made log before later planned front (made_adds manner shapes plan planned part applied))
    (answers log mine (before ++ front) applied.checked later split holds (checked_fetch manner shapes plan planned part applied)) in
    all_passed manner shapes db (one_behind planned (at_place log before later) (one_place log before later)) reads applied.checked
    (all_good db shapes can plan) answered applied.checks
