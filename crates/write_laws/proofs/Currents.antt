-- The rows of a range that was not held.
use Rattle.std.proofs.Common.{◌≡◌, List, ◌∷◌, ◌++◌, map, Some, Ok, sym, ap, subst, ◌∙◌, append_assoc}
use Rattle.lock_modes.specs.declared.KeyPart.{KeyPart}
use Rattle.step_model.specs.declared.change.Planned.{Planned}
use Rattle.step_model.specs.declared.op.Hold.{Hold}
use Rattle.step_model.specs.declared.op.Op.{Op}
use Rattle.step_model.specs.declared.op.Op.TheVariants.{Fetch}
use Rattle.step_model.specs.declared.range.KeyRange.{KeyRange}
use Rattle.step_model.specs.declared.reply.Reply.{Reply}
use Rattle.step_model.specs.declared.reply.Reply.TheVariants.{Row}
use Rattle.step_model.specs.Exchange.{Exchange}
use Rattle.step_model.specs.Fits.{AnswersIn, at_of, fetches_current, view}
use Rattle.step_model.specs.Log.{Commit as Logged, state_at}
use Rattle.step_model.specs.Own.{change_of, progress_of}
use Rattle.constraint_check.proofs.Lists.{all_left, all_more}
use Rattle.dml_exec.specs.Reading.{fetch_of, rows_in}
use Rattle.write_laws.specs.Reading.{RowsCurrent}
use Rattle.write_laws.specs.Reads.{StoodThere}
use Rattle.write_laws.specs.Told.{ToldThere, WasTold}
use Rattle.statement_paths.specs.Asked.{AskOnly, IsFetch}
use Rattle.write_laws.proofs.Entries.{Entry}
use Rattle.write_laws.proofs.Images.{in_asks}
use Rattle.write_laws.proofs.Parts.{all_asked, fetches_leave}
use Rattle.write_laws.proofs.Told.{rows_told}

module _ (log : List Logged) (mine before part later : List Exchange) (is : mine ≡ before ++ (part ++ later)) (each : fetches_current log mine) (all : AskOnly IsFetch part) (range : KeyRange) (hold : Hold) (lock : KeyPart) where
  -- what was told stood at the number of its reply, beside what was written in front of all these fetches
  stood_there : (at : Entry) → ToldThere part range hold lock at → StoodThere log before range at
  stood_there at there =
      let was : WasTold part range.table range.stop hold lock at = there.1 in
      let split : mine ≡ (before ++ was.front) ++ was.fetch ∷ (was.behind ++ later) =
      is ∙ ap (λ (xs : List Exchange). before ++ (xs ++ later)) was.split ∙ ap (λ (xs : List Exchange). before ++ xs) (append_assoc was.front (was.fetch ∷ was.behind) later) ∙ sym (append_assoc before was.front (was.fetch ∷ (was.behind ++ later))) in
      let answered : AnswersIn (view log was.number (before ++ was.front)) (Fetch range.table was.start range.stop hold lock) (Row at.0 at.1 was.number) =
      subst (λ (reply : Reply). AnswersIn (view log (at_of reply) (before ++ was.front)) (Fetch range.table was.start range.stop hold lock) reply) was.told
      (subst (λ (op : Op). AnswersIn (view log (at_of was.fetch.reply) (before ++ was.front)) op was.fetch.reply) was.asked (each (before ++ was.front) was.fetch (was.behind ++ later) split)) in
      let own : (progress_of (before ++ was.front)).own ≡ (progress_of before).own = (fetches_leave before was.front (in_front was)).own in
      (there.0, (was.number, subst (λ (own : List Planned). state_at log was.number (map change_of own) range.table at.0 ≡ Some at.1) own answered.1))
    where
      in_front : (was : WasTold part range.table range.stop hold lock at) → AskOnly IsFetch was.front
      in_front was = all_left _ was.front (was.fetch ∷ was.behind) (subst (λ (xs : List Exchange). AskOnly IsFetch xs) was.split all)

pub rows_current : RowsCurrent
rows_current log mine before part later manner shape one range hold lock rows is each held =
    let told = rows_told manner part shape one range hold lock rows held in
    let all = all_asked IsFetch manner (rows_in shape 0 one (fetch_of range hold lock)) part (Ok rows) (in_asks shape one (fetch_of range hold lock)) held in
    (told.0, told.1, all_more (ToldThere part range hold lock) (StoodThere log before range) (stood_there log mine before part later is each all range hold lock) told.0 told.2, told.3)
