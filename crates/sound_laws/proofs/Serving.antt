-- Each commit among the exchanges of connections keeps its database intact.
use Rattle.std.proofs.Common.{◌≡◌, inl, inr, ℕ, Bool, true, false, if◌then◌else◌, List, [], ◌∷◌, ◌++◌, Option, Some, None, refl, sym, ap, subst, ◌∙◌, append-nil, append_assoc}
use Rattle.std.specs.List.{AllByRecursion, flat_map}
use Rattle.std.specs.Option.{ForSome}
use Rattle.step_model.specs.declared.op.Op.TheVariants as ops
use Rattle.step_model.specs.declared.reply.Reply.{Reply}
use Rattle.step_model.specs.declared.reply.Reply.TheVariants as replies
use Rattle.step_model.specs.Exchange.{Exchange}
use Rattle.step_model.specs.Log.{Commit as Logged}
use Rattle.step_model.specs.Own.{Progress, none_open, progress_of}
use Rattle.batch_meaning.specs.Asking.{where_ended}
use Rattle.batch_meaning.specs.Doing.{Doing, Held, asks, over}
use Rattle.batch_meaning.specs.Meaning.{rolls_back_open}
use Rattle.batch_meaning.specs.Progress.{SessionProgress, asked}
use Rattle.write_laws.proofs.Parts.{from_both}
use Rattle.statement_paths.proofs.Only.{AnyStep, NoCommit, Only, held_asks, only_if}
use Rattle.sound_laws.specs.Laws.{ShutStands, TaskAgrees}
use Rattle.sound_laws.specs.Runs.{AreDone, AreServed, IsCut, IsServed, IsWhole, Task, TaskReadsBack, tree_of}
use Rattle.sound_laws.specs.Stands.{CommitsKeep, Stands, StandsAt, base_of}
use Rattle.sound_laws.specs.Tied.{Tied}
use Rattle.sound_laws.proofs.Bringing.{keep_both, keep_none}
use Rattle.sound_laws.proofs.Meanings.{task_carry}
use Rattle.sound_laws.proofs.Shut.{all_shut, left_open, open_behind}
use Rattle.sound_laws.proofs.Trees.{none_keep}

-- ---- where nothing is open

pub shut_stands : ShutStands
shut_stands session begin log mine before later tied is shut intact =
    subst (StandsAt (base_of log later)) (sym (all_shut mine tied.comes before later is shut)) (record { now = intact; marks = tt })

abbrev over_now : Doing (Unit {0})
over_now = over tt

-- behind a rollback of what is open nothing is
rolled_shut : (p new : SessionProgress) (rolled : List Exchange) → Held rolls_back_open p rolled tt new → new.is_open ≡ false
unfolding rolls_back_open Held
rolled_shut p new rolled held = by_open p.is_open refl held
  where
    by_open : (b : Bool) → p.is_open ≡ b → Held (if b then asks ops.Rollback (where_ended over_now) else over_now) p rolled tt new → new.is_open ≡ false
    by_open false is held = ap (λ (q : SessionProgress). q.is_open) held.2 ∙ is
    by_open true is held = by_asked rolled held
      where
        by_reply : (reply : Reply) (rest : List Exchange) → Held (where_ended over_now reply) (asked ops.Rollback reply p) rest tt new → new.is_open ≡ false
        by_reply (replies.Ended place) rest held = ap (λ (q : SessionProgress). q.is_open) held.2
        by_reply reply rest held = absurd held

        by_asked : (rolled : List Exchange) → Held (asks ops.Rollback (where_ended over_now)) p rolled tt new → new.is_open ≡ false
        by_asked [] held = absurd held
        by_asked (x ∷ rest) held = by_reply x.reply rest held.3

rolls_commits : Only AnyStep NoCommit rolls_back_open
unfolding rolls_back_open
rolls_commits = λ p. only_if AnyStep NoCommit p.is_open (asks ops.Rollback (where_ended over_now)) over_now ((λ is. absurd (let no : ops.Rollback ≡ ops.Commit = is in cc)), λ reply can. by_reply reply) tt
  where
    by_reply : (reply : Reply) → Only AnyStep NoCommit (where_ended over_now reply)
    by_reply (replies.Ended place) = tt
    by_reply reply = tt

-- ---- a connection

module _ (session : ℕ) (begin log : List Logged) (mine : List Exchange) (tied : Tied session begin log mine) where
  abbrev Agree : SessionProgress → List Exchange → Type 0
  Agree p before = p.is_open ≡ (progress_of before).is_open

  -- batches and calls that were done keep what stands
  done_keep : (tasks : List Task) (before part later : List Exchange) (p new : SessionProgress) → AllByRecursion TaskReadsBack tasks → mine ≡ before ++ (part ++ later) → Agree p before → Stands log before (part ++ later) → AreDone tasks p part new
      → CommitsKeep log before part × Stands log (before ++ part) later × Agree new (before ++ part)
  done_keep [] before part later p new back is agree stands done =
      let same : before ++ part ≡ before = ap (λ (xs : List Exchange). before ++ xs) done.0 ∙ append-nil before in (
        keep_none log before part done.0,
        subst (λ (xs : List Exchange). Stands log xs later) (sym same) (subst (λ (xs : List Exchange). Stands log before (xs ++ later)) done.0 stands),
        ap (λ (q : SessionProgress). q.is_open) done.1 ∙ agree ∙ ap (λ (xs : List Exchange). (progress_of xs).is_open) (sym same),
      )
  done_keep (one_task ∷ others) before part later p new back is agree stands (mid, first, rest, parts, held, done) =
      let all : part ++ later ≡ first ++ (rest ++ later) = ap (λ (xs : List Exchange). xs ++ later) parts ∙ append_assoc first rest later in
      let one = (task_carry one_task back.0 session begin log mine tied before first (rest ++ later) p (is ∙ ap (λ (xs : List Exchange). before ++ xs) all) agree (subst (Stands log before) all stands)).1 tt mid held in
      let on = done_keep others (before ++ first) rest later mid new back.1 (is ∙ ap (λ (xs : List Exchange). before ++ xs) all ∙ sym (append_assoc before first (rest ++ later))) (open_behind (tree_of one_task) before first p mid tt agree held) one.1 done in
      let whole : (before ++ first) ++ rest ≡ before ++ part = append_assoc before first rest ∙ ap (λ (xs : List Exchange). before ++ xs) (sym parts) in
      (subst (CommitsKeep log before) (sym parts) (keep_both log before first rest one.0 on.0), subst (λ (xs : List Exchange). Stands log xs later) whole on.1, subst (Agree new) whole on.2)

  -- and one that was left keeps its databases intact
  cut_keep : (last : Option Task) (before part later : List Exchange) (p new : SessionProgress) → ForSome last TaskReadsBack → mine ≡ before ++ (part ++ later) → Agree p before → Stands log before (part ++ later) → IsCut last p part new
      → CommitsKeep log before part × Agree new (before ++ part)
  cut_keep None before part later p new back is agree stands cut =
      (keep_none log before part cut.0, ap (λ (q : SessionProgress). q.is_open) cut.1 ∙ agree ∙ ap (λ (xs : List Exchange). (progress_of xs).is_open) (sym (ap (λ (xs : List Exchange). before ++ xs) cut.0 ∙ append-nil before)))
  cut_keep (Some one_task) before part later p new back is agree stands cut = (
    (task_carry one_task (back one_task refl) session begin log mine tied before part later p is agree stands).0 new cut,
    sym (ap (λ (q : Progress). q.is_open) (from_both none_open before part) ∙ left_open (tree_of one_task) (progress_of before) p new part (sym agree) cut),
  )

  -- what a connection has asked
  pub served_keep : (before part later : List Exchange) (new : SessionProgress) → mine ≡ before ++ (part ++ later) → (progress_of before).is_open ≡ false → IsServed part new → CommitsKeep log before part × Agree new (before ++ part)
  served_keep before part later new is shut s =
      let all : part ++ later ≡ s.done ++ (s.left ++ later) = ap (λ (xs : List Exchange). xs ++ later) s.parts ∙ append_assoc s.done s.left later in
      let done = done_keep s.tasks before s.done (s.left ++ later) s.old s.mid s.back (is ∙ ap (λ (xs : List Exchange). before ++ xs) all) (s.closed ∙ sym shut)
      (shut_stands session begin log mine before (s.done ++ (s.left ++ later)) tied (is ∙ ap (λ (xs : List Exchange). before ++ xs) all) shut) s.are_done in
      let cut = cut_keep s.last (before ++ s.done) s.left later s.mid new s.last_back (is ∙ ap (λ (xs : List Exchange). before ++ xs) all ∙ sym (append_assoc before s.done (s.left ++ later))) done.2 done.1 s.was_left in
      let whole : (before ++ s.done) ++ s.left ≡ before ++ part = append_assoc before s.done s.left ∙ ap (λ (xs : List Exchange). before ++ xs) (sym s.parts) in
      (subst (CommitsKeep log before) (sym s.parts) (keep_both log before s.done s.left done.0 cut.0), subst (Agree new) whole cut.1)

  -- what one has asked that ended, behind which nothing is open
  whole_keep : (before part later : List Exchange) → mine ≡ before ++ (part ++ later) → (progress_of before).is_open ≡ false → IsWhole part → CommitsKeep log before part × ((progress_of (before ++ part)).is_open ≡ false)
  whole_keep before part later is shut w =
      let all : part ++ later ≡ w.served ++ (w.rolled ++ later) = ap (λ (xs : List Exchange). xs ++ later) w.parts ∙ append_assoc w.served w.rolled later in
      let split : mine ≡ before ++ (w.served ++ (w.rolled ++ later)) = is ∙ ap (λ (xs : List Exchange). before ++ xs) all in
      let served = served_keep before w.served (w.rolled ++ later) w.mid split shut w.asked in
      let whole : (before ++ w.served) ++ w.rolled ≡ before ++ part = append_assoc before w.served w.rolled ∙ ap (λ (xs : List Exchange). before ++ xs) (sym w.parts) in
      let agree = open_behind rolls_back_open (before ++ w.served) w.rolled w.mid w.new tt served.1 w.end in (
        subst (CommitsKeep log before) (sym w.parts) (keep_both log before w.served w.rolled served.0 (rolled_keep (before ++ w.served) w.rolled later w.mid w.new w.end)),
        ap (λ (xs : List Exchange). (progress_of xs).is_open) (sym whole) ∙ sym agree ∙ rolled_shut w.mid w.new w.rolled w.end,
      )
    where
      rolled_keep : (before rolled later : List Exchange) (p new : SessionProgress) → Held rolls_back_open p rolled tt new → CommitsKeep log before rolled
      rolled_keep before rolled later p new held = none_keep log rolled before (held_asks AnyStep NoCommit rolls_back_open p new rolled tt rolls_commits held)

  -- ---- a session

  parts_keep : (parts : List (List Exchange)) (before last : List Exchange) (now : SessionProgress) → mine ≡ before ++ (flat_map (λ part. part) parts ++ last) → (progress_of before).is_open ≡ false → AllByRecursion IsWhole parts → IsServed last now
      → CommitsKeep log before (flat_map (λ part. part) parts ++ last)
  parts_keep [] before last now is shut whole ends = (served_keep before last [] now (is ∙ ap (λ (xs : List Exchange). before ++ xs) (sym (append-nil last))) shut ends).0
  parts_keep (part ∷ parts) before last now is shut whole ends =
      let rest : List Exchange = flat_map (λ part. part) parts ++ last in
      let same : flat_map (λ part. part) (part ∷ parts) ++ last ≡ part ++ rest = append_assoc part (flat_map (λ part. part) parts) last in
      let split : mine ≡ before ++ (part ++ rest) = is ∙ ap (λ (xs : List Exchange). before ++ xs) same in
      let one = whole_keep before part rest split shut whole.0 in
      subst (CommitsKeep log before) (sym same) (keep_both log before part rest one.0 (parts_keep parts (before ++ part) last now (split ∙ sym (append_assoc before part rest)) one.1 whole.1 ends))

  -- each commit among a session's exchanges
  pub all_keep : AreServed mine → CommitsKeep log [] mine
  all_keep served = subst (CommitsKeep log []) (sym served.split) (parts_keep served.parts [] served.last served.now served.split refl served.whole served.ends)

-- ---- what is open

pub task_agrees : TaskAgrees
task_agrees one_task old new before part agree came = elim came [
  | inl held ↦ open_behind (tree_of one_task) before part old new tt agree held
  | inr left ↦ sym (ap (λ (q : Progress). q.is_open) (from_both none_open before part) ∙ left_open (tree_of one_task) (progress_of before) old new part (sym agree) left)
]
