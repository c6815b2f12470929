-- What one exchange leaves of what stands between exchanges: all operations keep it but those that write.
use Rattle.std.proofs.Common.{◌≡◌, ℕ, ◌+◌, Bool, true, false, ◌||◌, if◌then◌else◌, List, [], ◌∷◌, ◌++◌, length, map, filter, take, refl, sym, ap, subst, ◌∙◌, append-nil}
use Rattle.std.specs.Prelude.{◌==◌, nat_le}
use Rattle.std.specs.List.{AllByRecursion, list_any}
use Rattle.step_model.specs.declared.change.Planned.{Planned}
use Rattle.step_model.specs.declared.op.Op.{Op}
use Rattle.step_model.specs.declared.op.Op.TheVariants as ops
use Rattle.step_model.specs.declared.reply.Reply.{Reply}
use Rattle.step_model.specs.declared.reply.Reply.TheVariants as replies
use Rattle.step_model.specs.Database.{Database}
use Rattle.step_model.specs.Exchange.{Exchange, MayCome}
use Rattle.step_model.specs.Fits.{committed_by, place_of, place_or}
use Rattle.step_model.specs.Log.{Commit as Logged, State}
use Rattle.step_model.specs.Own.{MarkedAt, Progress, none_open, own_at, progress_after, progress_of, standing_at}
use Rattle.constraint_check.specs.Laws.{behind}
use Rattle.write_laws.proofs.Changes.{all_both}
use Rattle.write_laws.proofs.Commits.{commit_leaves}
use Rattle.write_laws.proofs.Parts.{from_both}
use Rattle.sound_laws.specs.Stands.{Intact, Keeps, Stands, StandsAt, base_of}
use Rattle.sound_laws.specs.Tied.{Tied}

-- ---- marks

module _ (P : List Planned → Type 0) where
  abbrev pub AllMarked : List MarkedAt → Type 0
  AllMarked marks = AllByRecursion (λ marked. P marked.own) marks

  -- what holds at each live mark holds where one of them is gone back to
  pub own_marked : (mark : ℕ) (marks : List MarkedAt) → list_any (λ (live : ℕ). live == mark) (map (λ (marked : MarkedAt). marked.mark) marks) ≡ true → AllMarked marks → P (own_at mark marks)
  own_marked mark [] any all = absurd (let no : false ≡ true = any in cc)
  own_marked mark (marked ∷ others) any all = by_later (list_any (λ (other : MarkedAt). other.mark == mark) others) refl (λ among. own_marked mark others among all.1)
    where
      later_map : (list : List MarkedAt) → list_any (λ (live : ℕ). live == mark) (map (λ (marked : MarkedAt). marked.mark) list) ≡ list_any (λ (other : MarkedAt). other.mark == mark) list
      later_map [] = refl
      later_map (one ∷ list) = ap (λ (b : Bool). (one.mark == mark) || b) (later_map list)

      by_this : (this : Bool) → (this || false) ≡ true → P (if this then marked.own else [])
      by_this true is = all.0
      by_this false is = absurd (let no : false ≡ true = is in cc)

      by_later : (b : Bool) → list_any (λ (other : MarkedAt). other.mark == mark) others ≡ b → (list_any (λ (live : ℕ). live == mark) (map (λ (marked : MarkedAt). marked.mark) others) ≡ true → P (own_at mark others)) → P (if b then own_at mark others else (if marked.mark == mark then marked.own else []))
      by_later true is rest = rest (later_map others ∙ is)
      by_later false is rest = by_this (marked.mark == mark) (sym (ap (λ (b : Bool). (marked.mark == mark) || b) (later_map others ∙ is)) ∙ any)

  -- and of the marks that stay
  pub marked_stay : (test : MarkedAt → Bool) (marks : List MarkedAt) → AllMarked marks → AllMarked (filter test marks)
  marked_stay test [] all = tt
  marked_stay test (marked ∷ others) all = by_test (test marked) (marked_stay test others all.1)
    where
      by_test : (b : Bool) → AllMarked (filter test others) → AllMarked (if b then marked ∷ filter test others else filter test others)
      by_test true rest = (all.0, rest)
      by_test false rest = rest

-- ---- one exchange

-- it writes nothing
abbrev pub IsStill : Op → Type 0
IsStill (ops.Insert table key row) = ⊥
IsStill (ops.Replace table key row) = ⊥
IsStill (ops.Erase table key) = ⊥
IsStill op = Unit {0}

module _ (base : Database) (intact : Intact base) where
  abbrev MarkIntact : List Planned → Type 0
  MarkIntact own = Intact (behind base own)

  as_was : (progress : Progress) → StandsAt base progress → StandsAt base (record progress { own = progress.own ++ [] })
  as_was progress s = record { now = subst (λ (own : List Planned). Intact (behind base own)) (sym (append-nil progress.own)) s.now; marks = s.marks }

  pub still_stands : (progress : Progress) (op : Op) (reply : Reply) → IsStill op → MayCome (standing_at progress) op → StandsAt base progress → StandsAt base (progress_after progress op reply)
  still_stands progress op (replies.Ended place) still may s = record { now = intact; marks = tt }
  still_stands progress ops.Begin replies.Began still may s = record { now = intact; marks = tt }
  still_stands progress ops.Mark (replies.Marked mark) still may s = record { now = s.now; marks = all_both (λ (marked : MarkedAt). MarkIntact marked.own) progress.marks (record { mark = mark; own = progress.own } ∷ []) s.marks (s.now, tt) }
  still_stands progress (ops.BackTo mark) replies.Done still may s = record {
    now = own_marked MarkIntact mark progress.marks may.1 s.marks;
    marks = marked_stay MarkIntact (λ (live : MarkedAt). nat_le live.mark mark) progress.marks s.marks;
  }
  still_stands progress (ops.Insert table key row) reply still may s = absurd still
  still_stands progress (ops.Replace table key row) reply still may s = absurd still
  still_stands progress (ops.Erase table key) reply still may s = absurd still
  still_stands progress op reply still may s = as_was progress s

  -- the marks alone, which writes leave as they are
  pub marks_stand : (progress : Progress) (op : Op) (reply : Reply) → (op ≡ ops.Mark → ⊥) → AllMarked MarkIntact progress.marks → AllMarked MarkIntact (progress_after progress op reply).marks
  marks_stand progress op (replies.Ended place) other s = tt
  marks_stand progress ops.Begin replies.Began other s = tt
  marks_stand progress ops.Mark (replies.Marked mark) other s = absurd (other refl)
  marks_stand progress (ops.BackTo mark) replies.Done other s = marked_stay MarkIntact (λ (live : MarkedAt). nat_le live.mark mark) progress.marks s
  marks_stand progress op reply other s = s

  -- behind a way back it stands, whatever was written
  pub back_stands : (progress : Progress) (mark : ℕ) → MayCome (standing_at progress) (ops.BackTo mark) → AllMarked MarkIntact progress.marks → StandsAt base (progress_after progress (ops.BackTo mark) replies.Done)
  back_stands progress mark may s = record {
    now = own_marked MarkIntact mark progress.marks may.1 s;
    marks = marked_stay MarkIntact (λ (live : MarkedAt). nat_le live.mark mark) progress.marks s;
  }

-- the progress behind one exchange
pub after_one : (before : List Exchange) (x : Exchange) → progress_of (before ++ x ∷ []) ≡ progress_after (progress_of before) x.op x.reply
after_one before x = from_both none_open before (x ∷ [])

module _ (session : ℕ) (begin log : List Logged) (mine : List Exchange) (tied : Tied session begin log mine) (before : List Exchange) (x : Exchange) (later : List Exchange) (is : mine ≡ before ++ x ∷ later) where
  -- between exchanges what stands goes on
  pub one_stands : IsStill x.op → Stands log before (x ∷ later) → Stands log (before ++ x ∷ []) later
  one_stands still stands intact = subst (StandsAt (base_of log later)) (sym (after_one before x)) (by_reply x.reply stands)
    where
      by_reply : (reply : Reply) → (Intact (State (take (place_or reply (place_of (length log) later)) log)) → StandsAt (State (take (place_or reply (place_of (length log) later)) log)) (progress_of before)) → StandsAt (base_of log later) (progress_after (progress_of before) x.op reply)
      by_reply (replies.Ended place) s = record { now = intact; marks = tt }
      by_reply reply s = still_stands (base_of log later) intact (progress_of before) x.op reply still (tied.comes before x later is) (s intact)

  -- a commit keeps its database intact, since what stands before it does
  pub commit_keeps : x.op ≡ ops.Commit → Stands log before (x ∷ later) → Keeps log before x
  commit_keeps commits stands place ended intact = goal
    where
      there : base_of log (x ∷ later) ≡ State (take place log)
      there = ap (λ (reply : Reply). State (take (place_or reply (place_of (length log) later)) log)) ended

      now : Intact (behind (State (take place log)) (progress_of before).own)
      now = subst (λ (base : Database). Intact (behind base (progress_of before).own)) there (stands (subst Intact (sym there) intact)).now

      kept : Intact (State (take (place + length (committed_by ops.Commit (replies.Ended place) (progress_of before))) log))
      kept = subst Intact (sym (commit_leaves session begin log mine before later x place is tied.inserts tied.commits commits ended)) now

      goal : Intact (State (take (place + length (committed_by x.op x.reply (progress_of before))) log))
      goal = subst (λ (op : Op). Intact (State (take (place + length (committed_by op x.reply (progress_of before))) log))) (sym commits)
          (subst (λ (reply : Reply). Intact (State (take (place + length (committed_by ops.Commit reply (progress_of before))) log))) (sym ended) kept)
