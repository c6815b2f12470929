-- Where no transaction of a session is open, nothing is left of one; and a session and its port agree on whether one is.
use Rattle.std.proofs.Common.{◌≡◌, inl, inr, Bool, true, false, List, [], ◌∷◌, ◌++◌, refl, sym, ap, ◌∙◌, subst, append-nil, append_assoc}
use Rattle.step_model.specs.declared.op.Op.{Op}
use Rattle.step_model.specs.declared.op.Op.TheVariants as ops
use Rattle.step_model.specs.declared.reply.Reply.{Reply}
use Rattle.step_model.specs.declared.reply.Reply.TheVariants as replies
use Rattle.step_model.specs.Exchange.{Exchange, MayCome}
use Rattle.step_model.specs.Own.{Progress, none_open, progress_after, progress_from, progress_of, standing_at}
use Rattle.write_laws.proofs.Parts.{from_both}
use Rattle.batch_meaning.specs.Doing.{Doing, over, reads, makes, defines, asks, room, never, Held, Left}
use Rattle.batch_meaning.specs.Progress.{SessionProgress, SessionStep, begins, counts, touches, sends, tells_rows, tells_error, assigns, sets, opens, closes_one, saves, dooms, declares, fills, fetches, shuts, removes, tells_fetch, asked, is_open_after, made, stands_with, fires_from, fired_from}
use Rattle.sound_laws.specs.Tied.{may_come}
use Rattle.statement_paths.proofs.Apart.{held_left}

-- ---- one step

-- where no transaction is open nothing is left of one
abbrev pub IsShut : Progress → Type 0
IsShut progress = progress.is_open ≡ false → progress ≡ none_open

begun_shut : (op : Op) (reply : Reply) → MayCome (standing_at none_open) op → IsShut (progress_after none_open op reply)
begun_shut ops.Begin replies.Began may shut = absurd (let no : true ≡ false = shut in cc)
begun_shut ops.Begin reply may shut = refl
begun_shut (ops.Fetch table start stop hold part) reply may shut = absurd (let no : false ≡ true = may.0 in cc)
begun_shut (ops.BackTo mark) reply may shut = absurd (let no : false ≡ true = may.0 in cc)
begun_shut op reply may shut = absurd (let no : false ≡ true = may in cc)

open_shut : (progress : Progress) (op : Op) (reply : Reply) → progress.is_open ≡ true → IsShut (progress_after progress op reply)
open_shut progress op (replies.Ended place) open_is shut = refl
open_shut progress ops.Begin replies.Began open_is shut = absurd (let no : true ≡ false = shut in cc)
open_shut progress ops.Mark (replies.Marked mark) open_is shut = absurd (let no : true ≡ false = sym open_is ∙ shut in cc)
open_shut progress (ops.BackTo mark) replies.Done open_is shut = absurd (let no : true ≡ false = sym open_is ∙ shut in cc)
open_shut progress op reply open_is shut = absurd (let no : true ≡ false = sym open_is ∙ shut in cc)

step_shut : (progress : Progress) (op : Op) (reply : Reply) → IsShut progress → MayCome (standing_at progress) op → IsShut (progress_after progress op reply)
step_shut progress op reply so may = by_open progress.is_open refl
  where
    by_open : (b : Bool) → progress.is_open ≡ b → IsShut (progress_after progress op reply)
    by_open true is = open_shut progress op reply is
    by_open false is = subst (λ (p : Progress). IsShut (progress_after p op reply)) (sym (so is)) (begun_shut op reply (subst (λ (p : Progress). MayCome (standing_at p) op) (so is) may))

-- ---- all steps

module _ (mine : List Exchange) (comes : may_come mine) where
  shut_on : (done more rest : List Exchange) → mine ≡ done ++ (more ++ rest) → IsShut (progress_of done) → IsShut (progress_of (done ++ more))
  shut_on done [] rest is so = subst (λ (l : List Exchange). IsShut (progress_of l)) (sym (append-nil done)) so
  shut_on done (x ∷ more) rest is so =
      subst (λ (l : List Exchange). IsShut (progress_of l)) (append_assoc done (x ∷ []) more)
      (shut_on (done ++ x ∷ []) more rest (is ∙ sym (append_assoc done (x ∷ []) (more ++ rest)))
      (subst IsShut (sym (from_both none_open done (x ∷ []))) (step_shut (progress_of done) x.op x.reply so (comes done x (more ++ rest) is))))

  -- so it is behind any of them
  pub all_shut : (done rest : List Exchange) → mine ≡ done ++ rest → IsShut (progress_of done)
  all_shut done rest is = shut_on [] done rest is (λ shut. refl)

-- ---- a session and its port

-- both see whether a transaction is open
step_open : (progress : Progress) (b : Bool) (op : Op) (reply : Reply) → progress.is_open ≡ b → (progress_after progress op reply).is_open ≡ is_open_after b op reply
step_open progress b op (replies.Ended place) same = refl
step_open progress b ops.Begin replies.Began same = refl
step_open progress b ops.Mark (replies.Marked mark) same = same
step_open progress b (ops.BackTo mark) replies.Done same = same
step_open progress b op reply same = same

pub made_open : (step : SessionStep) (p : SessionProgress) → (made step p).is_open ≡ p.is_open
made_open (begins vars) p = refl
made_open counts p = refl
made_open touches p = refl
made_open (sends tokens) p = refl
made_open (tells_rows rows) p = refl
made_open (tells_error number) p = refl
made_open (assigns place value) p = refl
made_open (sets settings) p = refl
made_open (opens name) p = refl
made_open closes_one p = refl
made_open (saves name mark) p = refl
made_open dooms p = refl
made_open (declares name select) p = refl
made_open (fills name kinds rows) p = refl
made_open (fetches name) p = refl
made_open (shuts name) p = refl
made_open (removes name) p = refl
made_open (tells_fetch status) p = refl
made_open (stands_with vars) p = refl
made_open (fires_from mark) p = refl
made_open (fired_from mark stood) p = refl

-- the session is told of an exchange as its port has it
pub asked_open : (progress : Progress) (p : SessionProgress) (op : Op) (x : Exchange) → progress.is_open ≡ p.is_open → x.op ≡ op → (progress_after progress x.op x.reply).is_open ≡ (asked op x.reply p).is_open
asked_open progress p op x same is = subst (λ (o : Op). (progress_after progress o x.reply).is_open ≡ is_open_after p.is_open op x.reply) (sym is) (step_open progress p.is_open op x.reply same)

nothing_open : (progress : Progress) (p new : SessionProgress) (exchanges : List Exchange) → progress.is_open ≡ p.is_open → exchanges ≡ [] → new ≡ p → (progress_from progress exchanges).is_open ≡ new.is_open
nothing_open progress p new exchanges same none still =
    ap (λ (l : List Exchange). (progress_from progress l).is_open) none ∙ same ∙ ap (λ (q : SessionProgress). q.is_open) (sym still)

pub left_open : {A : Type 0} (tree : Doing A) (progress : Progress) (p new : SessionProgress) (exchanges : List Exchange) → progress.is_open ≡ p.is_open → Left tree p exchanges new → (progress_from progress exchanges).is_open ≡ new.is_open
unfolding Left
left_open (over a) progress p new exchanges same left = nothing_open progress p new exchanges same left.0 left.1
left_open (reads look) progress p new exchanges same left = left_open (look p) progress p new exchanges same left
left_open (makes step next) progress p new exchanges same (inl here) = nothing_open progress p new exchanges same here.0 here.1
left_open (makes step next) progress p new exchanges same (inr later) = left_open next progress (made step p) new exchanges (same ∙ sym (made_open step p)) later
left_open (defines entry go) progress p new exchanges same (inl here) = nothing_open progress p new exchanges same here.0 here.1
left_open (defines entry go) progress p new exchanges same (inr later) = left_open (go later.0) progress p new exchanges same later.2
left_open (asks op go) progress p new [] same left = same ∙ ap (λ (q : SessionProgress). q.is_open) (sym left)
left_open (asks op go) progress p new (x ∷ later) same left = left_open (go x.reply) (progress_after progress x.op x.reply) (asked op x.reply p) new later (asked_open progress p op x same left.0) left.3
left_open (room go) progress p new exchanges same left = left_open (go left.0) progress p new exchanges same left.1
left_open never progress p new exchanges same left = nothing_open progress p new exchanges same left.0 left.1

pub held_open : {A : Type 0} (tree : Doing A) (progress : Progress) (p new : SessionProgress) (exchanges : List Exchange) (result : A) → progress.is_open ≡ p.is_open → Held tree p exchanges result new → (progress_from progress exchanges).is_open ≡ new.is_open
held_open tree progress p new exchanges result same held = left_open tree progress p new exchanges same (held_left tree p new exchanges result held)

-- behind exchanges of a tree they agree as before them
pub open_behind : {A : Type 0} (tree : Doing A) (before part : List Exchange) (p new : SessionProgress) (result : A) → p.is_open ≡ (progress_of before).is_open → Held tree p part result new → new.is_open ≡ (progress_of (before ++ part)).is_open
open_behind tree before part p new result agree held =
    sym (ap (λ (q : Progress). q.is_open) (from_both none_open before part) ∙ held_open tree (progress_of before) p new part result (sym agree) held)
