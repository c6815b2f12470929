-- The work of a statement in the open transaction, or in one of its own: what was asked around it.
use Rattle.std.proofs.Common.{◌≡◌, ◌⊎◌, inl, inr, ℕ, Bool, true, false, if◌then◌else◌, is_ok, List, [], ◌∷◌, ◌++◌, Result, Ok, Err, refl, sym, ap, ◌∙◌, subst, append_assoc, append-nil}
use Rattle.step_model.specs.declared.manner.Manner.{Manner}
use Rattle.step_model.specs.declared.op.Op.TheVariants as ops
use Rattle.step_model.specs.declared.reply.Reply.{Reply}
use Rattle.step_model.specs.declared.reply.Reply.TheVariants as replies
use Rattle.step_model.specs.Dialog.{IsQuiet}
use Rattle.step_model.specs.Exchange.{Exchange, CanReply}
use Rattle.step_model.specs.Ranges.{no_memory}
use Rattle.statement_paths.specs.Asked.{AskOnly}
use Rattle.batch_meaning.specs.declared.failure.Failure.{Failure}
use Rattle.batch_meaning.specs.declared.home.Home.{Home}
use Rattle.batch_meaning.specs.declared.home.Home.TheVariants.{Nowhere, Open, Own}
use Rattle.batch_meaning.specs.Failures.{plain}
use Rattle.batch_meaning.specs.Progress.{SessionProgress, asked}
use Rattle.batch_meaning.specs.Doing.{Doing, over, asks, ◌then◌, Held, Left}
use Rattle.batch_meaning.specs.Asking.{on_ok, unless_refused, where_begun, where_done, where_ended}
use Rattle.batch_meaning.specs.Working.{relaxes, closes, enters, leaves, own}
use Rattle.statement_paths.specs.Paths.{replied, end_of, IsAround, IsRelaxed, NoneCommits}
use Rattle.statement_paths.proofs.Only.{AnyStep, NoCommit, Only, left_asks, only_mono, only_then, quiet_commits}
use Rattle.statement_paths.proofs.Apart.{Apart, held_apart, held_left, left_apart}
use Rattle.statement_paths.proofs.Dialogs.{is_replied}
use Rattle.statement_paths.proofs.Works.{IsOwnStep, Owns, Works, Worked, owns_leave, works_own}

abbrev pub nothing_more : Doing (Unit {0})
nothing_more = over tt

-- ---- no commit

pub none_append : (first second : List Exchange) → NoneCommits first → NoneCommits second → NoneCommits (first ++ second)
none_append [] second one two = two
none_append (x ∷ first) second one two = (one.0, none_append first second one.1 two)

pub none_nil : (exchanges : List Exchange) → exchanges ≡ [] → NoneCommits exchanges
none_nil exchanges is = subst NoneCommits (sym is) tt

-- a tree that asks none
abbrev pub Calm : {A : Type 0} → Doing A → Type 0
Calm tree = Only AnyStep NoCommit tree

pub calm_left : {A : Type 0} (tree : Doing A) (p new : SessionProgress) (exchanges : List Exchange) → Calm tree → Left tree p exchanges new → NoneCommits exchanges
calm_left tree p new exchanges calm left = by_asked exchanges (left_asks AnyStep NoCommit tree p new exchanges calm left)
  where
    by_asked : (exchanges : List Exchange) → AskOnly NoCommit exchanges → NoneCommits exchanges
    by_asked [] is = tt
    by_asked (x ∷ later) is = (is.0.0, by_asked later is.1)

pub owns_calm : {A : Type 0} (tree : Doing A) → Owns tree → Calm tree
owns_calm tree owns = only_mono IsOwnStep AnyStep IsQuiet NoCommit (λ step is. tt) quiet_commits tree owns

pub works_calm : {A : Type 0} (tree : Doing A) → Works tree → Calm tree
works_calm tree works = owns_calm tree (works_own tree works)

-- ---- the end of a statement

relax_calm : Calm relaxes
unfolding relaxes
relax_calm = λ p. by_touched p.touched
  where
    by_reply : (reply : Reply) → CanReply ops.Relax reply → Calm (where_done nothing_more reply)
    by_reply replies.Done can = tt
    by_reply reply can = absurd can

    by_touched : (test : Bool) → Calm (if test then asks ops.Relax (where_done nothing_more) else nothing_more)
    by_touched true = ((λ is. cc), by_reply)
    by_touched false = tt

-- behind the end of the locks the session is as it was
relax_held : (p new : SessionProgress) (exchanges : List Exchange) (done : Unit {0}) → Held relaxes p exchanges done new → IsRelaxed p.settings.manner exchanges × (new ≡ record p { touched = new.touched })
unfolding relaxes Held
relax_held p new exchanges done held = by_test p.touched exchanges held
  where
    by_test : (test : Bool) (exchanges : List Exchange) → Held (if test then asks ops.Relax (where_done nothing_more) else nothing_more) p exchanges done new → IsRelaxed p.settings.manner exchanges × (new ≡ record p { touched = new.touched })
    by_test true [] was = absurd was
    by_test true (x ∷ later) was = by_reply x.reply refl was.2 was.3
      where
        by_reply : (reply : Reply) → x.reply ≡ reply → CanReply ops.Relax reply → Held (where_done nothing_more reply) (asked ops.Relax reply p) later done new → IsRelaxed p.settings.manner (x ∷ later) × (new ≡ record p { touched = new.touched })
        by_reply replies.Done told can so = (
          inr (ap (λ (y : Exchange). y ∷ later) (is_replied x p.settings.manner ops.Relax replies.Done was.0 was.1 told) ∙ ap (λ (l : List Exchange). replied p.settings.manner ops.Relax replies.Done ∷ l) so.0),
          so.2 ∙ ap (λ (q : SessionProgress). record p { touched = q.touched }) (sym so.2),
        )
        by_reply reply told can so = absurd can
    by_test false exchanges was = (inl was.0, was.2 ∙ ap (λ (q : SessionProgress). record p { touched = q.touched }) (sym was.2))

-- the transaction of its own ended
abbrev IsEnd : SessionProgress → Bool → List Exchange → SessionProgress → Type 0
IsEnd p succeeded exchanges new = (place : ℕ) × (exchanges ≡ replied p.settings.manner (end_of succeeded) (replies.Ended place) ∷ []) × (new ≡ record p { is_open = false; is_own = false; stands = false; touched = new.touched; txn = new.txn })

close_held : (succeeded : Bool) (p new : SessionProgress) (exchanges : List Exchange) (done : Unit {0}) → Held (closes succeeded) p exchanges done new → IsEnd p succeeded exchanges new
unfolding closes Held
close_held true p new [] done held = absurd held
close_held true p new (x ∷ later) done held = by_reply x.reply refl held.2 held.3
  where
    by_reply : (reply : Reply) → x.reply ≡ reply → CanReply ops.Commit reply → Held (where_ended nothing_more reply) (asked ops.Commit reply p) later done new → IsEnd p true (x ∷ later) new
    by_reply (replies.Ended place) told can so = (
      place,
      ap (λ (y : Exchange). y ∷ later) (is_replied x p.settings.manner ops.Commit (replies.Ended place) held.0 held.1 told) ∙ ap (λ (l : List Exchange). replied p.settings.manner ops.Commit (replies.Ended place) ∷ l) so.0,
      so.2 ∙ ap (λ (q : SessionProgress). record p { is_open = false; is_own = false; stands = false; touched = q.touched; txn = q.txn }) (sym so.2),
    )
    by_reply reply told can so = absurd can
close_held false p new [] done held = absurd held
close_held false p new (x ∷ later) done held = by_reply x.reply refl held.2 held.3
  where
    by_reply : (reply : Reply) → x.reply ≡ reply → CanReply ops.Rollback reply → Held (where_ended nothing_more reply) (asked ops.Rollback reply p) later done new → IsEnd p false (x ∷ later) new
    by_reply (replies.Ended place) told can so = (
      place,
      ap (λ (y : Exchange). y ∷ later) (is_replied x p.settings.manner ops.Rollback (replies.Ended place) held.0 held.1 told) ∙ ap (λ (l : List Exchange). replied p.settings.manner ops.Rollback (replies.Ended place) ∷ l) so.0,
      so.2 ∙ ap (λ (q : SessionProgress). record p { is_open = false; is_own = false; stands = false; touched = q.touched; txn = q.txn }) (sym so.2),
    )
    by_reply reply told can so = absurd can

close_left : (succeeded : Bool) (p new : SessionProgress) (exchanges : List Exchange) → Left (closes succeeded) p exchanges new → (exchanges ≡ []) ⊎ ((place : ℕ) × (exchanges ≡ replied p.settings.manner (end_of succeeded) (replies.Ended place) ∷ []))
unfolding closes Left
close_left true p new [] left = inl refl
close_left true p new (x ∷ later) left = inr (by_reply x.reply refl left.2 left.3)
  where
    by_reply : (reply : Reply) → x.reply ≡ reply → CanReply ops.Commit reply → Left (where_ended nothing_more reply) (asked ops.Commit reply p) later new → (place : ℕ) × (x ∷ later ≡ replied p.settings.manner ops.Commit (replies.Ended place) ∷ [])
    by_reply (replies.Ended place) told can so = (place, ap (λ (y : Exchange). y ∷ later) (is_replied x p.settings.manner ops.Commit (replies.Ended place) left.0 left.1 told) ∙ ap (λ (l : List Exchange). replied p.settings.manner ops.Commit (replies.Ended place) ∷ l) so.0)
    by_reply reply told can so = absurd can
close_left false p new [] left = inl refl
close_left false p new (x ∷ later) left = inr (by_reply x.reply refl left.2 left.3)
  where
    by_reply : (reply : Reply) → x.reply ≡ reply → CanReply ops.Rollback reply → Left (where_ended nothing_more reply) (asked ops.Rollback reply p) later new → (place : ℕ) × (x ∷ later ≡ replied p.settings.manner ops.Rollback (replies.Ended place) ∷ [])
    by_reply (replies.Ended place) told can so = (place, ap (λ (y : Exchange). y ∷ later) (is_replied x p.settings.manner ops.Rollback (replies.Ended place) left.0 left.1 told) ∙ ap (λ (l : List Exchange). replied p.settings.manner ops.Rollback (replies.Ended place) ∷ l) so.0)
    by_reply reply told can so = absurd can

-- ---- the whole

-- where the work begins, by whether it asks anything and whether a transaction is open
abbrev pub entered : Bool → Bool → SessionProgress → SessionProgress
entered true false p = asked ops.Begin replies.Began p
entered asks_some is_open p = p

abbrev pub behind : {A : Type 0} → Home → Result A Failure → Doing (Result A Failure)
behind home came = leaves home (is_ok came) then λ done. over came

-- behind it all else is as the work has left it
abbrev pub IsEnded : SessionProgress → SessionProgress → Type 0
IsEnded mid new = new ≡ record mid { is_open = new.is_open; is_own = new.is_own; stands = new.stands; touched = new.touched; txn = new.txn }

ended_as : (mid new r : SessionProgress) → new ≡ r → IsEnded mid r → IsEnded mid new
ended_as mid new r is so = is ∙ so ∙ ap (λ (q : SessionProgress). record mid { is_open = q.is_open; is_own = q.is_own; stands = q.stands; touched = q.touched; txn = q.txn }) (sym is)

-- All but variables, cursors, savepoints and locks is as it was before; where no transaction was open, none is a statement's own, whose
-- triggers run.
abbrev pub Behind : SessionProgress → SessionProgress → Type 0
Behind p new = (new ≡ record p { is_own = new.is_own; stands = new.stands; vars = new.vars; cursors = new.cursors; touched = new.touched; txn = new.txn })
    × (p.is_open ≡ true → (new.is_own ≡ p.is_own) × (new.stands ≡ p.stands))

pub worked_behind : (p new : SessionProgress) → Worked p new → Behind p new
worked_behind p new worked = (
  worked ∙ ap (λ (q : SessionProgress). record p { is_own = q.is_own; stands = q.stands; vars = new.vars; cursors = new.cursors; touched = new.touched; txn = new.txn }) (sym worked),
  λ is_open. (ap (λ (q : SessionProgress). q.is_own) worked, ap (λ (q : SessionProgress). q.stands) worked),
)

pub behind_worked : (p q r : SessionProgress) → Worked p q → Behind q r → Behind p r
behind_worked p q r first second = (
  second.0 ∙ ap (λ (s : SessionProgress). record s { is_own = r.is_own; stands = r.stands; vars = r.vars; cursors = r.cursors; touched = r.touched; txn = r.txn }) first,
  λ is_open. let own = second.1 (ap (λ (s : SessionProgress). s.is_open) first ∙ is_open) in (own.0 ∙ ap (λ (s : SessionProgress). s.is_own) first, own.1 ∙ ap (λ (s : SessionProgress). s.stands) first),
)

-- the work was done there
pub record Owned {A : Type 0} (asks_some is_open : Bool) (work : Doing (Result A Failure)) (p : SessionProgress) (came : Result A Failure) (exchanges : List Exchange) (new : SessionProgress) : Type 0 where
  pub worked : List Exchange
  pub mid : SessionProgress
  pub held : Held work (entered asks_some is_open p) worked came mid
  pub around : IsAround asks_some is_open (is_ok came) p.settings.manner worked exchanges
  pub leaves : Behind p new
  pub ended : IsEnded mid new

-- or no transaction could be begun for it
pub record Refused {A : Type 0} (p : SessionProgress) (came : Result A Failure) (exchanges : List Exchange) (new : SessionProgress) : Type 0 where
  pub asks : exchanges ≡ replied p.settings.manner ops.Begin replies.Memory ∷ []
  pub failed : came ≡ Err (plain no_memory)
  pub leaves : Behind p new

module _ {A : Type 0} (work : Doing (Result A Failure)) (owns : Owns work) (p new : SessionProgress) (exchanges : List Exchange) (came : Result A Failure) where
  abbrev Ways : Bool → Bool → Type 0
  Ways asks_some is_open = Refused p came exchanges new ⊎ Owned asks_some is_open work p came exchanges new

  left_as : (q mid : SessionProgress) (worked : List Exchange) (c : Result A Failure) → Held work q worked c mid → Worked q mid
  left_as q mid worked c held = owns_leave q work mid worked c owns held

  -- nothing is asked
  nowhere_held : Held (work then behind Nowhere) p exchanges came new → Ways false p.is_open
  unfolding leaves ◌then◌ Held
  nowhere_held held =
      let on = held_apart work (behind Nowhere) p new exchanges came held in
      inr (record {
        worked = on.front;
        mid = on.mid;
        held = subst (λ (c : Result A Failure). Held work p on.front c on.mid) (sym on.rest.1) on.held;
        around = on.parts ∙ ap (λ (l : List Exchange). on.front ++ l) on.rest.0 ∙ append-nil on.front;
        leaves = subst (Behind p) (sym on.rest.2) (worked_behind p on.mid (left_as p on.mid on.front on.came on.held));
        ended = ended_as on.mid new on.mid on.rest.2 refl;
      })

  -- in the open one
  open_held : Held (work then behind Open) p exchanges came new → Ways true true
  unfolding leaves Held
  open_held held =
      let on = held_apart work (behind Open) p new exchanges came held in
      let end = held_apart relaxes (λ done. over on.came) on.mid new on.back came on.rest in
      let relaxed = relax_held on.mid end.mid end.front end.came end.held in
      let worked = left_as p on.mid on.front on.came on.held in
      let manner : on.mid.settings.manner ≡ p.settings.manner = ap (λ (q : SessionProgress). q.settings.manner) worked in
      inr (record {
        worked = on.front;
        mid = on.mid;
        held = subst (λ (c : Result A Failure). Held work p on.front c on.mid) (sym end.rest.1) on.held;
        around = (end.front, on.parts ∙ ap (λ (l : List Exchange). on.front ++ l) (end.parts ∙ ap (λ (l : List Exchange). end.front ++ l) end.rest.0 ∙ append-nil end.front), subst (λ (m : Manner). IsRelaxed m end.front) manner relaxed.0);
        leaves = subst (Behind p) (sym end.rest.2) (worked_behind p end.mid (relaxed.1 ∙ ap (λ (q : SessionProgress). record q { touched = end.mid.touched }) worked ∙ spread end.mid on.mid relaxed.1));
        ended = ended_as on.mid new end.mid end.rest.2 (ended_as on.mid end.mid (record on.mid { touched = end.mid.touched }) relaxed.1 refl);
      })
    where
      spread : (r q : SessionProgress) → r ≡ record q { touched = r.touched } → record p { vars = q.vars; cursors = q.cursors; touched = r.touched; txn = q.txn } ≡ record p { vars = r.vars; cursors = r.cursors; touched = r.touched; txn = r.txn }
      spread r q is = ap (λ (s : SessionProgress). record p { vars = s.vars; cursors = s.cursors; touched = r.touched; txn = s.txn }) (sym is)

  -- in one of its own
  own_parts : (x : Exchange) (front relaxed back : List Exchange) (place : ℕ) (succeeded : Bool) (later : List Exchange) (manner : Manner) → x ≡ replied manner ops.Begin replies.Began → later ≡ front ++ back → back ≡ relaxed ++ replied manner (end_of succeeded) (replies.Ended place) ∷ []
      → x ∷ later ≡ (replied manner ops.Begin replies.Began ∷ (front ++ relaxed)) ++ replied manner (end_of succeeded) (replies.Ended place) ∷ []
  own_parts x front relaxed back place succeeded later manner begun parts end =
      ap (λ (y : Exchange). y ∷ later) begun ∙ ap (λ (l : List Exchange). replied manner ops.Begin replies.Began ∷ l) (parts ∙ ap (λ (l : List Exchange). front ++ l) end ∙ sym (append_assoc front relaxed (replied manner (end_of succeeded) (replies.Ended place) ∷ [])))

  begun_held : (x : Exchange) (later : List Exchange) → exchanges ≡ x ∷ later → x ≡ replied p.settings.manner ops.Begin replies.Began → p.is_open ≡ false → Held (work then behind Own) (asked ops.Begin replies.Began p) later came new → Ways true false
  unfolding leaves Held
  begun_held x later is begun shut held =
      let q : SessionProgress = asked ops.Begin replies.Began p in
      let on = held_apart work (behind Own) q new later came held in
      let end = held_apart (relaxes then λ done. closes (is_ok on.came)) (λ done. over on.came) on.mid new on.back came on.rest in
      let parts = held_apart relaxes (λ done. closes (is_ok on.came)) on.mid end.mid end.front end.came end.held in
      let relaxed = relax_held on.mid parts.mid parts.front parts.came parts.held in
      let close = close_held (is_ok on.came) parts.mid end.mid parts.back end.came parts.rest in
      let worked = left_as q on.mid on.front on.came on.held in
      let manner : on.mid.settings.manner ≡ p.settings.manner = ap (λ (s : SessionProgress). s.settings.manner) worked in
      let same : parts.mid.settings.manner ≡ p.settings.manner = ap (λ (s : SessionProgress). s.settings.manner) relaxed.1 ∙ manner in
      let last : parts.back ≡ replied p.settings.manner (end_of (is_ok on.came)) (replies.Ended close.0) ∷ [] = close.1 ∙ ap (λ (m : Manner). replied m (end_of (is_ok on.came)) (replies.Ended close.0) ∷ []) same in
      let back : on.back ≡ parts.front ++ replied p.settings.manner (end_of (is_ok on.came)) (replies.Ended close.0) ∷ [] =
      end.parts ∙ ap (λ (l : List Exchange). end.front ++ l) end.rest.0 ∙ append-nil end.front ∙ parts.parts ∙ ap (λ (l : List Exchange). parts.front ++ l) last in
      let around : IsAround true false (is_ok on.came) p.settings.manner on.front exchanges = (parts.front, close.0, is ∙ own_parts x on.front parts.front on.back close.0 (is_ok on.came) later p.settings.manner begun on.parts back, subst (λ (m : Manner). IsRelaxed m parts.front) manner relaxed.0) in
      inr (record {
        worked = on.front;
        mid = on.mid;
        held = subst (λ (c : Result A Failure). Held work q on.front c on.mid) (sym end.rest.1) on.held;
        around = subst (λ (c : Result A Failure). IsAround true false (is_ok c) p.settings.manner on.front exchanges) (sym end.rest.1) around;
        leaves = subst (Behind p) (sym end.rest.2) (ends q on.mid parts.mid end.mid shut refl worked relaxed.1 close.2);
        ended = ended_as on.mid new end.mid end.rest.2 (ended_as on.mid end.mid (record on.mid { is_open = false; is_own = false; stands = false; touched = end.mid.touched; txn = end.mid.txn }) (close.2 ∙ ap (λ (t : SessionProgress). record t { is_open = false; is_own = false; stands = false; touched = end.mid.touched; txn = end.mid.txn }) relaxed.1) refl);
      })
    where
      ends : (q mid r s : SessionProgress) → p.is_open ≡ false → q ≡ asked ops.Begin replies.Began p → Worked q mid → r ≡ record mid { touched = r.touched } → s ≡ record r { is_open = false; is_own = false; stands = false; touched = s.touched; txn = s.txn } → Behind p s
      ends q mid r s shut begun worked relaxed close =
          let close_to : s ≡ record mid { is_open = false; is_own = false; stands = false; touched = s.touched; txn = s.txn } = close ∙ ap (λ (t : SessionProgress). record t { is_open = false; is_own = false; stands = false; touched = s.touched; txn = s.txn }) relaxed in (
            close_to ∙ ap (λ (t : SessionProgress). record t { is_open = false; is_own = false; stands = false; touched = s.touched; txn = s.txn }) worked
                ∙ ap (λ (t : SessionProgress). record t { is_open = false; is_own = false; stands = false; vars = mid.vars; cursors = mid.cursors; touched = s.touched; txn = s.txn }) begun
                ∙ ap (λ (b : Bool). record p { is_open = b; is_own = false; stands = false; vars = mid.vars; cursors = mid.cursors; touched = s.touched; txn = s.txn }) (sym shut)
                ∙ ap (λ (t : SessionProgress). record p { is_own = t.is_own; stands = t.stands; vars = t.vars; cursors = t.cursors; touched = s.touched; txn = s.txn }) (sym close_to),
            λ is_open. absurd (let no : false ≡ true = sym shut ∙ is_open in cc),
          )

  pub own_held : (asks_some : Bool) → Held (own asks_some work) p exchanges came new → Ways asks_some p.is_open
  unfolding own enters ◌then◌ Held
  own_held false held = nowhere_held held
  own_held true held = by_open p.is_open refl held
    where
      by_begin : (xs : List Exchange) → exchanges ≡ xs → p.is_open ≡ false → Held (asks ops.Begin (λ reply. unless_refused (where_begun (over (Ok Own))) reply then on_ok (λ home. work then behind home))) p xs came new → Ways true false
      by_begin [] is shut was = absurd was
      by_begin (x ∷ later) is shut was = by_reply x.reply refl was.2 was.3
        where
          by_reply : (reply : Reply) → x.reply ≡ reply → CanReply ops.Begin reply → Held (unless_refused (where_begun (over (Ok Own))) reply then on_ok (λ home. work then behind home)) (asked ops.Begin reply p) later came new → Ways true false
          by_reply replies.Began told can so = begun_held x later is (is_replied x p.settings.manner ops.Begin replies.Began was.0 was.1 told) shut so
          by_reply replies.Memory told can so = inl (record {
            asks = is ∙ ap (λ (y : Exchange). y ∷ later) (is_replied x p.settings.manner ops.Begin replies.Memory was.0 was.1 told) ∙ ap (λ (l : List Exchange). replied p.settings.manner ops.Begin replies.Memory ∷ l) so.0;
            failed = so.1;
            leaves = worked_behind p new (so.2 ∙ ap (λ (q : SessionProgress). record p { vars = q.vars; cursors = q.cursors; touched = q.touched; txn = q.txn }) (sym so.2));
          })
          by_reply reply told can so = absurd can

      by_open : (test : Bool) → p.is_open ≡ test → Held ((if test then over (Ok Open) else asks ops.Begin (unless_refused (where_begun (over (Ok Own))))) then on_ok (λ home. work then behind home)) p exchanges came new → Ways true test
      by_open true is was = open_held was
      by_open false is was = by_begin exchanges refl is was

-- ---- what was left

-- it was committed, with what its work came to
pub record Committed {A : Type 0} (work : Doing (Result A Failure)) (p : SessionProgress) (exchanges : List Exchange) : Type 0 where
  pub result : A
  pub worked : List Exchange
  pub mid : SessionProgress
  pub shut : p.is_open ≡ false
  pub held : Held work (asked ops.Begin replies.Began p) worked (Ok result) mid
  pub around : IsAround true false true p.settings.manner worked exchanges

nowhere_calm : {A : Type 0} (came : Result A Failure) → Calm (behind Nowhere came)
unfolding leaves ◌then◌
nowhere_calm came = tt

open_calm : {A : Type 0} (came : Result A Failure) → Calm (behind Open came)
unfolding leaves
open_calm came = only_then AnyStep NoCommit relaxes (λ done. over came) relax_calm (λ done. tt)

-- the end of a transaction of its own was left
end_left : (succeeded : Bool) (p new : SessionProgress) (exchanges : List Exchange) → Left (relaxes then λ done. closes succeeded) p exchanges new
    → NoneCommits exchanges ⊎ ((relaxed : List Exchange) × (place : ℕ) × (exchanges ≡ relaxed ++ replied p.settings.manner (end_of succeeded) (replies.Ended place) ∷ []) × IsRelaxed p.settings.manner relaxed)
end_left succeeded p new exchanges left = by_left (left_apart relaxes (λ done. closes succeeded) p new exchanges left)
  where
    by_end : (front back : List Exchange) (mid : SessionProgress) → exchanges ≡ front ++ back → NoneCommits front → IsRelaxed p.settings.manner front × (mid ≡ record p { touched = mid.touched }) → (back ≡ []) ⊎ ((place : ℕ) × (back ≡ replied mid.settings.manner (end_of succeeded) (replies.Ended place) ∷ []))
        → NoneCommits exchanges ⊎ ((relaxed : List Exchange) × (place : ℕ) × (exchanges ≡ relaxed ++ replied p.settings.manner (end_of succeeded) (replies.Ended place) ∷ []) × IsRelaxed p.settings.manner relaxed)
    by_end front back mid parts calm relaxed (inl none) = inl (subst NoneCommits (sym (parts ∙ ap (λ (l : List Exchange). front ++ l) none ∙ append-nil front)) calm)
    by_end front back mid parts calm relaxed (inr end) =
        inr (front, end.0, parts ∙ ap (λ (l : List Exchange). front ++ l) (end.1 ∙ ap (λ (m : Manner). replied m (end_of succeeded) (replies.Ended end.0) ∷ []) (ap (λ (q : SessionProgress). q.settings.manner) relaxed.1)), relaxed.0)

    by_left : Left relaxes p exchanges new ⊎ Apart relaxes p exchanges (λ done mid back. Left (closes succeeded) mid back new)
        → NoneCommits exchanges ⊎ ((relaxed : List Exchange) × (place : ℕ) × (exchanges ≡ relaxed ++ replied p.settings.manner (end_of succeeded) (replies.Ended place) ∷ []) × IsRelaxed p.settings.manner relaxed)
    by_left (inl here) = inl (calm_left relaxes p new exchanges relax_calm here)
    by_left (inr on) = by_end on.front on.back on.mid on.parts (calm_left relaxes p on.mid on.front relax_calm (held_left relaxes p on.mid on.front on.came on.held)) (relax_held p on.mid on.front on.came on.held) (close_left succeeded on.mid new on.back on.rest)

module _ {A : Type 0} (work : Doing (Result A Failure)) (owns : Owns work) (p new : SessionProgress) where
  abbrev Leaves : List Exchange → Type 0
  Leaves exchanges = NoneCommits exchanges ⊎ Committed work p exchanges

  begin_first : (x : Exchange) (later : List Exchange) → x.op ≡ ops.Begin → NoneCommits later → NoneCommits (x ∷ later)
  begin_first x later asked calm = (λ is. let no : ops.Begin ≡ ops.Commit = sym asked ∙ is in cc, calm)

  front_calm : (q mid : SessionProgress) (front : List Exchange) (came : Result A Failure) → Held work q front came mid → NoneCommits front
  front_calm q mid front came held = calm_left work q mid front (owns_calm work owns) (held_left work q mid front came held)

  -- behind the work
  rest_left : (x : Exchange) (later front back : List Exchange) (came : Result A Failure) (mid : SessionProgress) → p.is_open ≡ false → x ≡ replied p.settings.manner ops.Begin replies.Began → x.op ≡ ops.Begin → later ≡ front ++ back
      → Held work (asked ops.Begin replies.Began p) front came mid → NoneCommits back ⊎ ((relaxed : List Exchange) × (place : ℕ) × (back ≡ relaxed ++ replied p.settings.manner (end_of (is_ok came)) (replies.Ended place) ∷ []) × IsRelaxed p.settings.manner relaxed)
      → Leaves (x ∷ later)
  rest_left x later front back came mid shut begun first parts held (inl calm) =
      inl (begin_first x later first (subst NoneCommits (sym parts) (none_append front back (front_calm (asked ops.Begin replies.Began p) mid front came held) calm)))
  rest_left x later front back (Ok result) mid shut begun first parts held (inr end) = inr (record {
    result = result;
    worked = front;
    mid = mid;
    shut = shut;
    held = held;
    around = (end.0, end.1, ap (λ (y : Exchange). y ∷ later) begun ∙ ap (λ (l : List Exchange). replied p.settings.manner ops.Begin replies.Began ∷ l) (parts ∙ ap (λ (l : List Exchange). front ++ l) end.2 ∙ sym (append_assoc front end.0 (replied p.settings.manner ops.Commit (replies.Ended end.1) ∷ []))), end.3);
  })
  rest_left x later front back (Err failure) mid shut begun first parts held (inr end) =
      inl (begin_first x later first (subst NoneCommits (sym parts) (none_append front back (front_calm (asked ops.Begin replies.Began p) mid front (Err failure) held)
      (subst NoneCommits (sym end.2) (none_append end.0 (replied p.settings.manner ops.Rollback (replies.Ended end.1) ∷ []) (by_relaxed end.3) ((λ is. let no : ops.Rollback ≡ ops.Commit = is in cc), tt))))))
    where
      by_relaxed : {relaxed : List Exchange} → IsRelaxed p.settings.manner relaxed → NoneCommits relaxed
      by_relaxed (inl is) = subst NoneCommits (sym is) tt
      by_relaxed (inr is) = subst NoneCommits (sym is) ((λ so. let no : ops.Relax ≡ ops.Commit = so in cc), tt)

  begun_left : (x : Exchange) (later : List Exchange) → p.is_open ≡ false → x ≡ replied p.settings.manner ops.Begin replies.Began → x.op ≡ ops.Begin → Left (work then behind Own) (asked ops.Begin replies.Began p) later new → Leaves (x ∷ later)
  unfolding leaves Left
  begun_left x later shut begun first left = by_work (left_apart work (behind Own) (asked ops.Begin replies.Began p) new later left)
    where
      ended : (came : Result A Failure) (mid : SessionProgress) (front back : List Exchange) → later ≡ front ++ back → Held work (asked ops.Begin replies.Began p) front came mid → (q : SessionProgress) → Left (relaxes then λ done. closes (is_ok came)) mid back q → Leaves (x ∷ later)
      ended came mid front back parts held q here =
          let manner : mid.settings.manner ≡ p.settings.manner = ap (λ (s : SessionProgress). s.settings.manner) (owns_leave (asked ops.Begin replies.Began p) work mid front came owns held) in
          rest_left x later front back came mid shut begun first parts held
          (subst (λ (m : Manner). NoneCommits back ⊎ ((relaxed : List Exchange) × (place : ℕ) × (back ≡ relaxed ++ replied m (end_of (is_ok came)) (replies.Ended place) ∷ []) × IsRelaxed m relaxed)) manner (end_left (is_ok came) mid q back here))

      by_end : (came : Result A Failure) (mid : SessionProgress) (front back : List Exchange) → later ≡ front ++ back → Held work (asked ops.Begin replies.Began p) front came mid
          → Left (relaxes then λ done. closes (is_ok came)) mid back new ⊎ Apart (relaxes then λ done. closes (is_ok came)) mid back (λ done q rest. Left (over came) q rest new) → Leaves (x ∷ later)
      by_end came mid front back parts held (inl here) = ended came mid front back parts held new here
      by_end came mid front back parts held (inr on) =
          ended came mid front back parts held on.mid (subst (λ (l : List Exchange). Left (relaxes then λ done. closes (is_ok came)) mid l on.mid) (sym (on.parts ∙ ap (λ (l : List Exchange). on.front ++ l) on.rest.0 ∙ append-nil on.front))
          (held_left (relaxes then λ done. closes (is_ok came)) mid on.mid on.front on.came on.held))

      by_work : Left work (asked ops.Begin replies.Began p) later new ⊎ Apart work (asked ops.Begin replies.Began p) later (λ came mid back. Left (behind Own came) mid back new) → Leaves (x ∷ later)
      by_work (inl here) = inl (begin_first x later first (calm_left work (asked ops.Begin replies.Began p) new later (owns_calm work owns) here))
      by_work (inr on) = by_end on.came on.mid on.front on.back on.parts on.held (left_apart (relaxes then λ done. closes (is_ok on.came)) (λ done. over on.came) on.mid new on.back on.rest)

  pub own_left : (asks_some : Bool) (exchanges : List Exchange) → Left (own asks_some work) p exchanges new → NoneCommits exchanges ⊎ ((asks_some ≡ true) × Committed work p exchanges)
  unfolding own enters ◌then◌ Left
  own_left false exchanges left = inl (calm_left (work then behind Nowhere) p new exchanges (only_then AnyStep NoCommit work (behind Nowhere) (owns_calm work owns) nowhere_calm) left)
  own_left true exchanges left = by_open p.is_open refl left
    where
      on_true : {xs : List Exchange} → Leaves xs → NoneCommits xs ⊎ ((true ≡ true) × Committed work p xs)
      on_true (inl calm) = inl calm
      on_true (inr committed) = inr (refl, committed)

      by_begin : (xs : List Exchange) → p.is_open ≡ false → Left (asks ops.Begin (λ reply. unless_refused (where_begun (over (Ok Own))) reply then on_ok (λ home. work then behind home))) p xs new → NoneCommits xs ⊎ ((true ≡ true) × Committed work p xs)
      by_begin [] shut was = inl tt
      by_begin (x ∷ later) shut was = by_reply x.reply refl was.2 was.3
        where
          by_reply : (reply : Reply) → x.reply ≡ reply → CanReply ops.Begin reply → Left (unless_refused (where_begun (over (Ok Own))) reply then on_ok (λ home. work then behind home)) (asked ops.Begin reply p) later new → NoneCommits (x ∷ later) ⊎ ((true ≡ true) × Committed work p (x ∷ later))
          by_reply replies.Began told can so = on_true (begun_left x later shut (is_replied x p.settings.manner ops.Begin replies.Began was.0 was.1 told) was.0 so)
          by_reply replies.Memory told can so = inl (begin_first x later was.0 (none_nil later so.0))
          by_reply reply told can so = absurd can

      by_open : (test : Bool) → p.is_open ≡ test → Left ((if test then over (Ok Open) else asks ops.Begin (unless_refused (where_begun (over (Ok Own))))) then on_ok (λ home. work then behind home)) p exchanges new → NoneCommits exchanges ⊎ ((true ≡ true) × Committed work p exchanges)
      by_open true is was = inl (calm_left (work then behind Open) p new exchanges (only_then AnyStep NoCommit work (behind Open) (owns_calm work owns) open_calm) was)
      by_open false is was = by_begin exchanges is was
