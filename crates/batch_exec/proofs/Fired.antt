-- A statement whose triggers run, or have run.
use Rattle.std.proofs.Common.{◌≡◌, ℕ, ◌||◌, Bool, true, false, nat_eq, not, List, [], ◌∷◌, Result, refl, sym, ap, ◌∙◌, subst, eqb-true, if◌then◌else◌}
use Rattle.std.specs.Prelude.{IsTrue}
use Rattle.std.specs.List.{list_any}
use Rattle.std.proofs.lemmas.List.Elements.{All-filter, All-head, All-push, All-tail}
use Rattle.step_model.specs.Port.{PortPast}
use Rattle.txn_rules.specs.declared.savepoints.Savepoint.{Savepoint}
use Rattle.txn_rules.specs.declared.state.TxnState.{TxnState}
use Rattle.txn_rules.specs.Savepoints.{without}
use Rattle.txn_rules.specs.State.{after_fire, after_fired, after_save, is_closed}
use Rattle.value_types.specs.declared.memory.Memory.{Memory}
use Rattle.batch_meaning.specs.declared.home.Home.{Home}
use Rattle.batch_meaning.specs.declared.home.Home.TheVariants.{Nowhere, Open, Own}
use Rattle.batch_meaning.specs.Progress.{AreLive, Ready, SessionProgress, fired_from, fires_from, made}
use Rattle.batch_meaning.specs.Doing.{Did, Doing, over}
use Rattle.batch_meaning.specs.Firing.{closes_own, has_mark, relaxes_then, settles, undone_to}
use Rattle.batch_meaning.specs.Working.{relaxes}
use Rattle.statement_exec.proofs.Beginning.{BeginsNone, did_none, none_asks, none_closes, none_done, none_if, none_leaves, none_over, none_relaxes}

-- ---- marks

-- a mark that stands among the savepoints is live
pub mark_live : (mark : ℕ) (marks : List ℕ) (saves : List Savepoint) → AreLive saves marks → list_any (λ savepoint. nat_eq savepoint.mark mark) saves ≡ true → IsTrue (list_any (λ live. nat_eq live mark) marks)
mark_live mark marks [] live is = absurd (let no : false ≡ true = is in cc)
mark_live mark marks (savepoint ∷ saves) live is = by_first (nat_eq savepoint.mark mark) refl (mark_live mark marks saves (All-tail (λ (s : Savepoint). IsTrue (list_any (λ live. nat_eq live s.mark) marks)) savepoint saves live)) is
  where
    by_first : (same : Bool) → nat_eq savepoint.mark mark ≡ same → (list_any (λ s. nat_eq s.mark mark) saves ≡ true → IsTrue (list_any (λ live. nat_eq live mark) marks)) → (same || list_any (λ s. nat_eq s.mark mark) saves) ≡ true → IsTrue (list_any (λ live. nat_eq live mark) marks)
    by_first true same later any = subst (λ (m : ℕ). IsTrue (list_any (λ live. nat_eq live m) marks)) (eqb-true savepoint.mark mark same) (All-head (λ (s : Savepoint). IsTrue (list_any (λ live. nat_eq live s.mark) marks)) savepoint saves live)
    by_first false other later any = later any

-- ---- their beginning

fire_live : (mark : ℕ) (marks : List ℕ) (txn : TxnState) → AreLive txn.saves marks → IsTrue (list_any (λ live. nat_eq live mark) marks) → AreLive (after_fire mark txn).saves marks
fire_live mark marks txn live is = by_closed (is_closed txn)
  where
    by_closed : (closed : Bool) → AreLive (after_save [] mark (if closed then record txn { count = 1 } else txn)).saves marks
    by_closed true = All-push (λ (s : Savepoint). IsTrue (list_any (λ live. nat_eq live s.mark) marks)) txn.saves (record { name = []; mark = mark }) live is
    by_closed false = All-push (λ (s : Savepoint). IsTrue (list_any (λ live. nat_eq live s.mark) marks)) txn.saves (record { name = []; mark = mark }) live is

fire_open : (mark : ℕ) (txn : TxnState) → is_closed (after_fire mark txn) ≡ false
fire_open mark txn = by_closed (is_closed txn) refl
  where
    by_closed : (closed : Bool) → is_closed txn ≡ closed → is_closed (after_save [] mark (if closed then record txn { count = 1 } else txn)) ≡ false
    by_closed true is = refl
    by_closed false is = is

-- the session is ready as before
pub ready_fires : {past : PortPast} (mark : ℕ) (p q : SessionProgress) → Ready p past → p.is_open ≡ true → IsTrue (list_any (λ live. nat_eq live mark) past.standing.marks) → q ≡ made (fires_from mark) p → Ready q past
ready_fires {past = past} mark p q ready begun live same = subst (λ (x : SessionProgress). Ready x past) (sym same) (record {
  agree = ready.agree;
  live = fire_live mark past.standing.marks p.txn ready.live live;
  priority = ready.priority;
  counted = λ is. begun;
  idle = λ is. absurd (let no : true ≡ false = sym is ∙ fire_open mark p.txn in cc);
})

-- ---- their end

pub ready_fired : {past : PortPast} (mark : ℕ) (stood : Bool) (p q : SessionProgress) → Ready p past → q ≡ made (fired_from mark stood) p → Ready q past
ready_fired {past = past} mark stood p q ready same = subst (λ (x : SessionProgress). Ready x past) (sym same) (by_stands p.stands)
  where
    by_stands : (stands : Bool) → Ready (record p { txn = if stands then after_fired mark p.txn else p.txn; stands = (made (fired_from mark stood) p).stands }) past
    by_stands true = record {
      agree = ready.agree;
      live = All-filter (λ savepoint. not (nat_eq savepoint.mark mark)) (λ (s : Savepoint). IsTrue (list_any (λ live. nat_eq live s.mark) past.standing.marks)) p.txn.saves ready.live;
      priority = ready.priority;
      counted = ready.counted;
      idle = λ is. ap (without mark) (ready.idle is);
    }
    by_stands false = record { agree = ready.agree; live = ready.live; priority = ready.priority; counted = ready.counted; idle = ready.idle }

-- ---- what is asked then begins no statement

none_relaxed : (next : Doing (Unit {0})) → BeginsNone next → BeginsNone (relaxes_then next)
unfolding relaxes_then
none_relaxed next none = none_asks _ _ (none_done next none)

none_closed : (home : Home) (succeeded : Bool) → BeginsNone (closes_own home succeeded)
none_closed Own succeeded = none_closes succeeded
none_closed Open succeeded = none_over tt
none_closed Nowhere succeeded = none_over tt

none_undone : (mark : ℕ) (there : Bool) (next : Doing (Unit {0})) → BeginsNone next → BeginsNone (undone_to mark there next)
none_undone mark true next none = none_asks _ _ (none_done next none)
none_undone mark false next none = none

none_settles : (home : Home) (mark : ℕ) (succeeded : Bool) (p : SessionProgress) → BeginsNone (settles home mark succeeded p)
none_settles home mark true p = none_leaves home true
none_settles home mark false p = none_undone mark (has_mark mark p) _ (none_relaxed _ (none_closed home false))

pub settles_left : {before after : PortPast} (stands : Bool) (home : Home) (mark : ℕ) (succeeded : Bool) (at : SessionProgress) {p new : SessionProgress} {result : Result (Unit {0}) Memory}
    → Did before after (if stands then settles home mark succeeded at else over tt) p result new → new.statements_left ≡ p.statements_left
settles_left stands home mark succeeded at did = did_none _ (none_if stands _ _ (none_settles home mark succeeded at) (none_over tt)) did

pub undone_left : {before after : PortPast} (mark : ℕ) (home : Home) {p new : SessionProgress} {result : Result (Unit {0}) Memory}
    → Did before after (undone_to mark true (relaxes_then (closes_own home false))) p result new → new.statements_left ≡ p.statements_left
undone_left mark home did = did_none _ (none_undone mark true _ (none_relaxed _ (none_closed home false))) did

pub relaxes_left : {before after : PortPast} {p new : SessionProgress} {result : Result (Unit {0}) Memory} → Did before after relaxes p result new → new.statements_left ≡ p.statements_left
relaxes_left did = did_none _ none_relaxes did
