-- No cycle of standing waits comes up, and who is marked as a victim was in its cycle and waits no more.
use Rattle.std.proofs.Common.{◌≡◌, ◌≢◌, ◌⊎◌, inl, inr, ℕ, ◌+◌, Bool, true, false, List, [], ◌∷◌, Option, None, Some, is_some, IsTrue, refl, sym, ap, subst, ◌∙◌, eq-eqb}
use Rattle.std.specs.List.{AllByRecursion}
use Rattle.std.specs.Option.{option_map}
use Rattle.value_types.specs.declared.table_name.TableName.{TableName}
use Rattle.value_types.specs.declared.value.Value.{Value}
use Rattle.step_model.specs.declared.edge.Edge.{Edge}
use Rattle.step_model.specs.declared.manner.Manner.{Manner}
use Rattle.step_model.specs.declared.op.Op.{Op}
use Rattle.step_model.specs.declared.op.Op.TheVariants.{Begin, Fetch, Insert, Replace, Erase, Mark, BackTo, Relax, Commit, Rollback}
use Rattle.step_model.specs.declared.reply.Reply.{Reply}
use Rattle.step_model.specs.declared.reply.Reply.TheVariants.{Began, Row, Gone, End as Over, Done, Exists, Missing, Marked, Ended, Wait, TimedOut, Victim, Memory}
use Rattle.step_model.specs.Claims.{Claim, claim_of, with_claim, write_claim, locks_for, new_locks, inherits}
use Rattle.step_model.specs.Cycles.{IsCycle, is_waiter}
use Rattle.step_model.specs.Entries.{Entry, entry_at, row_at, seen_by, pending_of}
use Rattle.step_model.specs.Fits.{is_wait}
use Rattle.step_model.specs.Locks.{pair_on}
use Rattle.step_model.specs.Moves.{without_wait, drop_wait, with_wait, set_wait, after_fall, mark_victim, without_victim, drop_victim, with_session_in, without_session, add_locks, with_mark, cut_marks, drop_statement, after_begin}
use Rattle.step_model.specs.State.{Engine, StandingWait, Transaction, transaction_in, locks_in, locks_of, wait_in, wait_of, victim_in, victim_of, made_by}
use Rattle.step_model.specs.Step.{Step, StepFrom, Does, Inserts, Waits, FallsAt, Hears, told_first, insert_at, write_at}
use Rattle.step_model.specs.Deadlocks.{IsEdge, IsFree, Breaks, Fells, wait_for}
use Rattle.step_model.proofs.Cycles.{cycle_holders, all_two, at_waiter, none_waits}
use Rattle.history_laws.specs.Quiet.{Quiet, IsHalted}
use Rattle.history_laws.proofs.SaneMoves.{all_locks}
use Rattle.history_laws.proofs.Told.{is_rollback, untold}
use Rattle.history_laws.proofs.Sessions.{same_or_not, apart, changed_own, changed_other, closed_own, closed_other}

-- ---- cycles

-- no edges that stand are a cycle
abbrev pub Acyclic : Engine → Type 0
Acyclic engine = (edges : List Edge) → AllByRecursion (IsEdge engine) edges → IsCycle edges → ⊥

-- of all others the new waits were old ones, and the locks are the same
record OthersWait (session : ℕ) (old new : Engine) : Type 0 where
  waits : (other : ℕ) → other ≢ session → (wait : StandingWait) → wait_of other new ≡ Some wait → wait_of other old ≡ Some wait
  locks : (other : ℕ) → other ≢ session → locks_of other new ≡ locks_of other old

-- so an edge between others is an old one
edge_before : (session : ℕ) (old new : Engine) → OthersWait session old new → (edge : Edge) → edge.waiter ≢ session → edge.holder ≢ session → IsEdge new edge → IsEdge old edge
edge_before session old new others edge not_waiter not_holder is = record {
  wait = is.wait;
  waits = others.waits edge.waiter not_waiter is.wait is.waits;
  on = is.on;
  asked = is.asked;
  held = is.held ∙ ap (pair_on is.wait.on) (others.locks edge.holder not_holder);
  conflicts = is.conflicts;
}

-- and no cycle comes up without the session
none_without : (session : ℕ) (old new : Engine) → Acyclic old → OthersWait session old new
    → (edges : List Edge) → AllByRecursion (λ edge. edge.waiter ≢ session) edges → AllByRecursion (IsEdge new) edges → IsCycle edges → ⊥
none_without session old new acyclic others edges not_waiters are cycle =
    let not_holders = cycle_holders (λ n. n ≢ session) edges cycle not_waiters in
    let apart_both = all_two (λ edge. edge.waiter ≢ session) (λ edge. edge.holder ≢ session) (λ edge. (edge.waiter ≢ session) × (edge.holder ≢ session)) (λ edge one other. (one, other)) edges not_waiters not_holders in
    acyclic edges
    (all_two (λ edge. (edge.waiter ≢ session) × (edge.holder ≢ session)) (IsEdge new) (IsEdge old) (λ edge parts is. edge_before session old new others edge parts.0 parts.1 is) edges apart_both are)
    cycle

-- a session that does not wait moves
acyclic_move : (session : ℕ) (old new : Engine) → Acyclic old → wait_of session new ≡ None → OthersWait session old new → Acyclic new
acyclic_move session old new acyclic calm others edges are cycle =
    none_without session old new acyclic others edges
    (all_two (IsEdge new) (IsEdge new) (λ edge. edge.waiter ≢ session)
    (λ edge is twice same. let h : None ≡ Some is.wait = sym calm ∙ ap (λ (n : ℕ). wait_of n new) (sym same) ∙ is.waits in cc) edges are are)
    are cycle

-- a session begins to wait where no cycle goes through it
acyclic_wait : (session : ℕ) (old new : Engine) → Acyclic old → IsFree session new → OthersWait session old new → Acyclic new
acyclic_wait session old new acyclic free others edges are cycle = by_waiter (is_waiter session edges) refl
  where
    by_waiter : (b : Bool) → is_waiter session edges ≡ b → ⊥
    by_waiter true waits = free edges cycle are waits
    by_waiter false none = none_without session old new acyclic others edges (none_waits session edges none) are cycle

-- ---- one session's own changes

-- the others have what they had, and no wait or mark of the session comes up
pub record Beside (session : ℕ) (old new : List Transaction) : Type 0 where
  pub others : (other : ℕ) → other ≢ session → transaction_in other new ≡ transaction_in other old
  pub wait : wait_in (transaction_in session old) ≡ None → wait_in (transaction_in session new) ≡ None
  pub mark : victim_in (transaction_in session old) ≡ None → victim_in (transaction_in session new) ≡ None

beside_changed : (session : ℕ) (f : Transaction → Transaction) → ((t : Transaction) → (f t).session ≡ t.session) → ((t : Transaction) → (f t).wait ≡ t.wait) → ((t : Transaction) → (f t).victim ≡ t.victim) → (ts : List Transaction) → Beside session ts (with_session_in session f ts)
beside_changed session f keeps waits marks ts = record {
  others = λ other differ. changed_other session f keeps other differ ts;
  wait = λ none. ap wait_in (changed_own session f keeps ts) ∙ by_wait (transaction_in session ts) none;
  mark = λ none. ap victim_in (changed_own session f keeps ts) ∙ by_mark (transaction_in session ts) none;
}
  where
    by_wait : (o : Option Transaction) → wait_in o ≡ None → wait_in (option_map f o) ≡ None
    by_wait None none = refl
    by_wait (Some t) none = waits t ∙ none

    by_mark : (o : Option Transaction) → victim_in o ≡ None → victim_in (option_map f o) ≡ None
    by_mark None none = refl
    by_mark (Some t) none = marks t ∙ none

beside_closed : (session : ℕ) (ts : List Transaction) → Beside session ts (without_session session ts)
beside_closed session ts = record {
  others = λ other differ. closed_other session other differ ts;
  wait = λ none. ap wait_in (closed_own session ts);
  mark = λ none. ap victim_in (closed_own session ts);
}

beside_begin : (session : ℕ) (engine : Engine) → Beside session engine.active (after_begin session engine).active
beside_begin session engine = record {
  others = λ other differ. rw (apart session other (λ same. differ (sym same))) refl;
  wait = λ none. rw (eq-eqb session session refl) refl;
  mark = λ none. rw (eq-eqb session session refl) refl;
}

beside_claim : (session : ℕ) (claim : Option Claim) (mid : Engine) → Beside session mid.active (with_claim session claim mid).active
beside_claim session claim mid = beside_changed session (add_locks (locks_for claim)) (λ t. refl) (λ t. refl) (λ t. refl) mid.active

beside_insert : (session : ℕ) (t : TableName) (k row : List Value) (o : Option Entry) (mid new : Engine) (reply : Reply) → Inserts session t k row o mid reply new → Beside session mid.active new.active
beside_insert session t k row None mid new reply does = rw does.1 (beside_changed session (add_locks (new_locks t k (inherits session t k mid))) (λ t. refl) (λ t. refl) (λ t. refl) mid.active)
beside_insert session t k row (Some e) mid new reply does = rw does.1 (by_row (seen_by session e))
  where
    by_row : (r : Option (List Value)) → Beside session mid.active (insert_at session t k row r (with_claim session (claim_of mid (Insert t k row)) mid)).active
    by_row None = beside_claim session (claim_of mid (Insert t k row)) mid
    by_row (Some there) = beside_claim session (claim_of mid (Insert t k row)) mid

beside_write : (session : ℕ) (t : TableName) (k : List Value) (row : Option (List Value)) (mid : Engine) (seen : Option (List Value)) (claim : Option Claim) → Beside session mid.active (write_at session t k row seen (with_claim session claim mid)).active
beside_write session t k row mid None claim = beside_claim session claim mid
beside_write session t k row mid (Some there) claim = beside_claim session claim mid

pub beside_does : (session : ℕ) (mid new : Engine) (op : Op) (reply : Reply) → Does mid session op reply new → Beside session mid.active new.active
beside_does session mid new Begin reply does = rw does.1 (beside_begin session mid)
beside_does session mid new (Fetch t start stop hold part) reply does = rw does.1 (beside_claim session (claim_of mid (Fetch t start stop hold part)) mid)
beside_does session mid new (Insert t k row) reply does = beside_insert session t k row (entry_at mid.entries t k) mid new reply does
beside_does session mid new (Replace t k row) reply does = rw does.1 (beside_write session t k (Some row) mid (row_at session mid.entries t k) (write_claim (entry_at mid.entries t k)))
beside_does session mid new (Erase t k) reply does = rw does.1 (beside_write session t k None mid (row_at session mid.entries t k) (write_claim (entry_at mid.entries t k)))
beside_does session mid new Mark reply does = rw does.1 (beside_changed session (with_mark (made_by session mid + 1) (pending_of session mid.entries)) (λ t. refl) (λ t. refl) (λ t. refl) mid.active)
beside_does session mid new (BackTo m) reply does = rw does.1 (beside_changed session (cut_marks m) (λ t. refl) (λ t. refl) (λ t. refl) mid.active)
beside_does session mid new Relax reply does = rw does.1 (beside_changed session drop_statement (λ t. refl) (λ t. refl) (λ t. refl) mid.active)
beside_does session mid new Commit reply does = rw does.1 (beside_closed session mid.active)
beside_does session mid new Rollback reply does = rw does.1 (beside_closed session mid.active)

-- the state where it waits no more
module _ (session : ℕ) (old : Engine) where
  pub calm_wait : wait_of session (without_wait session old) ≡ None
  calm_wait = ap wait_in (changed_own session drop_wait (λ t. refl) old.active) ∙ by_case (transaction_in session old.active)
    where
      by_case : (o : Option Transaction) → wait_in (option_map drop_wait o) ≡ None
      by_case None = refl
      by_case (Some t) = refl

  pub calm_mark : victim_of session (without_wait session old) ≡ victim_of session old
  calm_mark = ap victim_in (changed_own session drop_wait (λ t. refl) old.active) ∙ by_case (transaction_in session old.active)
    where
      by_case : (o : Option Transaction) → victim_in (option_map drop_wait o) ≡ victim_in o
      by_case None = refl
      by_case (Some t) = refl

  pub calm_others : (other : ℕ) → other ≢ session → transaction_in other (without_wait session old).active ≡ transaction_in other old.active
  calm_others other differ = changed_other session drop_wait (λ t. refl) other differ old.active

others_of : (session : ℕ) (old new : Engine) → ((other : ℕ) → other ≢ session → transaction_in other new.active ≡ transaction_in other old.active) → OthersWait session old new
others_of session old new same = record {
  waits = λ other differ wait is. sym (ap wait_in (same other differ)) ∙ is;
  locks = λ other differ. ap locks_in (same other differ);
}

-- what is said of a victim's mark
abbrev pub MarkFits : Engine → ℕ → List Edge → Type 0
MarkFits engine session cycle = (wait_of session engine ≡ None) × IsCycle cycle × IsTrue (is_waiter session cycle)

-- a session that waits no more changes what it has, and is marked as it was or not at all
quiet_own : (session : ℕ) (old new : Engine) → Quiet old → wait_of session new ≡ None → ((other : ℕ) → other ≢ session → transaction_in other new.active ≡ transaction_in other old.active)
    → ((cycle : List Edge) → victim_of session new ≡ Some cycle → victim_of session old ≡ Some cycle) → Quiet new
quiet_own session old new quiet calm others mark = record {
  acyclic = acyclic_move session old new quiet.acyclic calm (others_of session old new others);
  marked = λ s cycle is. by_session s cycle is (same_or_not s session);
}
  where
    by_session : (s : ℕ) (cycle : List Edge) → victim_of s new ≡ Some cycle → (s ≡ session) ⊎ (s ≢ session) → MarkFits new s cycle
    by_session s cycle is (inl same) =
        let own : victim_of session new ≡ Some cycle = ap (λ (n : ℕ). victim_of n new) (sym same) ∙ is in
        let before = quiet.marked session cycle (mark cycle own) in
        (ap (λ (n : ℕ). wait_of n new) same ∙ calm, before.1, subst (λ (n : ℕ). IsTrue (is_waiter n cycle)) (sym same) before.2)
    by_session s cycle is (inr differ) =
        let before = quiet.marked s cycle (sym (ap victim_in (others s differ)) ∙ is) in
        (ap wait_in (others s differ) ∙ before.0, before.1, before.2)

-- ---- victims

-- what the fall of others leaves
pub record Broken (session : ℕ) (old new : Engine) : Type 0 where
  pub locks : (s : ℕ) → locks_of s new ≡ locks_of s old
  pub waits : (s : ℕ) (wait : StandingWait) → wait_of s new ≡ Some wait → wait_of s old ≡ Some wait
  pub marks : ((s : ℕ) (cycle : List Edge) → s ≢ session → victim_of s old ≡ Some cycle → MarkFits old s cycle) → (s : ℕ) (cycle : List Edge) → s ≢ session → victim_of s new ≡ Some cycle → MarkFits new s cycle
  pub own : transaction_in session new.active ≡ transaction_in session old.active
  pub halted : (s : ℕ) → s ≢ session → IsHalted s new → IsHalted s old

pub broken_one : (session who : ℕ) (cycle : List Edge) (old : Engine) → who ≢ session → Fells session old cycle who → Broken session old (after_fall who cycle old)
broken_one session who cycle old differs fells = record {
  locks = all_locks who (mark_victim cycle) (λ t. refl) (λ t. refl) old;
  waits = λ s wait is. by_wait s wait is (same_or_not s who);
  marks = λ before s c differ is. by_mark before s c differ is (same_or_not s who);
  own = changed_other who (mark_victim cycle) (λ t. refl) session (λ same. differs (sym same)) old.active;
  halted = λ s differ is. by_halt s is (same_or_not s who);
}
  where
    now : Engine
    now = after_fall who cycle old

    there : (s : ℕ) → s ≢ who → transaction_in s (after_fall who cycle old).active ≡ transaction_in s old.active
    there s differ = changed_other who (mark_victim cycle) (λ t. refl) s differ old.active

    fell : (o : Option Transaction) → wait_in (option_map (mark_victim cycle) o) ≡ None
    fell None = refl
    fell (Some t) = refl

    gone : wait_of who (after_fall who cycle old) ≡ None
    gone = ap wait_in (changed_own who (mark_victim cycle) (λ t. refl) old.active) ∙ fell (transaction_in who old.active)

    by_wait : (s : ℕ) (wait : StandingWait) → wait_of s (after_fall who cycle old) ≡ Some wait → (s ≡ who) ⊎ (s ≢ who) → wait_of s old ≡ Some wait
    by_wait s wait is (inl same) = absurd (let h : None ≡ Some wait = sym gone ∙ ap (λ (n : ℕ). wait_of n (after_fall who cycle old)) (sym same) ∙ is in cc)
    by_wait s wait is (inr differ) = sym (ap wait_in (there s differ)) ∙ is

    with_cycle : (o : Option Transaction) (c : List Edge) → victim_in (option_map (mark_victim cycle) o) ≡ Some c → c ≡ cycle
    with_cycle None c is = cc
    with_cycle (Some t) c is = cc

    by_mark : ((s : ℕ) (cycle : List Edge) → s ≢ session → victim_of s old ≡ Some cycle → MarkFits old s cycle) → (s : ℕ) (c : List Edge) → s ≢ session → victim_of s (after_fall who cycle old) ≡ Some c → (s ≡ who) ⊎ (s ≢ who) → MarkFits (after_fall who cycle old) s c
    by_mark before s c differ is (inl same) =
        let own : victim_of who (after_fall who cycle old) ≡ Some c = ap (λ (n : ℕ). victim_of n (after_fall who cycle old)) (sym same) ∙ is in
        let which : c ≡ cycle = with_cycle (transaction_in who old.active) c (sym (ap victim_in (changed_own who (mark_victim cycle) (λ t. refl) old.active)) ∙ own) in (
          ap (λ (n : ℕ). wait_of n (after_fall who cycle old)) same ∙ gone,
          subst IsCycle (sym which) fells.closes.closed,
          subst (λ (es : List Edge). IsTrue (is_waiter s es)) (sym which) (subst (λ (n : ℕ). IsTrue (is_waiter n cycle)) (sym same) fells.victim.waits),
        )
    by_mark before s c differ is (inr other) =
        let was = before s c differ (sym (ap victim_in (there s other)) ∙ is) in
        (ap wait_in (there s other) ∙ was.0, was.1, was.2)

    by_halt : (s : ℕ) → IsHalted s (after_fall who cycle old) → (s ≡ who) ⊎ (s ≢ who) → IsHalted s old
    by_halt s is (inl same) =
        let found = at_waiter (IsEdge old) who cycle fells.victim.waits fells.closes.among in
        inl (ap is_some (ap (λ (n : ℕ). wait_of n old) (same ∙ sym found.1) ∙ found.2.waits))
    by_halt s (inl waits) (inr differ) = inl (sym (ap (λ (o : Option Transaction). is_some (wait_in o)) (there s differ)) ∙ waits)
    by_halt s (inr mark) (inr differ) = inr (sym (ap (λ (o : Option Transaction). is_some (victim_in o)) (there s differ)) ∙ mark)

pub broken_all : (session : ℕ) (old new : Engine) (broken : List (List Edge)) → Breaks session old broken new → Broken session old new
broken_all session old new [] is = rw is (record { locks = λ s. refl; waits = λ s wait is. is; marks = λ before. before; own = refl; halted = λ s differ is. is })
broken_all session old new (cycle ∷ more) breaks =
    let one = broken_one session breaks.0 cycle old breaks.2 breaks.1 in
    let rest = broken_all session (after_fall breaks.0 cycle old) new more breaks.3 in
    record {
      locks = λ s. rest.locks s ∙ one.locks s;
      waits = λ s wait is. one.waits s wait (rest.waits s wait is);
      marks = λ before. rest.marks (one.marks before);
      own = rest.own ∙ one.own;
      halted = λ s differ is. one.halted s differ (rest.halted s differ is);
    }

-- ---- a session that would wait

module _ (session : ℕ) (mid last : Engine) (wait : StandingWait) (broken : List (List Edge)) (quiet : Quiet mid) (breaks : Breaks session (with_wait session wait mid) broken last) where
  facts : Broken session (with_wait session wait mid) last
  facts = broken_all session (with_wait session wait mid) last broken breaks

  there : (other : ℕ) → other ≢ session → transaction_in other (with_wait session wait mid).active ≡ transaction_in other mid.active
  there other differ = changed_other session (set_wait wait) (λ t. refl) other differ mid.active

  broken_others : OthersWait session mid last
  broken_others = record {
    waits = λ other differ w is. sym (ap wait_in (there other differ)) ∙ facts.waits other w is;
    locks = λ other differ. facts.locks other ∙ all_locks session (set_wait wait) (λ t. refl) (λ t. refl) mid other;
  }

  broken_marks : (s : ℕ) (cycle : List Edge) → s ≢ session → victim_of s last ≡ Some cycle → MarkFits last s cycle
  broken_marks = facts.marks (λ s cycle differ is.
      let before = quiet.marked s cycle (sym (ap victim_in (there s differ)) ∙ is) in
      (ap wait_in (there s differ) ∙ before.0, before.1, before.2))

  broken_halted : (s : ℕ) → s ≢ session → IsHalted s last → IsHalted s mid
  broken_halted s differ is = by_halt (facts.halted s differ is)
    where
      by_halt : IsHalted s (with_wait session wait mid) → IsHalted s mid
      by_halt (inl waits) = inl (sym (ap (λ (o : Option Transaction). is_some (wait_in o)) (there s differ)) ∙ waits)
      by_halt (inr mark) = inr (sym (ap (λ (o : Option Transaction). is_some (victim_in o)) (there s differ)) ∙ mark)

  own_mark : victim_of session last ≡ victim_of session mid
  own_mark = ap victim_in (facts.own ∙ changed_own session (set_wait wait) (λ t. refl) mid.active) ∙ by_case (transaction_in session mid.active)
    where
      by_case : (o : Option Transaction) → victim_in (option_map (set_wait wait) o) ≡ victim_in o
      by_case None = refl
      by_case (Some t) = refl

  quiet_wait : victim_of session mid ≡ None → IsFree session last → Quiet last
  quiet_wait not_marked free = record {
    acyclic = acyclic_wait session mid last quiet.acyclic free broken_others;
    marked = λ s cycle is. by_session s cycle is (same_or_not s session);
  }
    where
      by_session : (s : ℕ) (cycle : List Edge) → victim_of s last ≡ Some cycle → (s ≡ session) ⊎ (s ≢ session) → MarkFits last s cycle
      by_session s cycle is (inl same) = absurd (let h : None ≡ Some cycle = sym (own_mark ∙ not_marked) ∙ ap (λ (n : ℕ). victim_of n last) (sym same) ∙ is in cc)
      by_session s cycle is (inr differ) = broken_marks s cycle differ is

  quiet_fall : victim_of session mid ≡ None → Quiet (without_wait session last)
  quiet_fall not_marked = record {
    acyclic = acyclic_move session mid (without_wait session last) quiet.acyclic (calm_wait session last) (record {
      waits = λ other differ w is. broken_others.waits other differ w (sym (ap wait_in (calm_others session last other differ)) ∙ is);
      locks = λ other differ. ap locks_in (calm_others session last other differ) ∙ broken_others.locks other differ;
    });
    marked = λ s cycle is. by_session s cycle is (same_or_not s session);
  }
    where
      by_session : (s : ℕ) (cycle : List Edge) → victim_of s (without_wait session last) ≡ Some cycle → (s ≡ session) ⊎ (s ≢ session) → MarkFits (without_wait session last) s cycle
      by_session s cycle is (inl same) = absurd (let h : None ≡ Some cycle = sym (calm_mark session last ∙ own_mark ∙ not_marked) ∙ ap (λ (n : ℕ). victim_of n (without_wait session last)) (sym same) ∙ is in cc)
      by_session s cycle is (inr differ) =
          let before = broken_marks s cycle differ (sym (ap victim_in (calm_others session last s differ)) ∙ is) in
          (ap wait_in (calm_others session last s differ) ∙ before.0, before.1, before.2)

-- ---- a whole step

-- the session is not marked, or rolls back
abbrev pub IsHeard : ℕ → Op → Engine → Type 0
IsHeard session op engine = (is_rollback op ≡ true) ⊎ (victim_of session engine ≡ None)

-- what holds of a state after a step: it is quiet, the session waits or is marked only where it was told to wait,
-- and of the others only who was halted is
pub record StepQuiet (session : ℕ) (old new : Engine) (reply : Reply) : Type 0 where
  pub quiet : Quiet new
  pub own : is_wait reply ≡ false → IsHalted session new → ⊥
  pub others : (other : ℕ) → other ≢ session → IsHalted other new → IsHalted other old

-- a session with neither wait nor mark is not halted
not_halted : (session : ℕ) (engine : Engine) → wait_of session engine ≡ None → victim_of session engine ≡ None → IsHalted session engine → ⊥
not_halted session engine none unmarked (inl waits) = let h : false ≡ true = sym (ap is_some none) ∙ waits in cc
not_halted session engine none unmarked (inr mark) = let h : false ≡ true = sym (ap is_some unmarked) ∙ mark in cc

halted_same : (other : ℕ) (old new : Engine) → transaction_in other new.active ≡ transaction_in other old.active → IsHalted other new → IsHalted other old
halted_same other old new same (inl waits) = inl (sym (ap (λ (o : Option Transaction). is_some (wait_in o)) same) ∙ waits)
halted_same other old new same (inr mark) = inr (sym (ap (λ (o : Option Transaction). is_some (victim_in o)) same) ∙ mark)

module _ (session : ℕ) (old : Engine) (quiet : Quiet old) where
  mid : Engine
  mid = without_wait session old

  quiet_mid : Quiet (without_wait session old)
  quiet_mid = quiet_own session old (without_wait session old) quiet (calm_wait session old) (calm_others session old) (λ cycle is. sym (calm_mark session old) ∙ is)

  -- an operation that passes
  does_quiet : (new : Engine) (op : Op) (reply : Reply) → IsHeard session op (without_wait session old) → Does (without_wait session old) session op reply new → StepQuiet session old new reply
  does_quiet new op reply heard does = record {
    quiet = quiet_own session (without_wait session old) new quiet_mid (beside.wait (calm_wait session old)) beside.others
        (λ cycle is. absurd (let h : None ≡ Some cycle = sym unmarked ∙ is in cc));
    own = λ going is. not_halted session new (beside.wait (calm_wait session old)) unmarked is;
    others = λ other differ is. halted_same other old new (beside.others other differ ∙ calm_others session old other differ) is;
  }
    where
      beside : Beside session (without_wait session old).active new.active
      beside = beside_does session (without_wait session old) new op reply does

      by_heard : (op : Op) → IsHeard session op (without_wait session old) → Does (without_wait session old) session op reply new → victim_of session new ≡ None
      by_heard Rollback heard does = ap (λ (e : Engine). victim_of session e) does.1 ∙ ap victim_in (closed_own session (without_wait session old).active)
      by_heard op (inr none) does = (beside_does session (without_wait session old) new op reply does).mark none
      by_heard op (inl rollback) does = let h : false ≡ true = rollback in cc

      unmarked : victim_of session new ≡ None
      unmarked = by_heard op heard does

  -- nothing changes
  same_quiet : (new : Engine) (op : Op) (reply : Reply) → is_rollback op ≡ false → IsHeard session op (without_wait session old) → new ≡ without_wait session old → StepQuiet session old new reply
  same_quiet new op reply not_rollback heard is = rw is (record {
    quiet = quiet_mid;
    own = λ going halted. not_halted session (without_wait session old) (calm_wait session old) (by_heard heard) halted;
    others = λ other differ halted. halted_same other old (without_wait session old) (calm_others session old other differ) halted;
  })
    where
      by_heard : IsHeard session op (without_wait session old) → victim_of session (without_wait session old) ≡ None
      by_heard (inl rollback) = absurd (let h : true ≡ false = sym rollback ∙ not_rollback in cc)
      by_heard (inr none) = none

  -- its mark is told
  told_quiet : (new : Engine) (reply : Reply) → new ≡ without_victim session (without_wait session old) → StepQuiet session old new reply
  told_quiet new reply told = rw told (record {
    quiet = quiet_own session (without_wait session old) (without_victim session (without_wait session old)) quiet_mid no_wait others
        (λ cycle is. absurd (let h : None ≡ Some cycle = sym no_mark ∙ is in cc));
    own = λ going halted. not_halted session (without_victim session (without_wait session old)) no_wait no_mark halted;
    others = λ other differ halted. halted_same other old (without_victim session (without_wait session old)) (others other differ ∙ calm_others session old other differ) halted;
  })
    where
      others : (other : ℕ) → other ≢ session → transaction_in other (without_victim session (without_wait session old)).active ≡ transaction_in other (without_wait session old).active
      others other differ = changed_other session drop_victim (λ t. refl) other differ (without_wait session old).active

      by_wait : (o : Option Transaction) → wait_in (option_map drop_victim o) ≡ wait_in o
      by_wait None = refl
      by_wait (Some t) = refl

      by_mark : (o : Option Transaction) → victim_in (option_map drop_victim o) ≡ None
      by_mark None = refl
      by_mark (Some t) = refl

      no_wait : wait_of session (without_victim session (without_wait session old)) ≡ None
      no_wait = ap wait_in (changed_own session drop_victim (λ t. refl) (without_wait session old).active) ∙ by_wait (transaction_in session (without_wait session old).active) ∙ calm_wait session old

      no_mark : victim_of session (without_victim session (without_wait session old)) ≡ None
      no_mark = ap victim_in (changed_own session drop_victim (λ t. refl) (without_wait session old).active) ∙ by_mark (transaction_in session (without_wait session old).active)

  -- it begins to wait
  waits_quiet : (new : Engine) (op : Op) (claim : Option Claim) (manner : Manner) (holder : ℕ) → claim_of (without_wait session old) op ≡ claim → Waits session claim (without_wait session old) manner holder new → IsHeard session op (without_wait session old)
      → StepQuiet session old new (Wait holder)
  waits_quiet new op None manner holder is waits heard = absurd waits
  waits_quiet new Rollback (Some claim) manner holder is waits heard = absurd (let h : None ≡ Some claim = is in cc)
  waits_quiet new op (Some claim) manner holder is waits (inl rollback) = absurd (let h : false ≡ true = rollback in cc)
  waits_quiet new op (Some claim) manner holder is waits (inr none) = record {
    quiet = quiet_wait session (without_wait session old) new (wait_for claim manner.priority) waits.2.broken quiet_mid waits.2.breaks none waits.2.free;
    own = λ going halted. let h : true ≡ false = going in cc;
    others = λ other differ halted. halted_same other old (without_wait session old) (calm_others session old other differ)
        (broken_halted session (without_wait session old) new (wait_for claim manner.priority) waits.2.broken quiet_mid waits.2.breaks other differ halted);
  }

  -- or falls
  falls_quiet : (new : Engine) (op : Op) (claim : Option Claim) (manner : Manner) (cycle : List Edge) → claim_of (without_wait session old) op ≡ claim → FallsAt session claim (without_wait session old) manner cycle new
      → IsHeard session op (without_wait session old) → StepQuiet session old new (Victim cycle)
  falls_quiet new op None manner cycle is falls heard = absurd falls
  falls_quiet new Rollback (Some claim) manner cycle is falls heard = absurd (let h : None ≡ Some claim = is in cc)
  falls_quiet new op (Some claim) manner cycle is falls (inl rollback) = absurd (let h : false ≡ true = rollback in cc)
  falls_quiet new op (Some claim) manner cycle is falls (inr none) = rw falls.1.left (record {
    quiet = quiet_fall session (without_wait session old) falls.1.last (wait_for claim manner.priority) falls.1.broken quiet_mid falls.1.breaks none;
    own = λ going halted. not_halted session (without_wait session falls.1.last) (calm_wait session falls.1.last)
        (calm_mark session falls.1.last ∙ own_mark session (without_wait session old) falls.1.last (wait_for claim manner.priority) falls.1.broken quiet_mid falls.1.breaks ∙ none) halted;
    others = λ other differ halted. halted_same other old (without_wait session old) (calm_others session old other differ)
        (broken_halted session (without_wait session old) falls.1.last (wait_for claim manner.priority) falls.1.broken quiet_mid falls.1.breaks other differ
        (halted_same other falls.1.last (without_wait session falls.1.last) (calm_others session falls.1.last other differ) halted));
  })

  -- what lacks memory or times out is no rollback
  from_quiet : (new : Engine) (op : Op) (manner : Manner) (reply : Reply) → IsHeard session op (without_wait session old) → StepFrom (without_wait session old) session op manner reply new → StepQuiet session old new reply
  from_quiet new Rollback manner Memory heard step = absurd step.0
  from_quiet new op manner Memory heard step = same_quiet new op Memory refl heard step.1
  from_quiet new Rollback manner (TimedOut holder held asked on) heard step = absurd step.0
  from_quiet new op manner (TimedOut holder held asked on) heard step = same_quiet new op (TimedOut holder held asked on) refl heard step.1
  from_quiet new op manner (Wait holder) heard step = waits_quiet new op (claim_of (without_wait session old) op) manner holder refl step heard
  from_quiet new op manner (Victim cycle) heard step = falls_quiet new op (claim_of (without_wait session old) op) manner cycle refl step heard
  from_quiet new op manner Began heard step = does_quiet new op Began heard step.1
  from_quiet new op manner (Row key row at) heard step = does_quiet new op (Row key row at) heard step.1
  from_quiet new op manner (Gone key at) heard step = does_quiet new op (Gone key at) heard step.1
  from_quiet new op manner (Over at) heard step = does_quiet new op (Over at) heard step.1
  from_quiet new op manner Done heard step = does_quiet new op Done heard step.1
  from_quiet new op manner Exists heard step = does_quiet new op Exists heard step.1
  from_quiet new op manner Missing heard step = does_quiet new op Missing heard step.1
  from_quiet new op manner (Marked mark) heard step = does_quiet new op (Marked mark) heard step.1
  from_quiet new op manner (Ended place) heard step = does_quiet new op (Ended place) heard step.1

  hears_quiet : (new : Engine) (op : Op) (manner : Manner) (reply : Reply) (told : Option (List Edge)) → told_first op (victim_of session old) ≡ told
      → Hears told (without_wait session old) session op manner reply new → StepQuiet session old new reply
  hears_quiet new op manner reply None is step = from_quiet new op manner reply (calm_heard (untold op (victim_of session old) is)) step
    where
      calm_heard : (is_rollback op ≡ true) ⊎ (victim_of session old ≡ None) → IsHeard session op (without_wait session old)
      calm_heard (inl rollback) = inl rollback
      calm_heard (inr none) = inr (calm_mark session old ∙ none)
  hears_quiet new op manner reply (Some cycle) is step = told_quiet new reply step.1

  pub step_quiet : (new : Engine) (op : Op) (manner : Manner) (reply : Reply) → Step old session op manner reply new → StepQuiet session old new reply
  step_quiet new op manner reply step = hears_quiet new op manner reply (told_first op (victim_of session old)) refl step
