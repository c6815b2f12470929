-- An engine in which one session alone has stepped: nothing is another's, and nobody stands in its way.
use Rattle.std.proofs.Common.{◌≡◌, ◌≢◌, ℕ, ◌+◌, ◌==◌, not, Bool, true, false, if◌then◌else◌, List, [], ◌∷◌, Option, None, Some, refl, sym, ap, ◌∙◌}
use Rattle.std.specs.List.{AllByRecursion}
use Rattle.lock_modes.specs.declared.Pair.{Pair}
use Rattle.lock_modes.specs.Agreement.{pairs_agree}
use Rattle.step_model.specs.declared.change.Change.{Change}
use Rattle.step_model.specs.declared.manner.Manner.{Manner}
use Rattle.step_model.specs.declared.manner.Patience.{Patience}
use Rattle.step_model.specs.declared.op.Op.{Op}
use Rattle.step_model.specs.declared.reply.Reply.{Reply}
use Rattle.step_model.specs.declared.reply.Reply.TheVariants.{Wait, TimedOut, Victim}
use Rattle.step_model.specs.declared.resource.Resource.{Resource}
use Rattle.step_model.specs.Claims.{Claim, IsFoe, claim_of, new_locks, inherits}
use Rattle.step_model.specs.Entries.{changes_by, pending_of}
use Rattle.step_model.specs.Exchange.{MayAsk}
use Rattle.step_model.specs.Locks.{pair_on}
use Rattle.step_model.specs.Log.{Commit}
use Rattle.step_model.specs.Moves.{with_session_in, with_wait, set_wait, without_wait, drop_wait, add_locks, with_mark, cut_marks, drop_statement, log_with}
use Rattle.step_model.specs.Runs.{standing_of, opening}
use Rattle.step_model.specs.State.{Engine, Transaction, transaction_in, locks_in, made_by, victim_of}
use Rattle.step_model.specs.Step.{Step, StepFrom, Hears, told_first, Waits, FallsAt, TimesOut}
use Rattle.step_model.specs.Deadlocks.{IsEdge, Breaks, wait_for}
use Rattle.step_model.specs.Cycles.{IsCycleAt}
use Rattle.step_model.specs.declared.edge.Edge.{Edge}
use Rattle.history_laws.proofs.Told.{told_is}
use Rattle.history_laws.proofs.EntryLists.{all_filter}
use Rattle.history_laws.proofs.OneMove.{Move, shifts, begins, grants, sets, adds, marks, goes_back, relaxes, commits, rolls_back}
use Rattle.history_laws.proofs.Sessions.{apart}
use Rattle.history_laws.proofs.Splits.{all_both}
use Rattle.history_laws.proofs.StepMoves.{Moves, done, next, step_moves}
use Rattle.engine_core.specs.Solo.{is_refusal}

-- the open transactions and the commits are this session's
pub record IsAlone (session : ℕ) (engine : Engine) : Type 0 where
  pub active : AllByRecursion (λ transaction. transaction.session ≡ session) engine.active
  pub log : AllByRecursion (λ commit. commit.session ≡ session) engine.log

pub alone_opening : (session : ℕ) → IsAlone session opening
alone_opening session = record { active = tt; log = tt }

-- ---- after each step

module _ (session : ℕ) where
  all_changed : (who : ℕ) (f : Transaction → Transaction) → ((transaction : Transaction) → (f transaction).session ≡ transaction.session) → (ts : List Transaction)
      → AllByRecursion (λ transaction. transaction.session ≡ session) ts → AllByRecursion (λ transaction. transaction.session ≡ session) (with_session_in who f ts)
  all_changed who f keeps [] all = tt
  all_changed who f keeps (t ∷ ts) all = by_test (t.session == who) (all_changed who f keeps ts all.1)
    where
      by_test : (b : Bool) → AllByRecursion (λ transaction. transaction.session ≡ session) (with_session_in who f ts)
          → AllByRecursion (λ transaction. transaction.session ≡ session) ((if b then f t else t) ∷ with_session_in who f ts)
      by_test true rest = (keeps t ∙ all.0, rest)
      by_test false rest = (all.0, rest)

  own_log : (log : List Commit) (changes : List Change) → AllByRecursion (λ commit. commit.session ≡ session) log
      → AllByRecursion (λ commit. commit.session ≡ session) (log_with log session changes)
  own_log log [] own = own
  own_log log (change ∷ changes) own = all_both (λ commit. commit.session ≡ session) log (record { session = session; changes = change ∷ changes } ∷ []) own (refl, tt)

  alone_move : (old new : Engine) → Move session old new → IsAlone session old → IsAlone session new
  alone_move old new (shifts who f shift is) alone = rw is record { active = all_changed who f shift.session old.active alone.active; log = alone.log }
  alone_move old new (begins none is) alone = rw is record { active = (refl, alone.active); log = alone.log }
  alone_move old new (grants lock there free may is) alone = rw is record { active = all_changed session (add_locks (lock ∷ [])) (λ t. refl) old.active alone.active; log = alone.log }
  alone_move old new (sets t k row e found x is) alone = rw is record { active = alone.active; log = alone.log }
  alone_move old new (adds t k row there absent free is) alone =
      rw is record { active = all_changed session (add_locks (new_locks t k (inherits session t k old))) (λ t. refl) old.active alone.active; log = alone.log }
  alone_move old new (marks is) alone =
      rw is record { active = all_changed session (with_mark (made_by session old + 1) (pending_of session old.entries)) (λ t. refl) old.active alone.active; log = alone.log }
  alone_move old new (goes_back mark is) alone = rw is record { active = all_changed session (cut_marks mark) (λ t. refl) old.active alone.active; log = alone.log }
  alone_move old new (relaxes is) alone = rw is record { active = all_changed session drop_statement (λ t. refl) old.active alone.active; log = alone.log }
  alone_move old new (commits is) alone = rw is record {
    active = all_filter (λ transaction. transaction.session ≡ session) (λ transaction. not (transaction.session == session)) old.active alone.active;
    log = own_log old.log (changes_by session old.entries) alone.log;
  }
  alone_move old new (rolls_back is) alone = rw is record {
    active = all_filter (λ transaction. transaction.session ≡ session) (λ transaction. not (transaction.session == session)) old.active alone.active;
    log = alone.log;
  }

  alone_moves : (old new : Engine) → Moves session old new → IsAlone session old → IsAlone session new
  alone_moves old new (done is) alone = rw is alone
  alone_moves old new (next mid move rest) alone = alone_moves mid new rest (alone_move old mid move alone)

  pub alone_step : (old new : Engine) (op : Op) (manner : Manner) (reply : Reply) → MayAsk (standing_of session old) op manner → Step old session op manner reply new
      → IsAlone session old → IsAlone session new
  alone_step old new op manner reply may step alone = alone_moves old new (step_moves session old new op manner reply may step) alone

-- ---- nobody stands in its way

none_open : (session other : ℕ) → other ≢ session → (ts : List Transaction) → AllByRecursion (λ transaction. transaction.session ≡ session) ts → transaction_in other ts ≡ None
none_open session other differ [] all = refl
none_open session other differ (t ∷ ts) all =
    let elsewhere : (t.session == other) ≡ false = apart t.session other (λ same. differ (sym same ∙ all.0)) in
    rw elsewhere (none_open session other differ ts all.1)

no_foe : (session : ℕ) (mid : Engine) → IsAlone session mid → (on : Resource) (asked : Pair) (holder : ℕ) (held : Pair) → IsFoe session on asked mid holder held → ⊥
no_foe session mid alone on asked holder held foe =
    let nothing = ap (λ o. pair_on on (locks_in o)) (none_open session holder foe.0 mid.active alone.active) in
    let agree : true ≡ false = sym (ap (λ pair. pairs_agree pair asked) (foe.1 ∙ nothing)) ∙ foe.2 in
    cc

no_wait : (session : ℕ) (mid : Engine) → IsAlone session mid → (claim : Option Claim) (manner : Manner) (holder : ℕ) (new : Engine) → Waits session claim mid manner holder new → ⊥
no_wait session mid alone None manner holder new waits = waits
no_wait session mid alone (Some claim) manner holder new waits = no_foe session mid alone claim.on claim.pair holder waits.1.0 waits.1.1

-- who waits is the session, and who holds what it asks is nobody
no_edge : (session : ℕ) (mid : Engine) → IsAlone session mid → (edge : Edge) → edge.waiter ≡ session → IsEdge mid edge → ⊥
no_edge session mid alone edge same is =
    let nothing = ap (λ o. pair_on is.wait.on (locks_in o)) (none_open session edge.holder (λ here. is.conflicts.0 (same ∙ sym here)) mid.active alone.active) in
    let agree : true ≡ false = sym (ap (λ pair. pairs_agree pair edge.asked) (is.held ∙ nothing)) ∙ is.conflicts.1 in
    cc

no_cycle : (session : ℕ) (mid : Engine) → IsAlone session mid → (cycle : List Edge) → IsCycleAt (IsEdge mid) session cycle → ⊥
no_cycle session mid alone [] closes = closes.begins
no_cycle session mid alone (edge ∷ edges) closes = no_edge session mid alone edge closes.begins closes.among.0

no_breaks : (session : ℕ) (old : Engine) → IsAlone session old → (broken : List (List Edge)) (new : Engine) → Breaks session old broken new → IsAlone session new
no_breaks session old alone [] new breaks = rw breaks alone
no_breaks session old alone (cycle ∷ more) new breaks = absurd (no_cycle session old alone cycle breaks.1.closes)

no_fall : (session : ℕ) (mid : Engine) → IsAlone session mid → (claim : Option Claim) (manner : Manner) (cycle : List Edge) (new : Engine) → FallsAt session claim mid manner cycle new → ⊥
no_fall session mid alone None manner cycle new falls = falls
no_fall session mid alone (Some claim) manner cycle new falls =
    let queued : IsAlone session (with_wait session (wait_for claim manner.priority) mid) = record { active = all_changed session session (set_wait (wait_for claim manner.priority)) (λ t. refl) mid.active alone.active; log = alone.log } in
    no_cycle session falls.1.last (no_breaks session (with_wait session (wait_for claim manner.priority) mid) queued falls.1.broken falls.1.last falls.1.breaks) cycle falls.1.falls.closes

no_time_out : (session : ℕ) (mid : Engine) → IsAlone session mid → (claim : Option Claim) (patience : Patience) (holder : ℕ) (held asked : Pair) (on : Resource)
    → TimesOut session claim mid patience holder held asked on → ⊥
no_time_out session mid alone None patience holder held asked on out = out
no_time_out session mid alone (Some claim) patience holder held asked on out = no_foe session mid alone claim.on claim.pair holder held out.3

-- what it asks passes, if it is not marked as a victim
pub passes_alone : (old new : Engine) (session : ℕ) (op : Op) (manner : Manner) (reply : Reply) → IsAlone session old → victim_of session old ≡ None → Step old session op manner reply new → is_refusal reply ≡ false
passes_alone old new session op manner reply alone unmarked step = by_told (told_first op (victim_of session old)) refl step
  where
    mid : Engine
    mid = without_wait session old

    calm : IsAlone session mid
    calm = record { active = all_changed session session drop_wait (λ t. refl) old.active alone.active; log = alone.log }

    passes : (reply : Reply) → StepFrom mid session op manner reply new → is_refusal reply ≡ false
    passes (Wait holder) step = absurd (no_wait session mid calm (claim_of mid op) manner holder new step)
    passes (TimedOut holder held asked on) step = absurd (no_time_out session mid calm (claim_of mid op) manner.patience holder held asked on step.0)
    passes (Victim cycle) step = absurd (no_fall session mid calm (claim_of mid op) manner cycle new step)
    passes reply step = refl

    by_told : (told : Option (List Edge)) → told_first op (victim_of session old) ≡ told → Hears told mid session op manner reply new → is_refusal reply ≡ false
    by_told None is step = passes reply step
    by_told (Some cycle) is step = absurd (let h : None ≡ Some cycle = sym unmarked ∙ told_is op (victim_of session old) cycle is in cc)
