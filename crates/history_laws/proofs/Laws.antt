-- The laws of the machine, and the theorem on every run.
use Rattle.std.proofs.Common.{◌≡◌, ◌≢◌, ◌⊎◌, inl, inr, ℕ, Bool, true, false, Option, None, Some, List, [], ◌∷◌, ◌++◌, refl, sym, ap, subst, ◌∙◌, eq-eqb, append-nil, append_assoc, arith}
use Rattle.std.specs.List.{AllByRecursion}
use Rattle.std.specs.List.Sorted.{IsStrictlySortedBy}
use Rattle.step_model.specs.declared.manner.Manner.{Manner}
use Rattle.step_model.specs.declared.op.Op.{Op}
use Rattle.step_model.specs.declared.reply.Reply.{Reply}
use Rattle.step_model.specs.Exchange.{Exchange}
use Rattle.step_model.specs.Fits.{Fits, without_waits}
use Rattle.step_model.specs.Runs.{MayStep, Asked, Run, opening, mine_of}
use Rattle.step_model.specs.State.{Engine}
use Rattle.step_model.specs.Step.{Step, StepFrom, Hears, told_first}
use Rattle.history_laws.specs.Knows.{Accords, Knows}
use Rattle.history_laws.specs.Sane.{Sane}
use Rattle.history_laws.proofs.Sessions.{same_or_not, apart}
use Rattle.history_laws.proofs.StepMoves.{other_accords}
use Rattle.history_laws.proofs.OwnOps.{own_accords}
use Rattle.history_laws.proofs.Waiting.{step_quiet}
use Rattle.history_laws.proofs.Replies.{waits_asks}
use Rattle.history_laws.specs.Quiet.{Quiet, IsHalted, EndsInWait}
use Rattle.step_model.specs.declared.edge.Edge.{Edge}
use Rattle.step_model.specs.declared.reply.Reply.TheVariants.{Wait}
use Rattle.step_model.specs.Claims.{claim_of}
use Rattle.step_model.specs.Cycles.{IsCycle}
use Rattle.step_model.specs.Exchange.{AsksLock}
use Rattle.step_model.specs.Fits.{is_wait}
use Rattle.step_model.specs.Moves.{without_wait}
use Rattle.step_model.specs.State.{victim_of}
use Rattle.step_model.specs.Deadlocks.{IsEdge}

-- ---- the beginning

pub sane_opening : Sane opening
unfolding IsStrictlySortedBy
sane_opening = record {
  ordered = tt;
  committed = λ t x. refl;
  agree = λ a b differ on. refl;
  shapes = λ s. tt;
  stands = λ s. tt;
  pending = tt;
  rowless = tt;
  saved = λ s. tt;
}

nothing_split : (before later : List Exchange) (exchange : Exchange) → [] ≡ before ++ exchange ∷ later → ⊥
nothing_split [] later exchange is = cc
nothing_split (b ∷ before) later exchange is = cc

opening_accords : (session : ℕ) → Accords opening session []
opening_accords session = record {
  sane = sane_opening;
  fits = record {
    prefix = ([], refl);
    numbers = omega arith;
    fetches = λ before exchange later split. absurd (nothing_split before later exchange split);
    ranges = λ before exchange later split. absurd (nothing_split before later exchange split);
    inserts = λ before exchange later split. absurd (nothing_split before later exchange split);
    targets = λ before between later fetch write split none t x writes keeps p low high. absurd
        (nothing_split (before ++ fetch ∷ between) later write split);
    commits = (λ before exchange later split. absurd (nothing_split before later exchange split), refl);
    refusals = λ before exchange later split. absurd (nothing_split before later exchange split);
  };
  tied = record {
    is_open = refl;
    own = λ t x. refl;
    first = λ t x planned is. cc;
    marks = tt;
    relied = λ span t x relies. absurd (nothing_split relies.before relies.later relies.exchange relies.split);
    steady = λ before exchange later split none fetches span t x keys. absurd
        (nothing_split before later exchange split);
  };
}

no_edges : (edges : List Edge) → AllByRecursion (IsEdge opening) edges → IsCycle edges → ⊥
no_edges [] are cycle = cycle
no_edges (edge ∷ edges) are cycle = let h : None ≡ Some are.0.wait = are.0.waits in cc

pub quiet_opening : Quiet opening
quiet_opening = record { acyclic = no_edges; marked = λ session cycle is. cc }

pub knows_opening : (session : ℕ) → Knows opening session []
knows_opening session = record { accords = opening_accords session; quiet = quiet_opening; halted = none_halted }
  where
    none_halted : IsHalted session opening → EndsInWait []
    none_halted (inl waits) = cc
    none_halted (inr mark) = cc

-- ---- one step

-- who is told to wait has asked for a lock
wait_asks : (old new : Engine) (session : ℕ) (op : Op) (manner : Manner) (reply : Reply) → is_wait reply ≡ true → Step old session op manner reply new → AsksLock op
wait_asks old new session op manner reply is step = by_told (told_first op (victim_of session old)) step
  where
    from_asks : (reply : Reply) → is_wait reply ≡ true → StepFrom (without_wait session old) session op manner reply new → AsksLock op
    from_asks (Wait holder) is step = waits_asks (without_wait session old) new session op manner holder (claim_of (without_wait session old) op) refl step
    from_asks reply is step = absurd (let h : false ≡ true = is in cc)

    by_told : (told : Option (List Edge)) → Hears told (without_wait session old) session op manner reply new → AsksLock op
    by_told None step = from_asks reply is step
    by_told (Some cycle) step = absurd (let h : true ≡ false = sym is ∙ ap is_wait step.0 in cc)

-- a step of a session is known with its exchange
pub knows_own : (old new : Engine) (session : ℕ) (steps : List Exchange) (op : Op) (manner : Manner) (reply : Reply) → Knows old session steps → MayStep old session op manner
    → Step old session op manner reply new → Knows new session (steps ++ record { op = op; manner = manner; reply = reply } ∷ [])
knows_own old new session steps op manner reply knows may step =
    let after = step_quiet session old knows.quiet new op manner reply step in
    record {
      accords = own_accords old new session steps op manner reply knows.accords
          (λ cycle is. let marked = knows.quiet.marked session cycle is in (marked.1, marked.2)) may step;
      quiet = after.quiet;
      halted = λ is. by_reply (is_wait reply) refl (λ going. after.own going is);
    }
  where
    by_reply : (b : Bool) → is_wait reply ≡ b → (is_wait reply ≡ false → ⊥) → EndsInWait (steps ++ record { op = op; manner = manner; reply = reply } ∷ [])
    by_reply true is none = record {
      before = steps;
      last = record { op = op; manner = manner; reply = reply };
      split = refl;
      told = is;
      asks = wait_asks old new session op manner reply is step;
    }
    by_reply false is none = absurd (none is)

-- and every other session's exchanges stay known
pub knows_other : (old new : Engine) (session other : ℕ) (steps : List Exchange) (op : Op) (manner : Manner) (reply : Reply) → Knows old other steps → other ≢ session → MayStep old session op manner
    → Step old session op manner reply new → Knows new other steps
knows_other old new session other steps op manner reply knows differ may step =
    let after = step_quiet session old knows.quiet new op manner reply step in
    record {
      accords = other_accords old new session other steps op manner reply knows.accords differ may step;
      quiet = after.quiet;
      halted = λ is. knows.halted (after.others other differ is);
    }

-- ---- every run

knows_run : (session : ℕ) (old new : Engine) (before : List Exchange) (asked : List Asked)
    → Knows old session before → Run old asked new → Knows new session (before ++ mine_of session asked)
knows_run session old new before [] knows run = rw (run, append-nil before) knows
knows_run session old new before (one ∷ asked) knows run =
    by_session (same_or_not one.session session)
    (λ steps knows. knows_run session run.0 new steps asked knows run.3)
  where
    by_session : (one.session ≡ session) ⊎ (one.session ≢ session)
        → ((steps : List Exchange) → Knows run.0 session steps
        → Knows new session (steps ++ mine_of session asked))
        → Knows new session (before ++ mine_of session (one ∷ asked))
    by_session (inl same) rest =
        let here : Knows run.0 session (before ++ one.exchange ∷ []) =
        subst (λ (s : ℕ). Knows run.0 s (before ++ one.exchange ∷ [])) same
        (knows_own old run.0 one.session before one.exchange.op one.exchange.manner one.exchange.reply
        (subst (λ (s : ℕ). Knows old s before) (sym same) knows) run.1 run.2) in
        rw (eq-eqb one.session session same)
        (subst (Knows new session) (append_assoc before (one.exchange ∷ []) (mine_of session asked))
        (rest (before ++ one.exchange ∷ []) here))
    by_session (inr differ) rest =
        rw (apart one.session session differ)
        (rest before
        (knows_other old run.0 one.session session before one.exchange.op one.exchange.manner
        one.exchange.reply knows (λ same. differ (sym same)) run.1 run.2))

-- each run's exchanges of each session fit its log
pub law_runs : (session : ℕ) (asked : List Asked) (engine : Engine) → Run opening asked engine
    → Fits session [] engine.log (without_waits (mine_of session asked))
law_runs session asked engine run = (knows_run session opening engine [] asked (knows_opening session) run).accords.fits

-- after each run no waits are a cycle
pub runs_quiet : (asked : List Asked) (engine : Engine) → Run opening asked engine → Quiet engine
runs_quiet asked engine run = (knows_run 1 opening engine [] asked (knows_opening 1) run).quiet
