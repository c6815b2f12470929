-- In every run each operation is asked where it may come.
use Rattle.std.proofs.Common.{◌≡◌, ◌≢◌, ◌⊎◌, inl, inr, ℕ, Bool, true, false, if◌then◌else◌, List, [], ◌∷◌, ◌++◌, refl, sym, ap, subst, append-nil, append_assoc, eq-eqb}
use Rattle.step_model.specs.declared.manner.Manner.{Manner}
use Rattle.step_model.specs.declared.op.Op.{Op}
use Rattle.step_model.specs.declared.reply.Reply.{Reply}
use Rattle.step_model.specs.Exchange.{Exchange, MayCome, Standing}
use Rattle.step_model.specs.Fits.{is_wait, without_waits}
use Rattle.step_model.specs.Own.{progress_of, standing_at}
use Rattle.step_model.specs.Runs.{Asked, MayStep, Run, mine_of, opening}
use Rattle.step_model.specs.State.{Engine}
use Rattle.step_model.specs.Step.{Step}
use Rattle.history_laws.specs.Knows.{Knows}
use Rattle.history_laws.proofs.Laws.{knows_opening, knows_other, knows_own}
use Rattle.history_laws.proofs.OwnStep.{waits_more}
use Rattle.history_laws.proofs.Sessions.{apart, same_or_not}
use Rattle.history_laws.proofs.Since.{standing_known}
use Rattle.history_laws.proofs.Splits.{each_more}
use Rattle.sound_laws.specs.Tied.{may_come}

-- a session is known, and has asked so
pub record Comes (engine : Engine) (session : ℕ) (steps : List Exchange) : Type 0 where
  pub knows : Knows engine session steps
  pub comes : may_come (without_waits steps)

waits_same : (steps : List Exchange) (last : Exchange) → is_wait last.reply ≡ true → without_waits (steps ++ last ∷ []) ≡ without_waits steps
waits_same [] last wait = rw wait refl
waits_same (e ∷ steps) last wait = by_test (is_wait e.reply) (waits_same steps last wait)
  where
    by_test : (b : Bool) → without_waits (steps ++ last ∷ []) ≡ without_waits steps → (if b then without_waits (steps ++ last ∷ []) else e ∷ without_waits (steps ++ last ∷ [])) ≡ (if b then without_waits steps else e ∷ without_waits steps)
    by_test true rest = rest
    by_test false rest = ap (λ (es : List Exchange). e ∷ es) rest

own_step : (old new : Engine) (session : ℕ) (steps : List Exchange) (op : Op) (manner : Manner) (reply : Reply) → MayStep old session op manner → Step old session op manner reply new
    → Comes old session steps → Comes new session (steps ++ record { op = op; manner = manner; reply = reply } ∷ [])
own_step old new session steps op manner reply may step so = record {
  knows = knows_own old new session steps op manner reply so.knows may step;
  comes = by_wait (is_wait reply) refl;
}
  where
    last : Exchange
    last = record { op = op; manner = manner; reply = reply }

    by_wait : (b : Bool) → is_wait reply ≡ b → may_come (without_waits (steps ++ record { op = op; manner = manner; reply = reply } ∷ []))
    by_wait true waits = subst may_come (sym (waits_same steps (record { op = op; manner = manner; reply = reply }) waits)) so.comes
    by_wait false going = subst may_come (sym (waits_more steps (record { op = op; manner = manner; reply = reply }) going))
        (each_more (λ before exchange later. MayCome (standing_at (progress_of before)) exchange.op) (without_waits steps) (record { op = op; manner = manner; reply = reply }) so.comes
        (subst (λ (standing : Standing). MayCome standing op) (standing_known old session steps so.knows.accords) may.1.0))

other_step : (old new : Engine) (session other : ℕ) (steps : List Exchange) (op : Op) (manner : Manner) (reply : Reply) → other ≢ session → MayStep old session op manner → Step old session op manner reply new
    → Comes old other steps → Comes new other steps
other_step old new session other steps op manner reply differ may step so = record {
  knows = knows_other old new session other steps op manner reply so.knows differ may step;
  comes = so.comes;
}

come_run : (session : ℕ) (old new : Engine) (before : List Exchange) (asked : List Asked) → Comes old session before → Run old asked new → Comes new session (before ++ mine_of session asked)
come_run session old new before [] so run = rw (run, append-nil before) so
come_run session old new before (one ∷ asked) so run = by_session (same_or_not one.session session) (λ steps so. come_run session run.0 new steps asked so run.3)
  where
    by_session : (one.session ≡ session) ⊎ (one.session ≢ session) → ((steps : List Exchange) → Comes run.0 session steps → Comes new session (steps ++ mine_of session asked)) → Comes new session (before ++ mine_of session (one ∷ asked))
    by_session (inl same) rest =
        let here : Comes run.0 session (before ++ one.exchange ∷ []) =
        subst (λ (s : ℕ). Comes run.0 s (before ++ one.exchange ∷ [])) same
        (own_step old run.0 one.session before one.exchange.op one.exchange.manner one.exchange.reply run.1 run.2 (subst (λ (s : ℕ). Comes old s before) (sym same) so)) in
        rw (eq-eqb one.session session same) (subst (Comes new session) (append_assoc before (one.exchange ∷ []) (mine_of session asked)) (rest (before ++ one.exchange ∷ []) here))
    by_session (inr differ) rest =
        rw (apart one.session session differ)
        (rest before (other_step old run.0 one.session session before one.exchange.op one.exchange.manner one.exchange.reply (λ same. differ (sym same)) run.1 run.2 so))

pub none_split : (before : List Exchange) (exchange : Exchange) (later : List Exchange) → [] ≡ before ++ exchange ∷ later → ⊥
none_split [] exchange later is = absurd (let no : [] ≡ exchange ∷ later = is in cc)
none_split (e ∷ before) exchange later is = absurd (let no : [] ≡ e ∷ (before ++ exchange ∷ later) = is in cc)

pub runs_come : (session : ℕ) (asked : List Asked) (engine : Engine) → Run opening asked engine → may_come (without_waits (mine_of session asked))
runs_come session asked engine run = (come_run session opening engine [] asked (record { knows = knows_opening session; comes = λ before exchange later is. absurd (none_split before exchange later is) }) run).comes
