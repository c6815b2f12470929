-- Where sessions have asked what connections ask, each commit keeps its database intact, and each database of the log is.
use Rattle.std.proofs.Common.{◌≡◌, ◌≢◌, ◌⊎◌, inl, inr, ℕ, zero, suc, ◌+◌, false, List, [], ◌∷◌, length, take, slice_get, Option, None, Some, refl, sym, ap, ◌∙◌, subst, arith, eq-eqb}
use Rattle.std.specs.List.{AllByRecursion}
use Rattle.step_model.specs.declared.change.Change.{Change}
use Rattle.step_model.specs.declared.op.Op.{Op}
use Rattle.step_model.specs.declared.op.Op.TheVariants.{Commit}
use Rattle.step_model.specs.declared.reply.Reply.{Reply}
use Rattle.step_model.specs.declared.reply.Reply.TheVariants.{Ended}
use Rattle.step_model.specs.Exchange.{Exchange}
use Rattle.step_model.specs.Fits.{Fits, commit_of, committed_by, is_wait, without_waits}
use Rattle.step_model.specs.Log.{Commit as Logged, State}
use Rattle.step_model.specs.Own.{progress_of}
use Rattle.step_model.specs.Runs.{Run, mine_of, opening}
use Rattle.step_model.specs.State.{Engine}
use Rattle.history_laws.proofs.Sessions.{apart, same_or_not}
use Rattle.engine_core.specs.Solo.{asked_by}
use Rattle.engine_core.proofs.Fitting.{run_known}
use Rattle.sound_laws.specs.Stands.{Intact}
use Rattle.sound_laws.specs.Tied.{Tied}
use Rattle.sound_laws.proofs.Logs.{intact_empty}
pub use Rattle.sound_laws.proofs.Logs.{intact_sound}
use Rattle.sound_laws.proofs.Runs.{HasCommit, logged_commits, run_sound}
use Rattle.sound_laws.proofs.Serving.{all_keep}
use Rattle.connection_laws.specs.Laws.{AreConnections, ConnectionSound, ConnectionsKeep, ConnectionsSound, HistorySound, IsConnection}
use Rattle.connection_laws.proofs.Served.{alone, several_served}

-- ---- one session alone

all_mine : (session : ℕ) (exchanges : List Exchange) → mine_of session (asked_by session exchanges) ≡ exchanges
all_mine session [] = refl
all_mine session (x ∷ exchanges) = rw (eq-eqb session session refl) (ap (λ (l : List Exchange). x ∷ l) (all_mine session exchanges))

none_mine : (other session : ℕ) (exchanges : List Exchange) → session ≢ other → mine_of other (asked_by session exchanges) ≡ []
none_mine other session [] differ = refl
none_mine other session (x ∷ exchanges) differ = rw (apart session other differ) (none_mine other session exchanges differ)

none_waits : (exchanges : List Exchange) → AllByRecursion (λ exchange. is_wait exchange.reply ≡ false) exchanges → without_waits exchanges ≡ exchanges
none_waits [] none = refl
none_waits (x ∷ exchanges) none = rw none.0 (ap (λ (l : List Exchange). x ∷ l) (none_waits exchanges none.1))

-- the others have served none
no_connections : AreConnections []
no_connections = record { each = []; split = refl; connections = tt }

only : (session : ℕ) (exchanges : List Exchange) (engine : Engine) → IsConnection exchanges → Run opening (asked_by session exchanges) engine → (other : ℕ) → AreConnections (without_waits (mine_of other (asked_by session exchanges)))
only session exchanges engine connection run other = by_session (same_or_not session other)
  where
    by_session : (session ≡ other) ⊎ (session ≢ other) → AreConnections (without_waits (mine_of other (asked_by session exchanges)))
    by_session (inl same) = subst (λ (s : ℕ). AreConnections (without_waits (mine_of s (asked_by session exchanges)))) same
        (subst AreConnections (sym (ap without_waits (all_mine session exchanges) ∙ none_waits exchanges (run_known session exchanges engine run).none)) (alone exchanges connection))
    by_session (inr differ) = subst AreConnections (sym (ap without_waits (none_mine other session exchanges differ))) no_connections

-- ---- the laws

pub connections_keep : ConnectionsKeep
connections_keep session begin log mine tied connections = all_keep session begin log mine tied (several_served mine connections)

-- behind the last commit there is no more
take_none : {A : Type 0} (xs : List A) (n : ℕ) → slice_get xs n ≡ None → take (suc n) xs ≡ take n xs
take_none [] zero is = refl
take_none [] (suc n) is = refl
take_none (x ∷ xs) zero is = absurd (let no : Some x ≡ None = is in cc)
take_none (x ∷ xs) (suc n) is = ap (λ ys. x ∷ ys) (take_none xs n is)

module _ (log : List Logged) (mine : ℕ → List Exchange) (tied : (session : ℕ) → Tied session [] log (mine session)) (fits : (session : ℕ) → Fits session [] log (mine session)) (connections : (session : ℕ) → AreConnections (mine session)) where
  -- the commit at a place, which is among the exchanges of its session, keeps its database intact
  one_more : (place : ℕ) (commit : Logged) → slice_get log place ≡ Some commit → Intact (State (take place log)) → Intact (State (take (suc place) log))
  one_more place commit is intact =
      let session : ℕ = commit.session in
      let has : HasCommit (mine session) place commit.changes = logged_commits session [] log (mine session) place commit.changes (fits session) (omega arith) is in
      let after : Intact (State (take (place + length (committed_by has.commit.op has.commit.reply (progress_of has.before))) log)) =
      connections_keep session [] log (mine session) (tied session) (connections session) has.before has.later has.commit has.split has.commits place has.ended intact in
      let so_many : committed_by has.commit.op has.commit.reply (progress_of has.before) ≡ committed_by Commit (Ended place) (progress_of has.before) =
      ap (λ (op : Op). committed_by op has.commit.reply (progress_of has.before)) has.commits ∙ ap (λ (reply : Reply). committed_by Commit reply (progress_of has.before)) has.ended in
      let one : length (committed_by has.commit.op has.commit.reply (progress_of has.before)) ≡ 1 = ap length so_many ∙ ap (λ (cs : List Change). length (commit_of cs)) has.net ∙ ap length has.some in
      let next : place + length (committed_by has.commit.op has.commit.reply (progress_of has.before)) ≡ suc place = omega (arith, one) in
      subst (λ (n : ℕ). Intact (State (take n log))) next after

  every_place : (place : ℕ) → Intact (State (take place log))
  every_place zero = intact_empty
  every_place (suc place) = by_commit (slice_get log place) refl (every_place place)
    where
      by_commit : (o : Option Logged) → slice_get log place ≡ o → Intact (State (take place log)) → Intact (State (take (suc place) log))
      by_commit None is intact = subst (λ (l : List Logged). Intact (State l)) (sym (take_none log place is)) intact
      by_commit (Some commit) is intact = one_more place commit is intact

pub history_sound : HistorySound
history_sound log mine tied fits connections place = every_place log mine tied fits connections place

pub connections_sound : ConnectionsSound
connections_sound asked engine run connections place = run_sound asked engine run (λ session. several_served (without_waits (mine_of session asked)) (connections session)) place

pub connection_sound : ConnectionSound
connection_sound session exchanges engine connection run place = connections_sound (asked_by session exchanges) engine run (only session exchanges engine connection run) place
