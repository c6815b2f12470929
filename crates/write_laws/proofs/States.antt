-- What the database without rows has, and what each commit of a run keeps, every database of its log has.
use Rattle.std.proofs.Common.{◌≡◌, ℕ, zero, suc, ◌+◌, List, [], ◌∷◌, length, take, slice_get, Option, None, Some, refl, sym, ap, subst, ◌∙◌, arith}
use Rattle.step_model.specs.declared.change.Change.{Change}
use Rattle.step_model.specs.Database.{Database, nothing}
use Rattle.step_model.specs.Exchange.{Exchange}
use Rattle.step_model.specs.Fits.{Fits, commit_of, without_waits}
use Rattle.step_model.specs.Log.{Commit as Logged, State}
use Rattle.step_model.specs.Net.{Net}
use Rattle.step_model.specs.Own.{progress_of}
use Rattle.step_model.specs.Runs.{Asked, Run, mine_of, opening}
use Rattle.step_model.specs.State.{Engine}
use Rattle.constraint_check.specs.Laws.{behind}
use Rattle.history_laws.proofs.Laws.{law_runs}
use Rattle.write_laws.specs.Reading.{HasCommit, NextState}
use Rattle.write_laws.proofs.Commits.{commit_leaves}
use Rattle.write_laws.proofs.Logged.{logged_commits}

take_none : {A : Type 0} (xs : List A) (n : ℕ) → slice_get xs n ≡ None → take (suc n) xs ≡ take n xs
take_none [] zero is = refl
take_none [] (suc n) is = refl
take_none (x ∷ xs) zero is = absurd (let no : Some x ≡ None = is in cc)
take_none (x ∷ xs) (suc n) is = ap (λ ys. x ∷ ys) (take_none xs n is)

module _ (asked : List Asked) (engine : Engine) (run : Run opening asked engine) where
  abbrev pub exchanges_of : ℕ → List Exchange
  exchanges_of session = without_waits (mine_of session asked)

  fits : (session : ℕ) → Fits session [] engine.log (exchanges_of session)
  fits session = law_runs session asked engine run

  -- the next database of the log is this one behind what its transaction had written
  next_state : (session place : ℕ) (changes : List Change) (has : HasCommit (exchanges_of session) place changes) → State (take (suc place) engine.log) ≡ behind (State (take place engine.log)) (progress_of has.before).own
  next_state session place changes has =
      let one : length (commit_of (Net (progress_of has.before).own)) ≡ 1 = ap (λ (cs : List Change). length (commit_of cs)) has.net ∙ ap length has.some in
      let next : suc place ≡ place + length (commit_of (Net (progress_of has.before).own)) = omega (arith, one) in
      ap (λ (n : ℕ). State (take n engine.log)) next
      ∙ commit_leaves session [] engine.log (exchanges_of session) has.before has.later has.commit place has.split (fits session).inserts (fits session).commits has.commits has.ended

  module _ (P : Database → Type 0) (none : P nothing)
      (kept : (session place : ℕ) (changes : List Change) (has : HasCommit (exchanges_of session) place changes) → P (State (take place engine.log)) → P (behind (State (take place engine.log)) (progress_of has.before).own)) where
    pub every_state : (place : ℕ) → P (State (take place engine.log))
    every_state zero = none
    every_state (suc place) = by_commit (slice_get engine.log place) refl (every_state place)
      where
        by_commit : (o : Option Logged) → slice_get engine.log place ≡ o → P (State (take place engine.log)) → P (State (take (suc place) engine.log))
        by_commit None is before = subst (λ (log : List Logged). P (State log)) (sym (take_none engine.log place is)) before
        by_commit (Some commit) is before =
            let has = logged_commits commit.session [] engine.log (exchanges_of commit.session) place commit.changes (fits commit.session) (omega arith) is in
            subst P (sym (next_state commit.session place commit.changes has)) (kept commit.session place commit.changes has before)

pub next_states : NextState
next_states asked engine run session place changes is =
    let has = logged_commits session [] engine.log (without_waits (mine_of session asked)) place changes (fits asked engine run session) (omega arith) is in
    (has, next_state asked engine run session place changes has)
