-- In every run whose sessions ask what connections ask, each database of the log is intact.
use Rattle.std.proofs.Common.{◌≡◌, ℕ, ◌+◌, List, [], length, take, ap, subst, ◌∙◌}
use Rattle.step_model.specs.declared.change.Change.{Change}
use Rattle.step_model.specs.declared.op.Op.{Op}
use Rattle.step_model.specs.declared.op.Op.TheVariants.{Commit}
use Rattle.step_model.specs.declared.reply.Reply.{Reply}
use Rattle.step_model.specs.declared.reply.Reply.TheVariants.{Ended}
use Rattle.step_model.specs.Exchange.{Exchange}
use Rattle.step_model.specs.Fits.{committed_by, without_waits}
use Rattle.step_model.specs.Log.{State}
use Rattle.step_model.specs.Own.{progress_of}
use Rattle.step_model.specs.Runs.{Asked, Run, mine_of, opening}
use Rattle.step_model.specs.State.{Engine}
use Rattle.constraint_check.specs.Laws.{behind}
use Rattle.history_laws.proofs.Laws.{law_runs}
pub use Rattle.write_laws.specs.Reading.{HasCommit}
pub use Rattle.write_laws.proofs.Logged.{logged_commits}
use Rattle.write_laws.proofs.Commits.{commit_leaves}
use Rattle.write_laws.proofs.States.{every_state}
use Rattle.sound_laws.specs.Runs.{RunSound, ServeTasks}
use Rattle.sound_laws.specs.Stands.{Intact}
use Rattle.sound_laws.specs.Tied.{Tied}
use Rattle.sound_laws.proofs.Coming.{runs_come}
use Rattle.sound_laws.proofs.Logs.{intact_empty}
use Rattle.sound_laws.proofs.Serving.{all_keep}

module _ (asked : List Asked) (engine : Engine) (run : Run opening asked engine) (serve : ServeTasks asked) where
  tied : (session : ℕ) → Tied session [] engine.log (without_waits (mine_of session asked))
  tied session =
      let fits = law_runs session asked engine run in
      record {
        numbers = fits.numbers;
        fetches = fits.fetches;
        ranges = fits.ranges;
        inserts = fits.inserts;
        targets = fits.targets;
        commits = fits.commits;
        comes = runs_come session asked engine run;
      }

  kept : (session place : ℕ) (changes : List Change) (has : HasCommit (without_waits (mine_of session asked)) place changes) → Intact (State (take place engine.log)) → Intact (behind (State (take place engine.log)) (progress_of has.before).own)
  kept session place changes has intact =
      let mine : List Exchange = without_waits (mine_of session asked) in
      let after : Intact (State (take (place + length (committed_by has.commit.op has.commit.reply (progress_of has.before))) engine.log)) =
      all_keep session [] engine.log mine (tied session) (serve session) has.before has.later has.commit has.split has.commits place has.ended intact in
      let so_many : committed_by has.commit.op has.commit.reply (progress_of has.before) ≡ committed_by Commit (Ended place) (progress_of has.before) =
      ap (λ (op : Op). committed_by op has.commit.reply (progress_of has.before)) has.commits ∙ ap (λ (reply : Reply). committed_by Commit reply (progress_of has.before)) has.ended in
      subst Intact (commit_leaves session [] engine.log mine has.before has.later has.commit place has.split (tied session).inserts (tied session).commits has.commits has.ended)
      (subst (λ (n : ℕ). Intact (State (take (place + n) engine.log))) (ap length so_many) after)

pub run_sound : RunSound
run_sound asked engine run serve place = every_state asked engine run Intact intact_empty (kept asked engine run serve) place
