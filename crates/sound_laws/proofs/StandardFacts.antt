-- Worked sessions: one that has asked nothing is one that the law of runs speaks of, and so is one whose connection ended at once.
use Rattle.std.proofs.Common.{◌≡◌, [], ◌∷◌, Option, Some, None, refl}
use Rattle.batch_meaning.specs.Doing.{Held}
use Rattle.batch_meaning.specs.Meaning.{rolls_back_open}
use Rattle.batch_meaning.specs.Progress.{first_progress}
use Rattle.sound_laws.specs.Runs.{AreServed, IsServed, IsWhole, Task}

none_some : (one : Task) → ◌≡◌ {A = Option Task} None (Some one) → ⊥
none_some one is = absurd (let no : ◌≡◌ {A = Option Task} None (Some one) = is in cc)

-- a connection before its first batch
before_first : IsServed [] first_progress
before_first = record {
  old = first_progress;
  closed = refl;
  tasks = [];
  last = None;
  done = [];
  left = [];
  mid = first_progress;
  parts = refl;
  are_done = (refl, refl);
  was_left = (refl, refl);
  back = tt;
  last_back = λ one is. absurd (none_some one is);
}

-- nothing is open then, so its end asks nothing
ended_at_once : IsWhole []
unfolding Held rolls_back_open
ended_at_once = record { served = []; rolled = []; mid = first_progress; new = first_progress; parts = refl; asked = before_first; end = (refl, refl, refl) }

-- a session that has asked nothing, and one behind a connection
nothing_asked : AreServed []
nothing_asked = record { parts = []; last = []; now = first_progress; split = refl; whole = tt; ends = before_first }

one_ended : AreServed []
one_ended = record { parts = [] ∷ []; last = []; now = first_progress; split = refl; whole = (ended_at_once, tt); ends = before_first }
