-- Own: an engine with one session behind a port, and what its exchanges are. They are said to be a run of steps;
-- the code keeps them in a list beside its engine, until there is no memory for one more.
use Rattle.std.specs.Prelude.{ℕ, Bool, true, false, List, map, Option, None, Some}
use Rattle.step_model.specs.declared.reply.Reply.{Reply}
use Rattle.step_model.specs.declared.reply.Reply.TheVariants.{Wait, TimedOut, Victim}
use Rattle.step_model.specs.Exchange.{Exchange, Standing, IsSession}
use Rattle.step_model.specs.Sure.{SureKeys}
use Rattle.step_model.specs.Port.{PortPast}
use Rattle.step_model.specs.State.{Engine, is_open}
use Rattle.step_model.specs.Runs.{Asked, Run, opening, standing_of}
use Rattle.history_laws.specs.Sure.{Sure}

-- ---- runs of one session

-- the steps of a session with these exchanges
abbrev pub asked_by : ℕ → List Exchange → List Asked
asked_by session exchanges = map (λ exchange. record { session = session; exchange = exchange }) exchanges

-- what is told is a run of this session alone, from an engine before any step to this one; where nothing
-- is told, there is such a run
abbrev pub IsRunOf : ℕ → Option (List Exchange) → Engine → Type 0
IsRunOf session None engine = (exchanges : List Exchange) × Run opening (asked_by session exchanges) engine
IsRunOf session (Some exchanges) engine = Run opening (asked_by session exchanges) engine

-- such a run has made a row sure at this key
abbrev pub sure_in : ℕ → Engine → SureKeys
sure_in session engine span t x = (exchanges : List Exchange) × Run opening (asked_by session exchanges) engine × Sure exchanges span t x

-- the replies of one in whose way another session stands
abbrev pub is_refusal : Reply → Bool
is_refusal (Wait holder) = true
is_refusal (TimedOut holder held asked on) = true
is_refusal (Victim cycle) = true
is_refusal reply = false

-- ---- the port

-- the session, the exchanges that are told, and the engine
pub record Solo : Type 0 where
  pub session : ℕ
  pub told : Option (List Exchange)
  pub engine : Engine

-- what holds of each
pub record IsSolo (solo : Solo) : Type 0 where
  pub session : IsSession solo.session
  pub run : IsRunOf solo.session solo.told solo.engine

abbrev pub solo_open : Solo → Bool
solo_open solo = is_open solo.session solo.engine

abbrev pub solo_standing : Solo → Standing
solo_standing solo = standing_of solo.session solo.engine

-- what is behind the port: its session and where that stands, where rows are sure, what it tells, and the runs of
-- its session alone that lead to its engine
abbrev pub solo_past : Solo → PortPast
solo_past solo = record {
  session = solo.session;
  standing = solo_standing solo;
  sure = sure_in solo.session solo.engine;
  told = solo.told;
  led_by = λ exchanges. Run opening (asked_by solo.session exchanges) solo.engine;
}
