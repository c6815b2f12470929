-- Own: what a connection has asked, one batch or call by RPC after another. The talk of its requests threads responses too; here stand the batches
-- and calls alone. A transaction may go over them.
use Rattle.std.specs.Prelude.{◌≡◌, false, List, [], ◌∷◌, Option, None}
use Rattle.step_model.specs.Exchange.{Exchange}
use Rattle.batch_meaning.specs.declared.form.ReadText.{ReadText}
use Rattle.batch_meaning.specs.Progress.{first_progress}
use Rattle.session_server.specs.Ends.{Cause, unmade}
use Rattle.session_server.specs.Talk.{Handling, calls, runs, Request}
use Rattle.sound_laws.specs.Runs.{IsWhole, Task}
use Rattle.sound_laws.specs.Runs.Task.{Calls, Runs}

-- the batches and calls that requests run, in their order, each with what its text is read as
abbrev pub with_task : Handling → ReadText → List Task → List Task
with_task (runs connected text) read_as others = Runs read_as ∷ others
with_task (calls connected call) read_as others = Calls call read_as ∷ others
with_task handling read_as others = others

abbrev pub tasks_of : List Request → List Task
tasks_of [] = []
tasks_of (request ∷ requests) = with_task request.handling request.read_as (tasks_of requests)

-- one more may have been left only where its response was not made
abbrev pub IsLast : Cause → Option Task → Type 0
IsLast unmade last = Unit {0}
IsLast cause last = last ≡ None

-- In a connection that ended so these exchanges are all that they ask, the first from where each session begins, each other from where
-- the one before it has come to; then a front of what one more asks, if one was left; then the rollback of what they left open. Behind
-- that no transaction is open.
pub record AsksTasks (cause : Cause) (tasks : List Task) (exchanges : List Exchange) : Type 0 where
  pub whole : IsWhole exchanges
  pub begins : whole.asked.old ≡ first_progress
  pub are : whole.asked.tasks ≡ tasks
  pub is_last : IsLast cause whole.asked.last
  pub shut : whole.new.is_open ≡ false
