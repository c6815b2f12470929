-- What a connection has asked is what batches and calls ask, one behind another; and so it has the form that the laws of soundness ask for.
use Rattle.std.proofs.Common.{◌≡◌, ◌⊎◌, inl, inr, List, [], ◌∷◌, ◌++◌, Option, None, Some, refl, sym, ap, ◌∙◌, subst, append-nil}
use Rattle.std.specs.List.{AllByRecursion, flat_map}
use Rattle.std.specs.Option.{ForSome}
use Rattle.tds_login.specs.declared.config.Config.{Config}
use Rattle.tds_packets.specs.declared.message.Message.{Message}
use Rattle.step_model.specs.Exchange.{Exchange}
use Rattle.batch_meaning.specs.declared.form.ReadText.{ReadText}
use Rattle.batch_meaning.specs.Doing.{Doing, over, ◌then◌, Held, Left}
use Rattle.batch_meaning.specs.Meaning.{batch, rolls_back_open}
use Rattle.batch_meaning.specs.Progress.{SessionProgress, first_progress}
use Rattle.batch_meaning.specs.Rpc.{rpc}
use Rattle.sound_laws.proofs.Bringing.{Apart, held_apart, held_left, left_apart}
use Rattle.session_server.specs.Conversation.{Abandons, IsAbandoned, IsAsked, closed}
use Rattle.session_server.specs.Ends.{Cause, no_message, by_message, unsent, unmade}
use Rattle.session_server.specs.Response.{Response}
use Rattle.session_server.specs.Talk.{Handling, responds, runs, calls, refuses, ends, handle, walk_of, Request, AreRequests, batch_response, rpc_response, response_to, talk_of}
use Rattle.sound_laws.specs.Runs.{AreDone, AreServed, IsCut, IsServed, IsWhole, Task, TaskReadsBack}
use Rattle.sound_laws.specs.Runs.Task.{Calls, Runs}
use Rattle.sound_laws.proofs.Looked.{all_left, all_right}
use Rattle.connection_laws.specs.Tasks.{AsksTasks, IsLast, tasks_of}
use Rattle.connection_laws.specs.Laws.{AreConnections, ConnectionAsks, ConnectionServed, IsConnection}
use Rattle.connection_laws.proofs.Shut.{rolled_shut}
use Rattle.connection_laws.proofs.Short.{HandledBack, IsShort, IsLimited, all_limited, tasks_back, handled_goes, last_short, text_back, walk_short}
use Rattle.connection_laws.proofs.Talks.{held_whole, responds_by, talk_done}

-- ---- the last batch or call

-- one was left, with these exchanges, or there was none
pub record IsLeft (old new : SessionProgress) (exchanges : List Exchange) : Type 0 where
  pub last : Option Task
  pub left : IsCut last old exchanges new
  pub back : ForSome last TaskReadsBack

none_back : ForSome None TaskReadsBack
none_back read is = absurd (let no : None ≡ Some read = is in cc)

some_back : (one : Task) → TaskReadsBack one → ForSome (Some one) TaskReadsBack
some_back one back other is = subst TaskReadsBack (let same : one ≡ other = cc in same) back

none_left : (old new : SessionProgress) (exchanges : List Exchange) → exchanges ≡ [] → new ≡ old → IsLeft old new exchanges
none_left old new exchanges none same = record { last = None; left = (none, same); back = none_back }

module _ (old new : SessionProgress) (exchanges : List Exchange) where
  tree_left : (tree : Doing (Unit {0})) (make : SessionProgress → Response) → Left (tree then responds_by make) old exchanges new → Left tree old exchanges new
  unfolding Left
  tree_left tree make left = by_left (left_apart tree (responds_by make) old new exchanges left)
    where
      by_left : Left tree old exchanges new ⊎ Apart tree old exchanges (λ nothing mid back. Left (responds_by make nothing) mid back new) → Left tree old exchanges new
      by_left (inl here) = here
      by_left (inr on) = held_left tree old new exchanges tt (held_whole tree old on.mid new exchanges on.front on.back tt on.held on.parts on.rest.0 on.rest.1)

  response_left : (handling : Handling) (read_as : ReadText) → HandledBack handling read_as → Left (response_to handling read_as) old exchanges new → IsLeft old new exchanges
  unfolding Left batch_response rpc_response
  response_left (responds answer next) read_as back left = none_left old new exchanges left.0 left.1
  response_left (runs connected text) read_as back left = record { last = Some (Runs read_as); left = tree_left (batch read_as) _ left; back = some_back (Runs read_as) back }
  response_left (calls connected call) read_as back left = record { last = Some (Calls call read_as); left = tree_left (rpc call read_as) _ left; back = some_back (Calls call read_as) back }
  response_left (refuses answer number) read_as back left = none_left old new exchanges left.0 left.1
  response_left (ends end) read_as back left = none_left old new exchanges left.0 left.1

abandoned_left : (old new : SessionProgress) (exchanges : List Exchange) (handling : Handling) → IsShort handling → IsAbandoned handling old exchanges new → IsLeft old new exchanges
abandoned_left old new exchanges handling short (inl none) = none_left old new exchanges none.0 none.1
abandoned_left old new exchanges handling short (inr (read_as, are, left)) = response_left old new exchanges handling read_as (text_back handling read_as short are) left

-- ---- the batches and calls

-- by what was done, left and rolled back
asks_by : (cause : Cause) (tasks : List Task) (exchanges done left rolled : List Exchange) (mid cut new : SessionProgress) (last : IsLeft mid cut left) → IsLast cause last.last → exchanges ≡ (done ++ left) ++ rolled → AreDone tasks first_progress done mid
    → Held rolls_back_open cut rolled tt new → AllByRecursion TaskReadsBack tasks → AsksTasks cause tasks exchanges
asks_by cause tasks exchanges done left rolled mid cut new last is_last parts are_done end back = record {
  whole = record {
    served = done ++ left;
    rolled = rolled;
    mid = cut;
    new = new;
    parts = parts;
    asked = record {
      old = first_progress;
      closed = refl;
      tasks = tasks;
      last = last.last;
      done = done;
      left = left;
      mid = mid;
      parts = refl;
      are_done = are_done;
      was_left = last.left;
      back = back;
      last_back = last.back;
    };
    end = end;
  };
  begins = refl;
  are = refl;
  is_last = is_last;
  shut = rolled_shut cut new rolled end;
}

module _ (config : Config) (messages : List Message) (requests : List Request) (exchanges : List Exchange) (responses : List Response) (limits : AllByRecursion IsLimited messages) where
  closed_asks : (cause : Cause) → IsLast cause None → (new : SessionProgress) → AreRequests (walk_of config messages).handled requests → Held (closed (talk_of requests)) first_progress exchanges responses new → AsksTasks cause (tasks_of requests) exchanges
  unfolding Held
  closed_asks cause none new are held =
      let one = held_apart (talk_of requests) (λ came. rolls_back_open then λ _. over came) first_progress new exchanges responses held in
      let two = held_apart rolls_back_open (λ _. over one.came) one.mid new one.back responses one.rest in
      asks_by cause (tasks_of requests) exchanges one.front [] one.back one.mid one.mid new (record { last = None; left = (refl, refl); back = none_back }) none
      (one.parts ∙ ap (λ (l : List Exchange). l ++ one.back) (sym (append-nil one.front)))
      (talk_done requests one.mid one.front one.came one.held)
      (held_whole rolls_back_open one.mid two.mid new one.back two.front two.back tt two.held two.parts two.rest.0 two.rest.2)
      (tasks_back (walk_of config messages).handled requests (walk_short config messages limits).short are)

  abandoned_asks : Abandons config messages requests exchanges responses → AsksTasks unmade (tasks_of requests) exchanges
  abandoned_asks a =
      let each : AllByRecursion IsLimited (a.front ++ a.last ∷ []) = subst (AllByRecursion IsLimited) a.whole limits in
      let walk = walk_of config a.front in
      let so = walk_short config a.front (all_left IsLimited a.front (a.last ∷ []) each) in
      let last = abandoned_left a.talked a.abandoned a.second (handle config a.state a.last)
      (last_short config walk (λ state. handle config state a.last) walk.stands a.state a.stands (handled_goes config walk a.last (all_right IsLimited a.front (a.last ∷ []) each).0 so.reached)) a.left in
      asks_by unmade (tasks_of requests) exchanges a.first a.second a.third a.talked a.abandoned a.new last tt a.parts
      (talk_done requests a.talked a.first responses a.talk) a.end (tasks_back walk.handled requests so.short a.are)

  asked_tasks : (cause : Cause) → IsAsked config messages requests exchanges responses cause → AsksTasks cause (tasks_of requests) exchanges
  asked_tasks unmade asked = abandoned_asks asked
  asked_tasks (no_message fault) asked = closed_asks (no_message fault) refl asked.1 asked.0 asked.2
  asked_tasks (by_message end) asked = closed_asks (by_message end) refl asked.1 asked.0 asked.2
  asked_tasks (unsent fault) asked = closed_asks (unsent fault) refl asked.1 asked.0 asked.2

pub connection_asks : ConnectionAsks
connection_asks exchanges c = asked_tasks c.config c.messages c.requests exchanges c.responses (all_limited 0 c.taken c.messages c.rest c.split.joined) c.cause c.asked

-- ---- connections one behind another

-- where nothing was asked
nothing_served : IsServed [] first_progress
nothing_served = record {
  old = first_progress;
  closed = refl;
  tasks = [];
  last = None;
  done = [];
  left = [];
  mid = first_progress;
  parts = refl;
  are_done = (refl, refl);
  was_left = (refl, refl);
  back = tt;
  last_back = none_back;
}

-- so is one alone
pub alone : (exchanges : List Exchange) → IsConnection exchanges → AreConnections exchanges
alone exchanges connection = record { each = exchanges ∷ []; split = sym (append-nil exchanges); connections = (connection, tt) }

each_whole : (each : List (List Exchange)) → AllByRecursion IsConnection each → AllByRecursion IsWhole each
each_whole [] connections = tt
each_whole (exchanges ∷ each) (connection, connections) = ((connection_asks exchanges connection).whole, each_whole each connections)

pub several_served : (mine : List Exchange) → AreConnections mine → AreServed mine
several_served mine so = record {
  parts = so.each;
  last = [];
  now = first_progress;
  split = so.split ∙ sym (append-nil (flat_map (λ part. part) so.each));
  whole = each_whole so.each so.connections;
  ends = nothing_served;
}

pub connection_served : ConnectionServed
connection_served exchanges connection = several_served exchanges (alone exchanges connection)
