-- Own: what one asking through a port adds to its seat. Between its steps others may step the engine; that is seen
-- only by the state which each step finds.
use Rattle.std.specs.Prelude.{◌≡◌, ◌⊎◌, true, false, List, [], ◌++◌, map}
use Rattle.std.specs.List.{AllByRecursion}
use mathlib.Core.List.{IsPrefix}
use Rattle.step_model.specs.declared.reply.Reply.{Reply}
use Rattle.step_model.specs.Exchange.{AsksLock}
use Rattle.step_model.specs.Fits.{is_wait}
use Rattle.step_model.specs.Log.{Commit as Logged}
use Rattle.step_model.specs.Step.{Step}
use Rattle.turn_desk.specs.Seats.{SeatState}
use Rattle.turn_desk.specs.Acts.{Acts}
use Rattle.engine_core.specs.Machine.{Ask, FitsSteps, KnowsSteps}

-- a seat at the desk of the engine
abbrev pub EngineSeat : Type 0
EngineSeat = SeatState Ask Reply Logged

-- one act at that desk
abbrev pub ActsOnce : EngineSeat → Ask → Reply → EngineSeat → Type 0
ActsOnce old call reply new =
    Acts (λ engine. engine.log) (λ before number call reply after. Step before number call.op call.manner reply after)
    (λ engine number steps. KnowsSteps engine number steps) (λ log number steps. FitsSteps log number steps) old call reply new

-- any number of steps of this call, each of them told to wait
pub record HasWaited (old : EngineSeat) (call : Ask) (new : EngineSeat) : Type 0 where
  pub desk : new.desk ≡ old.desk
  pub number : new.number ≡ old.number
  pub waits : List Reply
  pub all_wait : AllByRecursion (λ reply. is_wait reply ≡ true) waits
  pub steps : new.steps ≡ old.steps ++ map (λ reply. (call, reply)) waits
  pub log : IsPrefix old.log new.log
  -- what is told to wait asks for a lock
  pub asks : (waits ≡ []) ⊎ AsksLock call.op

-- Then one step more of the same call, whose reply it gives: that is no `Wait`.
pub record IsAsked (old : EngineSeat) (call : Ask) (reply : Reply) (new : EngineSeat) : Type 0 where
  pub waiting : EngineSeat
  pub waited : HasWaited old call waiting
  pub acts : ActsOnce waiting call reply new
  pub passes : is_wait reply ≡ false
