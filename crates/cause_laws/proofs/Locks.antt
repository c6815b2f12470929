-- The errors of locks are looked for: the replies that are their causes don't come, and nothing else is asked of what comes.
use Rattle.std.proofs.Common.{◌≡◌, refl, ℕ, ℤ, pos, List, [], ◌∷◌, Option, Some, None, true, false}
use Rattle.std.specs.List.{AllByRecursion}
use Rattle.std.specs.Ordering.{int_eq}
use Rattle.lock_modes.specs.declared.Pair.{Pair}
use Rattle.step_model.specs.declared.edge.Cycle.{Cycle}
use Rattle.step_model.specs.declared.reply.Reply.TheVariants as replies
use Rattle.step_model.specs.declared.resource.Resource.{Resource}
use Rattle.step_model.specs.Ranges.{deadlock, lock_timeout}
use Rattle.tds_tokens.specs.declared.token.Token.{Token}
use Rattle.tds_tokens.specs.declared.token.Token.TheVariants.{Error}
use Rattle.batch_meaning.specs.declared.exit.Exit.{Exit}
use Rattle.batch_meaning.specs.declared.exit.Exit.TheVariants.{Raise, RaiseUp}
use Rattle.batch_meaning.specs.declared.raised.Raised.{Raised}
use Rattle.cause_laws.specs.Causes.{LockError, Deadlock, LockTimeout, CaughtOther, IsOther, LeavesOther, TellsNone, TellsOther, is_answer}
use Rattle.cause_laws.proofs.Usual.{IsUsual, differs, no_deadlock, no_timeout}
use Rattle.cause_laws.proofs.Watch.{CaughtBy, LeavesBy, TellsBy, Watch}

-- a number that is none of the two
pub lock_other : (error : LockError) (number : ℤ) → int_eq number (pos 1205) ≡ false → int_eq number (pos 1222) ≡ false → IsOther error number
lock_other Deadlock number one two = differs number (pos 1205) one
lock_other LockTimeout number one two = differs number (pos 1222) two

pub lock_usual : (error : LockError) (number : ℤ) → IsUsual number → IsOther error number
lock_usual Deadlock number usual = no_deadlock number usual
lock_usual LockTimeout number usual = no_timeout number usual

-- the number of a reply that is not the error
pub victim_other : (error : LockError) (cycle : Cycle) → is_answer error (replies.Victim cycle) ≡ false → IsOther error (pos deadlock)
victim_other Deadlock cycle unsaid = absurd (let no : true ≡ false = unsaid in cc)
victim_other LockTimeout cycle unsaid = differs (pos 1205) (pos 1222) refl

pub timed_other : (error : LockError) (holder : ℕ) (held wanted : Pair) (on : Resource) → is_answer error (replies.TimedOut holder held wanted on) ≡ false → IsOther error (pos lock_timeout)
timed_other Deadlock holder held wanted on unsaid = differs (pos 1222) (pos 1205) refl
timed_other LockTimeout holder held wanted on unsaid = absurd (let no : true ≡ false = unsaid in cc)

pub memory_none : (error : LockError) → is_answer error replies.Memory ≡ false
memory_none Deadlock = refl
memory_none LockTimeout = refl

-- an error of a lock, as it is looked for
abbrev pub lock_watch : LockError → Watch
lock_watch error = record {
  Other = IsOther error;
  Goes = λ status. Unit {0};
  Says = λ reply. is_answer error reply ≡ false;
  May = λ enough. Unit {0};
  Fine = λ P tree. Unit {0};
  At = λ P left p look. Unit {0};
  usual = lock_usual error;
  wants = λ may. lock_other error (pos 701) refl refl;
  lacks = λ may. memory_none error;
  memory = λ says. lock_other error (pos 701) refl refl;
  missing = λ says. lock_other error (pos 701) refl refl;
  victim = victim_other error;
  timed = timed_other error;
  more = tt;
  counted = tt;
  failed = tt;
  spent = λ P left p look at none. lock_other error (pos 49001) refl refl;
  none_left = λ P p look at. lock_other error (pos 49001) refl refl;
  fewer = λ P left p look at. tt;
  full = λ P left p tokens go same fine at. lock_other error (pos 49002) refl refl;
  many = λ P around shapes query left p look is fails fine at. lock_other error (pos 49002) refl refl;
  fine_over = λ P a holds. tt;
  fine_reads = λ P left look each. tt;
  fine_makes = λ P step next so fine. tt;
  fine_defines = λ P entry go each. tt;
  fine_asks = λ P op go each. tt;
  fine_room = λ P go each. tt;
  fine_never = λ P. tt;
  behind = λ P Q left p look go fine at. tt;
}

-- ---- as the law says it

module _ (error : LockError) where
  pub told_none : (tokens : List Token) → AllByRecursion (TellsBy (lock_watch error)) tokens → TellsNone error tokens
  told_none [] all = tt
  told_none (token ∷ tokens) all = (by_token token all.0, told_none tokens all.1)
    where
      by_token : (token : Token) → TellsBy (lock_watch error) token → TellsOther error token
      by_token (Error told) other = other
      by_token token other = tt

  pub leaves_other : (exit : Exit) → LeavesBy (lock_watch error) exit → LeavesOther error exit
  leaves_other (Raise raised) other = other
  leaves_other (RaiseUp raised) other = other
  leaves_other exit other = tt

  pub caught_other : (caught : Option Raised) → CaughtOther error caught → CaughtBy (lock_watch error) caught
  caught_other None other = tt
  caught_other (Some raised) other = other
