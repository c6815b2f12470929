-- Transact-SQL reference, "CREATE TRIGGER" (AFTER triggers): what becomes of a write, and of the transaction in which it worked, by how its triggers end. Here
-- nothing is run.
use Rattle.std.specs.Prelude.{ℕ, ◌==◌, Bool, true, false, if◌then◌else◌, Result, Ok, Err}
use Rattle.std.specs.List.{list_any}
use Rattle.step_model.specs.declared.op.Op.TheVariants as ops
use Rattle.txn_rules.specs.State.{is_closed}
use Rattle.batch_meaning.specs.declared.exit.Exit.{Exit}
use Rattle.batch_meaning.specs.declared.exit.Exit.TheVariants.{Raise, RaiseUp, End}
use Rattle.batch_meaning.specs.declared.home.Home.{Home}
use Rattle.batch_meaning.specs.declared.home.Home.TheVariants.{Nowhere, Open, Own}
use Rattle.batch_meaning.specs.declared.settings.Settings.{Settings}
use Rattle.batch_meaning.specs.declared.stop.Stop.{Stop}
use Rattle.batch_meaning.specs.declared.stop.Stop.TheVariants.{Failed, Left}
use Rattle.batch_meaning.specs.Failures.{plain}
use Rattle.batch_meaning.specs.Progress.{SessionProgress, fired_from}
use Rattle.batch_meaning.specs.Doing.{Doing, over, reads, makes, asks, ◌then◌}
use Rattle.batch_meaning.specs.Asking.{where_done}
use Rattle.batch_meaning.specs.Working.{closes, leaves}

-- ---- the numbers of its errors

-- a trigger has ended the transaction, or doomed it
abbrev pub ended_in_trigger : ℕ
ended_in_trigger = 3609

abbrev pub doomed_in_trigger : ℕ
doomed_in_trigger = 3616

-- in a trigger XACT_ABORT is ON at first
abbrev pub in_trigger : Settings → Settings
in_trigger settings = record settings { xact_abort = true }

-- ---- how one trigger ends

-- whether the next one comes; else why not
abbrev pub trigger_end : Exit → SessionProgress → Result (Unit {0}) Stop
trigger_end (Raise raised) p = Err (Left (Raise raised))
trigger_end (RaiseUp raised) p = Err (Left (Raise raised))
trigger_end End p = Err (Left End)
trigger_end exit p = if is_closed p.txn then Err (Failed (plain ended_in_trigger))
    else if p.txn.doomed then Err (Failed (plain doomed_in_trigger))
    else Ok tt

-- ---- how the statement ends behind them

-- its mark is not one that its triggers went back behind
abbrev pub has_mark : ℕ → SessionProgress → Bool
has_mark mark p = list_any (λ savepoint. savepoint.mark == mark) p.txn.saves

unfoldable pub relaxes_then : Doing (Unit {0}) → Doing (Unit {0})
relaxes_then next = asks ops.Relax (where_done next)

-- its own transaction ends, by whether it succeeded
abbrev pub closes_own : Home → Bool → Doing (Unit {0})
closes_own Own succeeded = closes succeeded
closes_own Open succeeded = over tt
closes_own Nowhere succeeded = over tt

-- it is undone, if its mark is there
abbrev pub undone_to : ℕ → Bool → Doing (Unit {0}) → Doing (Unit {0})
undone_to mark true next = asks (ops.BackTo mark) (where_done next)
undone_to mark false next = next

-- by whether it succeeded, in its transaction, which stands
abbrev pub settles : Home → ℕ → Bool → SessionProgress → Doing (Unit {0})
settles home mark true p = leaves home true
settles home mark false p = undone_to mark (has_mark mark p) (relaxes_then (closes_own home false))

-- Where its triggers have ended the transaction in which it worked, it asks nothing more: another that they have begun stays open.
unfoldable pub leaves_fired : Home → ℕ → Bool → Bool → Doing (Unit {0})
leaves_fired home mark stood succeeded = reads λ p.
    (if p.stands then settles home mark succeeded p else over tt) then λ done. makes (fired_from mark stood) (over tt)
