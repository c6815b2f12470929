-- Transact-SQL reference, "SET statements", "SET TRANSACTION ISOLATION LEVEL", "SET LOCK_TIMEOUT", "SET DEADLOCK_PRIORITY": what SET makes
-- of the settings of a session. What this server does not know is outside its profile.
use Rattle.std.specs.Prelude.{int_le, ℕ, ℤ, pos, negsuc, not, ◌&&◌, Bool, true, false, if◌then◌else◌, Result, Ok, Err}
use Rattle.std.specs.Ordering.{int_eq}
use Rattle.tsql_tree.specs.declared.option.FixedOption.{FixedOption}
use Rattle.tsql_tree.specs.declared.option.FixedOption.TheVariants as fixed
use Rattle.tsql_tree.specs.declared.option.IsolationLevel.{IsolationLevel}
use Rattle.tsql_tree.specs.declared.option.IsolationLevel.TheVariants as isolation
use Rattle.tsql_tree.specs.declared.option.PriorityWord.{PriorityWord}
use Rattle.tsql_tree.specs.declared.option.PriorityWord.TheVariants.{Low, Normal, High, Number}
use Rattle.tsql_tree.specs.declared.option.SessionOption.{SessionOption}
use Rattle.tsql_tree.specs.declared.option.SessionOption.TheVariants as option
use Rattle.step_model.specs.declared.manner.Manner.{Manner}
use Rattle.step_model.specs.declared.manner.Patience.TheVariants.{Forever, Refuse}
use Rattle.dml_exec.specs.declared.refusal.Level.TheVariants as level
use Rattle.batch_meaning.specs.declared.failure.Failure.{Failure}
use Rattle.batch_meaning.specs.declared.settings.Settings.{Settings}
use Rattle.batch_meaning.specs.Failures.{plain}

-- an option or an argument is outside the profile
abbrev pub outside_profile : ℕ
outside_profile = 49004

abbrev pub not_known : {A : Type 0} → Result A Failure
not_known = Err (plain outside_profile)

-- a session waits for locks, and has the deadlock priority 0, until it says otherwise
abbrev pub first_manner : Manner
first_manner = record { patience = Forever; priority = pos 0 }

-- before its first batch
abbrev pub first_settings : Settings
first_settings = record { xact_abort = false; no_count = false; implicit = false; level = level.ReadCommitted; manner = first_manner }

-- ---- each option

-- of an option that changes nothing, by whether its setting is known
abbrev pub if_known : Bool → Settings → Result Settings Failure
if_known true settings = Ok settings
if_known false settings = not_known

abbrev pub at_level : IsolationLevel → Settings → Result Settings Failure
at_level isolation.ReadCommitted settings = Ok (record settings { level = level.ReadCommitted })
at_level isolation.Serializable settings = Ok (record settings { level = level.Serializable })
at_level other settings = not_known

abbrev pub with_manner : Manner → Settings → Settings
with_manner manner settings = record settings { manner = manner }

-- 0: a lock that stands in the way refuses; -1: it is waited for
abbrev pub with_timeout : ℤ → Settings → Result Settings Failure
with_timeout number settings =
    if int_eq number (pos 0) then Ok (with_manner (record settings.manner { patience = Refuse }) settings)
    else if int_eq number (negsuc 0) then Ok (with_manner (record settings.manner { patience = Forever }) settings)
    else not_known

abbrev pub priority_of : PriorityWord → ℤ
priority_of Low = negsuc 4
priority_of Normal = pos 0
priority_of High = pos 5
priority_of (Number number) = number

abbrev pub is_priority : ℤ → Bool
is_priority number = int_le (negsuc 9) number && int_le number (pos 10)

abbrev pub with_priority : ℤ → Settings → Result Settings Failure
with_priority number settings =
    if is_priority number then Ok (with_manner (record settings.manner { priority = number }) settings) else not_known

-- the known settings of an option that changes nothing: ON; of FMTONLY and NUMERIC_ROUNDABORT OFF, which is how all is
-- answered; and both of CURSOR_CLOSE_ON_COMMIT (own: a cursor stays open in either)
abbrev pub is_setting : FixedOption → Bool → Bool
is_setting fixed.CursorCloseOnCommit is_on = true
is_setting fixed.FormatOnly is_on = not is_on
is_setting fixed.NumericRoundAbort is_on = not is_on
is_setting other is_on = is_on

-- the one day on which a week begins, which is Sunday, and the one limit of rows, which is none
abbrev pub first_of_week : ℤ
first_of_week = pos 7

abbrev pub all_rows : ℤ
all_rows = pos 0

-- the settings behind SET
abbrev pub set_option : SessionOption → Settings → Result Settings Failure
set_option (option.XactAbort is_on) settings = Ok (record settings { xact_abort = is_on })
set_option (option.NoCount is_on) settings = Ok (record settings { no_count = is_on })
set_option (option.ImplicitTransactions is_on) settings = Ok (record settings { implicit = is_on })
set_option (option.Fixed which is_on) settings = if_known (is_setting which is_on) settings
set_option (option.Isolation level) settings = at_level level settings
set_option (option.LockTimeout number) settings = with_timeout number settings
set_option (option.TextSize number) settings = Ok settings
set_option (option.DeadlockPriority word) settings = with_priority (priority_of word) settings
set_option (option.DateFirst number) settings = if_known (int_eq number first_of_week) settings
set_option (option.RowCount number) settings = if_known (int_eq number all_rows) settings
set_option (option.DateFormat known) settings = if_known known settings
set_option (option.Language known) settings = if_known known settings
