-- Own: how far a session has come, and the named steps and the exchanges by which alone that changes. The
-- code has it as a struct, with a method for each step.
use Rattle.std.specs.Prelude.{◌≡◌, ℕ, ℤ, pos, ◌-◌, ◌&&◌, ◌||◌, Bool, true, false, IsTrue, List, [], ◌∷◌, ◌++◌, length, map, filter, min, Option, if◌then◌else◌, ◌==◌, not, Some, None, slice_get, slice_set}
use Rattle.std.specs.List.{All}
use Rattle.std.specs.List.{list_any}
use Rattle.tsql_tree.specs.declared.query.Select.{Select}
use Rattle.value_types.specs.declared.sql_type.SqlType.{SqlType}
use Rattle.value_types.specs.declared.value.Value.{Value}
use Rattle.value_types.specs.declared.value.Value.TheVariants.{Whole}
use Rattle.session_cursors.specs.declared.cursor.Cursor.{Cursor}
use Rattle.session_cursors.specs.Cursors.{declared, filled, fetched, closed, removed}
use Rattle.session_vars.specs.declared.Variable.{Variable}
use Rattle.step_model.specs.declared.op.Op.{Op}
use Rattle.step_model.specs.declared.op.Op.TheVariants.{Begin, Fetch, Insert, Replace, Erase, Mark, BackTo, Relax, Commit, Rollback}
use Rattle.step_model.specs.declared.reply.Reply.{Reply}
use Rattle.step_model.specs.declared.reply.Reply.TheVariants.{Done, Ended}
use Rattle.step_model.specs.Exchange.{Exchange, IsPriority}
use Rattle.step_model.specs.Port.{PortPast, standing_after}
use Rattle.txn_rules.specs.declared.savepoints.Savepoint.{Savepoint}
use Rattle.txn_rules.specs.declared.state.TxnState.{TxnState}
use Rattle.txn_rules.specs.State.{no_transaction, after_begin, after_commit, after_cut, after_end, after_fire, after_fired, after_save, is_closed, xact_state}
use Rattle.tds_tokens.specs.declared.token.Token.{Token}
use Rattle.tds_tokens.specs.Spelling.{TokenBytes}
use Rattle.batch_meaning.specs.declared.settings.Settings.{Settings}
use Rattle.batch_meaning.specs.Raised.{Around, error_values}
use Rattle.batch_meaning.specs.Settings.{first_settings}

-- how far a session has come
pub record SessionProgress : Type 0 where
  -- what the batch that runs has sent
  pub tokens : List Token
  -- how many bytes it may still send
  pub bytes_left : ℕ
  -- how many statements it may still begin
  pub statements_left : ℕ
  -- its variables
  pub vars : List Variable
  -- @@ROWCOUNT and @@ERROR
  pub row_count : ℕ
  pub error : ℤ
  -- @@FETCH_STATUS
  pub fetch_status : ℤ
  -- its cursors, each with its select
  pub cursors : List (Cursor Select)
  -- what SET has set
  pub settings : Settings
  -- BEGIN TRANSACTION and what belongs to it
  pub txn : TxnState
  -- whether a transaction is open at the port, and whether that is a statement's own, whose triggers run
  pub is_open : Bool
  pub is_own : Bool
  -- whether the transaction in which a statement worked whose triggers run still stands
  pub stands : Bool
  -- whether something was fetched or written since that began, or since its last Relax
  pub touched : Bool

-- before its first batch
abbrev pub first_progress : SessionProgress
first_progress = record {
  tokens = [];
  bytes_left = 0;
  statements_left = 0;
  vars = [];
  row_count = 0;
  error = pos 0;
  fetch_status = pos 0;
  cursors = [];
  settings = first_settings;
  txn = no_transaction;
  is_open = false;
  is_own = false;
  stands = false;
  touched = false;
}

-- ---- steps

-- A batch begins, with its variables; a statement of it begins; it asks what its end has to relax; it sends tokens; @@ROWCOUNT and @@ERROR
-- are set; the variable at a place is assigned; SET sets; a transaction is begun, counted, given up or named in a savepoint; a cursor is
-- declared, filled, fetched from, closed or removed, and @@FETCH_STATUS is set; the variables of a procedure or trigger come, or those around it come
-- back; the triggers of a statement with this mark begin to run, or have run, where the transaction around stood or didn't.
pub data SessionStep : Type 0 where
  begins : List Variable → SessionStep
  counts : SessionStep
  touches : SessionStep
  sends : List Token → SessionStep
  tells_rows : ℕ → SessionStep
  tells_error : ℤ → SessionStep
  assigns : ℕ → Value → SessionStep
  sets : Settings → SessionStep
  opens : Option (List ℕ) → SessionStep
  closes_one : SessionStep
  saves : List ℕ → ℕ → SessionStep
  dooms : SessionStep
  declares : List ℕ → Select → SessionStep
  fills : List ℕ → List SqlType → List (List Value) → SessionStep
  fetches : List ℕ → SessionStep
  shuts : List ℕ → SessionStep
  removes : List ℕ → SessionStep
  tells_fetch : ℤ → SessionStep
  stands_with : List Variable → SessionStep
  fires_from : ℕ → SessionStep
  fired_from : ℕ → Bool → SessionStep

-- how many statements a batch may begin
abbrev pub statement_limit : ℕ
statement_limit = 1000000

-- how many bytes the tokens of a batch may have
abbrev pub batch_limit : ℕ
batch_limit = 134217728

-- of these, its own end has so many: it is one DONE, and always sent
abbrev pub end_size : ℕ
end_size = 13

-- how many bytes tokens have
abbrev pub size_of : List Token → ℕ
size_of tokens = length (TokenBytes tokens)

-- @@ROWCOUNT is an INT
abbrev pub greatest_count : ℕ
greatest_count = 2147483647

-- a variable with this value
abbrev pub with_value : Value → Variable → Variable
with_value value variable = record variable { value = value }

abbrev pub set_at : ℕ → Value → Option Variable → List Variable → List Variable
set_at place value None vars = vars
set_at place value (Some variable) vars = slice_set vars place (with_value value variable)

abbrev pub assigned : ℕ → Value → List Variable → List Variable
assigned place value vars = set_at place value (slice_get vars place) vars

-- a transaction that is open can only be rolled back from then on
abbrev pub after_doom : TxnState → TxnState
after_doom txn = if is_closed txn then txn else record txn { doomed = true }

-- the progress after a step
abbrev pub made : SessionStep → SessionProgress → SessionProgress
made (begins vars) p = record p { tokens = []; bytes_left = batch_limit - end_size; statements_left = statement_limit; vars = vars }
made counts p = record p { statements_left = p.statements_left - 1 }
made touches p = record p { touched = true }
made (sends tokens) p = record p { tokens = p.tokens ++ tokens; bytes_left = p.bytes_left - size_of tokens }
made (tells_rows rows) p = record p { row_count = min rows greatest_count }
made (tells_error number) p = record p { error = number }
made (assigns place value) p = record p { vars = assigned place value p.vars }
made (sets settings) p = record p { settings = settings }
made (opens name) p = record p { txn = after_begin name p.txn }
made closes_one p = record p { txn = after_commit p.txn }
made (saves name mark) p = record p { txn = after_save name mark p.txn }
made dooms p = record p { txn = after_doom p.txn }
made (declares name select) p = record p { cursors = declared name select p.cursors }
made (fills name kinds rows) p = record p { cursors = filled name kinds rows p.cursors }
made (fetches name) p = record p { cursors = fetched name p.cursors }
made (shuts name) p = record p { cursors = closed name p.cursors }
made (removes name) p = record p { cursors = removed name p.cursors }
made (tells_fetch status) p = record p { fetch_status = status }
made (stands_with vars) p = record p { vars = vars }
made (fires_from mark) p = record p { txn = after_fire mark p.txn; is_own = p.is_own || is_closed p.txn; stands = true }
made (fired_from mark stood) p = record p { txn = if p.stands then after_fired mark p.txn else p.txn; stands = stood && p.stands }

-- ---- exchanges

-- whether a transaction is open then, by the rule of the port
abbrev pub is_open_after : Bool → Op → Reply → Bool
is_open_after before op reply = (standing_after (record { is_open = before; marks = [] }) op reply).is_open

-- whether something was fetched or written since the last Relax, or the transaction's begin
abbrev pub touched_after : Bool → Op → Bool
touched_after before Begin = false
touched_after before (Fetch table start stop hold part) = true
touched_after before (Insert table key row) = true
touched_after before (Replace table key row) = true
touched_after before (Erase table key) = true
touched_after before Mark = before
touched_after before (BackTo mark) = before
touched_after before Relax = false
touched_after before Commit = false
touched_after before Rollback = false

-- what an exchange makes of BEGIN TRANSACTION's state: the transaction's end ends it, a return to a mark drops the savepoints behind that
abbrev pub txn_after : TxnState → Op → Reply → TxnState
txn_after txn op (Ended place) = after_end txn
txn_after txn (BackTo mark) Done = after_cut mark txn
txn_after txn op reply = txn

-- the end of a transaction is that of a statement's own, and it stands no more
abbrev pub unless_ended : Bool → Reply → Bool
unless_ended before (Ended place) = false
unless_ended before reply = before

-- the progress after one operation was asked and replied so
abbrev pub asked : Op → Reply → SessionProgress → SessionProgress
asked op reply p = record p {
  is_open = is_open_after p.is_open op reply;
  is_own = unless_ended p.is_own reply;
  stands = unless_ended p.stands reply;
  touched = touched_after p.touched op;
  txn = txn_after p.txn op reply;
}

-- the progress after these exchanges
abbrev pub asked_all : List Exchange → SessionProgress → SessionProgress
asked_all [] p = p
asked_all (x ∷ later) p = asked_all later (asked x.op x.reply p)

-- ---- what expressions read

abbrev pub values_of : List Variable → List Value
values_of vars = map (λ variable. variable.value) vars

-- @@TRANCOUNT, @@ERROR, @@ROWCOUNT, @@FETCH_STATUS, XACT_STATE(), and the values of the error of the CATCH around
abbrev pub system_in : Around → SessionProgress → List Value
system_in around p =
    Whole (pos p.txn.count) ∷ Whole p.error ∷ Whole (pos p.row_count) ∷ Whole p.fetch_status ∷ Whole (xact_state p.txn) ∷ error_values around.caught

-- ---- the port

-- the marks of the savepoints are live at the port
abbrev pub AreLive : List Savepoint → List ℕ → Type 0
AreLive points marks = All (λ savepoint. IsTrue (list_any (λ live. live == savepoint.mark) marks)) points

-- session and port agree on what is open, and the session may ask
pub record Ready (p : SessionProgress) (past : PortPast) : Type 0 where
  pub agree : p.is_open ≡ past.standing.is_open
  pub live : AreLive p.txn.saves past.standing.marks
  pub priority : IsPriority p.settings.manner.priority
  -- what BEGIN TRANSACTION has opened is open at the port; a statement's own transaction may be, too
  pub counted : is_closed p.txn ≡ false → p.is_open ≡ true
  -- where it has opened none, there are no savepoints
  pub idle : is_closed p.txn ≡ true → p.txn.saves ≡ []

-- between two statements nothing else is
abbrev pub IsSettled : SessionProgress → Type 0
IsSettled p = p.is_open ≡ not (is_closed p.txn)
