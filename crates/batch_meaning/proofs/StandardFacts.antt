-- Batches of known statements: what they send. What is computed here is the meaning itself, on worked rows.
use Rattle.std.proofs.Common.{◌≡◌, ℕ, ◌-◌, if◌then◌else◌, is_some, Bool, true, false, List, [], ◌∷◌, None, Some, Ok, Err, pos, refl}
use Rattle.std.specs.Prelude.{codes}
use Rattle.value_types.specs.declared.sql_type.SqlType.TheVariants.{Int, TinyInt}
use Rattle.value_types.specs.declared.value.Value.TheVariants.{Null, Whole}
use Rattle.session_vars.specs.declared.Variable.{Variable}
use Rattle.session_vars.specs.Variables.{fresh}
use Rattle.error_table.specs.Act.{base_caught}
use Rattle.error_table.specs.Table as table
use Rattle.error_table.specs.declared.action.Action.TheVariants as action
use Rattle.tds_tokens.specs.Spelling.{tokens_bytes}
use Rattle.tds_tokens.specs.declared.token.DoneKind.TheVariants.{Done, InProc, Proc}
use Rattle.tds_tokens.specs.declared.token.Token.{Token}
use Rattle.tds_tokens.specs.declared.token.Token.TheVariants.{Error, Columns, Row, Finished, ReturnStatus}
use Rattle.tsql_tree.specs.declared.definition.Definition.{Definition}
use Rattle.tsql_tree.specs.declared.definition.Definition.TheVariants as definition
use Rattle.tsql_tree.specs.declared.definition.Event.TheVariants as event
use Rattle.tsql_tree.specs.declared.definition.ProcedureTree.{ProcedureTree}
use Rattle.tsql_tree.specs.declared.definition.TableTree.{TableTree}
use Rattle.tsql_tree.specs.declared.statement.Argument.{Argument}
use Rattle.tsql_tree.specs.declared.statement.ArgumentValue.TheVariants as given
use Rattle.tsql_tree.specs.declared.statement.DropKind.TheVariants as drop
use Rattle.tsql_tree.specs.declared.statement.Form.{Form-F, roll-Form}
use Rattle.tsql_tree.specs.declared.statement.Statement.{Statement, roll-Statement}
use Rattle.bound_tree.specs.declared.write.BoundWrite.TheVariants as write
use Rattle.table_rows.specs.Rows.{rows_table}
use Rattle.step_model.specs.declared.change.Deed.TheVariants.{Insert, Replace, Erase}
use Rattle.step_model.specs.declared.change.Planned.{Planned}
use Rattle.step_model.specs.declared.op.Op.{Op}
use Rattle.step_model.specs.declared.op.Op.TheVariants as ops
use Rattle.step_model.specs.declared.reply.Reply.{Reply}
use Rattle.step_model.specs.declared.reply.Reply.TheVariants as replies
use Rattle.step_model.specs.Exchange.{Exchange}
use Rattle.txn_rules.specs.declared.savepoints.Savepoint.{Savepoint}
use Rattle.txn_rules.specs.State.{no_transaction}
use Rattle.binder.specs.Names.{Layer}
use Rattle.batch_meaning.specs.declared.exit.Exit.TheVariants as exit
use Rattle.batch_meaning.specs.declared.home.Home.TheVariants.{Open, Own}
use Rattle.batch_meaning.specs.declared.raised.Raised.{Raised}
use Rattle.batch_meaning.specs.declared.stop.Stop.TheVariants.{Failed, Left}
use Rattle.batch_meaning.specs.declared.form.ReadText.TheVariants as text
use Rattle.batch_meaning.specs.Raised.{Around, Fired, action_in, around_batch, error_token, in_body, in_try, is_caught_in, raised_at, raised_in}
use Rattle.batch_meaning.specs.Failures.{plain}
use Rattle.batch_meaning.specs.Settings.{first_manner, first_settings}
use Rattle.batch_meaning.specs.Tokens.{batch_done, done_kind, result_tokens}
use Rattle.batch_meaning.specs.Changing.{definition_erased, is_referred, told_by, with_definitions}
use Rattle.batch_meaning.specs.Values.{rows_assigned}
use Rattle.batch_meaning.specs.Progress.{SessionProgress, batch_limit, end_size, first_progress, size_of}
use Rattle.batch_meaning.specs.Doing.{◌then◌, Held, over}
use Rattle.batch_meaning.specs.Working.{asks_any, closes, given_in, known_in, leaves, relaxes}
use Rattle.batch_meaning.specs.Unseen.{is_unseen}
use Rattle.batch_meaning.specs.Calls.{Call, call_vars, given_back}
use Rattle.batch_meaning.specs.Firing.{leaves_fired, relaxes_then, trigger_end}
use Rattle.batch_meaning.specs.Meaning.{Meaning, batch, each_of, ends, is_even, raises_at, returns_from, told_tokens, tries, uneven_tokens, way_of}

-- behind the first batch, which has sent these tokens
abbrev behind_one : List Token → SessionProgress
behind_one tokens = record first_progress { tokens = tokens; bytes_left = batch_limit - end_size - size_of tokens; statements_left = 1000000 }

-- ---- a batch's end

-- it has the bytes that are kept for it
end_bytes : (failed : Bool) → size_of (batch_done failed ∷ []) ≡ end_size
unfolding tokens_bytes
end_bytes true = refl
end_bytes false = refl

-- ---- an empty batch, and texts that do not run

-- a batch without statements has its DONE alone
empty_held : Held (batch (text.Statements [])) first_progress [] tt (behind_one (Finished Done 0 0 0 ∷ []))
unfolding Held ◌then◌ batch each_of ends tokens_bytes
empty_held = (refl, refl, refl)

-- a text that is refused: ERROR of class 15 at its line, and DONE with DONE_ERROR
refused_held : Held (batch (text.Refused (pos 2) 102 (codes "FROM"))) first_progress [] tt
    (behind_one (Error (record { number = pos 102; state = 1; class = 15; text = codes "Incorrect syntax near 'FROM'."; procedure = []; line = pos 2 }) ∷ Finished Done 2 0 0 ∷ []))
unfolding Held ◌then◌ batch ends tokens_bytes table.row_of table.error_lines
refused_held = (refl, refl, refl)

-- ---- results, and rows that are told

-- SELECT 1 sends a column, a row and its DONE; under NOCOUNT that tells no count
select_result : result_tokens Done false (record { kind = Int; name = [] } ∷ []) ((Whole (pos 1) ∷ []) ∷ [])
    ≡ Columns (record { kind = Int; name = [] } ∷ []) ∷ Row (Whole (pos 1) ∷ []) ∷ Finished Done 0x11 0xC1 1 ∷ []
select_result = refl

select_no_count : result_tokens Done true (record { kind = Int; name = [] } ∷ []) ((Whole (pos 1) ∷ []) ∷ [])
    ≡ Columns (record { kind = Int; name = [] } ∷ []) ∷ Row (Whole (pos 1) ∷ []) ∷ Finished Done 0x01 0xC1 0 ∷ []
select_no_count = refl

abbrev t : List ℕ
t = codes "t"

abbrev put : Planned
put = record { table = rows_table t; key = Whole (pos 2) ∷ []; deed = Insert (Whole (pos 2) ∷ []) }

abbrev replaced : Planned
replaced = record { table = rows_table t; key = Whole (pos 3) ∷ []; deed = Replace (Whole (pos 3) ∷ []) }

abbrev gone : Planned
gone = record { table = rows_table t; key = Whole (pos 1) ∷ []; deed = Erase }

-- an UPDATE that moves one row and replaces another means two
two_put : (told_by Done false (write.Update (rows_table t) [] None []) (gone ∷ put ∷ replaced ∷ [])).tokens ≡ Finished Done 0x11 0xC5 2 ∷ []
two_put = refl

-- ---- DROP TABLE

-- CREATE TABLE name (k INT NOT NULL PRIMARY KEY REFERENCES parent)
abbrev child_of : List ℕ → List ℕ → TableTree
child_of name parent = record {
  name = name;
  columns = record { name = codes "k"; kind = Int; required = true } ∷ [];
  key = record { name = codes "PK"; columns = codes "k" ∷ [] } ∷ [];
  uniques = [];
  checks = [];
  foreigns = record { name = codes "FK"; columns = codes "k" ∷ []; parent = parent; parent_columns = [] } ∷ [];
}

-- another table refers to it
parent_kept : is_referred t (child_of (codes "u") t ∷ []) ≡ true
parent_kept = refl

-- it refers to itself alone
own_parent : is_referred t (child_of t t ∷ child_of (codes "u") (codes "w") ∷ []) ≡ false
own_parent = refl

-- ---- variables

-- SELECT @v = k over 1 and 300, for a TINYINT: the first row's value stays, and 300 is 220
abbrev small : Variable
small = fresh (codes "@v") TinyInt

second_fails : rows_assigned (small ∷ []) (0 ∷ []) [] ((Whole (pos 1) ∷ []) ∷ (Whole (pos 300) ∷ []) ∷ []) ≡ ((0, Whole (pos 1)) ∷ [], Some (plain 220))
second_fails = refl

-- ---- errors

-- what ends where no TRY stands around: a duplicate key its statement, with XACT_ABORT ON its batch and transaction too
duplicate : action_in around_batch false (raised_at (pos 1) (plain 2627)) ≡ action.Statement
unfolding table.row_of table.error_lines
duplicate = refl

duplicate_aborts : action_in around_batch true (raised_at (pos 1) (plain 2627)) ≡ action.BatchAndTransaction
unfolding table.row_of table.error_lines
duplicate_aborts = refl

-- in a TRY a text that is no number dooms, and a division by zero does not
text_dooms : action_in (in_try around_batch) false (raised_at (pos 1) (plain 245)) ≡ action.Doom
unfolding table.row_of table.error_lines
text_dooms = refl

division_stays : action_in (in_try around_batch) false (raised_at (pos 1) (plain 8134)) ≡ action.Statement
unfolding table.row_of table.error_lines
division_stays = refl

-- a TRY catches a duplicate key, but no error of binding of its own batch, and not the limit of statements
caught_key : is_caught_in (in_try around_batch) (raised_at (pos 1) (plain 2627)) ≡ true
unfolding table.row_of table.error_lines
caught_key = refl

uncaught_name : is_caught_in (in_try around_batch) (raised_at (pos 1) (plain 208)) ≡ false
unfolding table.row_of table.error_lines
uncaught_name = refl

uncaught_limit : is_caught_in (in_try around_batch) (raised_at (pos 1) (plain 49001)) ≡ false
unfolding table.row_of table.error_lines
uncaught_limit = refl

-- ---- procedures and triggers

abbrev p : List ℕ
p = codes "p"

abbrev in_p : Around
in_p = in_body p None around_batch

-- in a procedure DONEINPROC stands for DONE
kind_in_batch : done_kind around_batch ≡ Done
kind_in_batch = refl

told_in_p : told_tokens (done_kind in_p) action.Statement 0xC1 (raised_in in_p.procedure (pos 3) (plain 8134))
    ≡ Error (record { number = pos 8134; state = 1; class = 16; text = codes "Divide by zero error encountered."; procedure = p; line = pos 3 }) ∷ Finished InProc 3 0xC1 0 ∷ []
unfolding table.row_of table.error_lines
told_in_p = refl

-- an error of names is caught by no TRY of its own procedure, but by one around the call; it leaves the procedure first
abbrev unknown_in_p : Raised
unknown_in_p = raised_in p (pos 1) (plain 208)

own_try_lets_go : is_caught_in (in_try in_p) unknown_in_p ≡ false
unfolding table.row_of table.error_lines
own_try_lets_go = refl

outer_try_catches : is_caught_in (in_try (in_body p None (in_try around_batch))) unknown_in_p ≡ true
unfolding table.row_of table.error_lines
outer_try_catches = refl

-- a division by zero there
abbrev zero_in_p : Raised
zero_in_p = raised_in p (pos 1) (plain 8134)

leaves_first : way_of (base_caught unknown_in_p.number unknown_in_p.by) unknown_in_p ≡ exit.RaiseUp unknown_in_p
unfolding table.row_of table.error_lines
leaves_first = refl

-- a statement of which each is this, and one whose meaning is that error where it stands, and that it is done elsewhere
abbrev some : Statement
some = roll-Statement (record { line = 1; form = roll-Form Form-F.Break })

abbrev fails_once : Raised → Statement → Meaning
fails_once raised statement around = if is_some around.caught then over exit.Leave else raises_at around (pos 1) 0 raised

-- the error of names goes past the TRY of its own procedure; a division by zero goes to its CATCH
past_own_try : Held (tries (fails_once unknown_in_p) (in_body p None (in_try around_batch)) (some ∷ []) (some ∷ [])) first_progress [] (exit.RaiseUp unknown_in_p) (record first_progress { error = pos 208 })
unfolding Held ◌then◌ tries each_of raises_at table.row_of table.error_lines
past_own_try = (refl, refl, refl)

to_own_catch : Held (tries (fails_once zero_in_p) (in_body p None (in_try around_batch)) (some ∷ []) (some ∷ [])) first_progress [] exit.Leave (record first_progress { error = pos 8134 })
unfolding Held ◌then◌ tries each_of raises_at table.row_of table.error_lines
to_own_catch = (refl, refl, refl)

-- a division by zero is caught by its own
zero_stays : way_of (base_caught (pos 8134) unknown_in_p.by) unknown_in_p ≡ exit.Raise unknown_in_p
unfolding table.row_of table.error_lines
zero_stays = refl

-- ---- a procedure that ends with another count of transactions

abbrev uneven_count : Raised
uneven_count = raised_at (pos 1) (plain 266)

-- ERROR in front of its end; that alone where it is caught; ERROR alone where it ends the batch
uneven_told : uneven_tokens false action.Statement (pos 7) uneven_count ≡ error_token uneven_count ∷ ReturnStatus (pos 7) ∷ Finished Proc 1 0 0 ∷ []
uneven_told = refl

uneven_caught : uneven_tokens true action.Statement (pos 7) uneven_count ≡ ReturnStatus (pos 7) ∷ Finished Proc 1 0 0 ∷ []
uneven_caught = refl

uneven_ends : uneven_tokens false action.BatchAndTransaction (pos 7) uneven_count ≡ error_token uneven_count ∷ []
uneven_ends = refl

uneven_statement : action_in around_batch false uneven_count ≡ action.Statement
unfolding table.row_of table.error_lines
uneven_statement = refl

uneven_aborts : action_in around_batch true uneven_count ≡ action.BatchAndTransaction
unfolding table.row_of table.error_lines
uneven_aborts = refl

uneven_dooms : action_in (in_try around_batch) true uneven_count ≡ action.Doom
unfolding table.row_of table.error_lines
uneven_dooms = refl

-- ---- what a call begins with, and what it gives back

-- CREATE PROCEDURE p @n INT OUTPUT, @m INT AS
abbrev called : ProcedureTree
called = record {
  name = p;
  parameters = record { name = codes "@n"; kind = Int; output = true } ∷ record { name = codes "@m"; kind = Int; output = false } ∷ [];
  body = [];
}

-- EXEC @s = p @m = 4, @n = @x OUTPUT
abbrev arguments : List Argument
arguments = record { name = Some (codes "@m"); value = given.Constant (Whole (pos 4)); output = false }
    ∷ record { name = Some (codes "@n"); value = given.Variable (codes "@x"); output = true } ∷ []

abbrev call : Call
call = record { procedure = called; values = Null ∷ Whole (pos 4) ∷ [] }

begins_with : call_vars call ≡ record { name = codes "@n"; kind = Int; value = Null } ∷ record { name = codes "@m"; kind = Int; value = Whole (pos 4) } ∷ []
begins_with = refl

-- a call that the error has left is left by one that the TRY around it catches
left_by_both : Held (returns_from (in_try around_batch) some None [] call 0 [] (exit.RaiseUp unknown_in_p)) first_progress [] (exit.Raise unknown_in_p) first_progress
unfolding Held
left_by_both = (refl, refl, refl)

-- the caller's variables, and the procedure's behind it
abbrev outside : List Variable
outside = fresh (codes "@s") TinyInt ∷ fresh (codes "@x") TinyInt ∷ []

abbrev inside : ℕ → List Variable
inside n = record { name = codes "@n"; kind = Int; value = Whole (pos n) } ∷ record { name = codes "@m"; kind = Int; value = Null } ∷ []

-- the status first
gives_both : given_back outside (Some (codes "@s")) arguments call (pos 7) (inside 5) ≡ Ok ((0, Whole (pos 7)) ∷ (1, Whole (pos 5)) ∷ [])
gives_both = refl

gives_value : given_back outside None arguments call (pos 7) (inside 5) ≡ Ok ((1, Whole (pos 5)) ∷ [])
gives_value = refl

-- nothing is assigned where one of them can't be converted
gives_none : given_back outside (Some (codes "@s")) arguments call (pos 7) (inside 300) ≡ Err (plain 220)
gives_none = refl

-- ---- inserted and deleted

abbrev fired : Fired
fired = record { shape = child_of t (codes "u"); deleted = []; inserted = (Whole (pos 1) ∷ []) ∷ [] }

abbrev other_form : Layer
other_form = Form-F.Break

abbrev drop_form : Layer
drop_form = Form-F.Drop drop.Table (codes "inserted")

-- where it is read, `inserted` has the columns of the trigger's table; where it is dropped, it stands for nothing; other names are looked up
read_is_known : known_in (Some fired) other_form (codes "inserted") ≡ Some (Some (definition.Table (record (child_of (codes "inserted") (codes "u")) { foreigns = [] })))
read_is_known = refl

dropped_is_nothing : known_in (Some fired) drop_form (codes "inserted") ≡ Some None
dropped_is_nothing = refl

other_is_looked_up : known_in (Some fired) other_form t ≡ None
other_is_looked_up = refl

-- outside triggers it is
outside_is_looked_up : known_in None other_form (codes "inserted") ≡ None
outside_is_looked_up = refl

rows_are_given : given_in (Some fired) (rows_table (codes "inserted")) ≡ Some ((Whole (pos 1) ∷ []) ∷ [])
rows_are_given = refl

nothing_is_asked : asks_any (known_in (Some fired) other_form) (codes "inserted" ∷ codes "deleted" ∷ codes "objects" ∷ []) ≡ false
nothing_is_asked = refl

something_is_asked : asks_any (known_in (Some fired) other_form) (codes "inserted" ∷ t ∷ []) ≡ true
something_is_asked = refl

nothing_behind : asks_any (known_in (Some fired) drop_form) (codes "inserted" ∷ t ∷ []) ≡ false
nothing_behind = refl

-- ---- DROP TABLE and its triggers

abbrev trigger_on : List ℕ → List ℕ → Definition
trigger_on table name = definition.Trigger (record { name = name; table = table; events = event.Insert ∷ []; body = [] })

drop_takes_triggers : with_definitions (trigger_on t (codes "g") ∷ trigger_on (codes "u") (codes "h") ∷ definition.Table (child_of t t) ∷ []) t (gone ∷ [])
    ≡ gone ∷ definition_erased (codes "g") ∷ definition_erased t ∷ []
drop_takes_triggers = refl

-- ---- how a trigger ends

-- while triggers run: by the count, the doom and the savepoints; whether the transaction is the statement's own, and still stands
abbrev running : ℕ → Bool → List Savepoint → Bool → Bool → SessionProgress
running count doomed saves own stands = record first_progress {
  txn = record no_transaction { count = count; doomed = doomed; saves = saves };
  is_open = true;
  is_own = own;
  stands = stands;
}

next_comes : trigger_end (exit.Return (pos 5)) (running 1 false [] true true) ≡ Ok tt
next_comes = refl

ended_is_error : trigger_end exit.On (running 0 false [] true false) ≡ Err (Failed (plain 3609))
ended_is_error = refl

doomed_is_error : trigger_end exit.On (running 1 true [] true true) ≡ Err (Failed (plain 3616))
doomed_is_error = refl

goes_up : trigger_end (exit.RaiseUp unknown_in_p) (running 1 false [] true true) ≡ Err (Left (exit.Raise unknown_in_p))
goes_up = refl

-- ---- how a write ends behind its triggers

abbrev unnamed : ℕ → Savepoint
unnamed mark = record { name = []; mark = mark }

abbrev named_a : ℕ → Savepoint
named_a mark = record { name = codes "a"; mark = mark }

abbrev exchanged : Op → Reply → Exchange
exchanged op reply = record { op = op; manner = first_manner; reply = reply }

-- one in a transaction of its own that succeeds is committed, whatever its triggers have counted
own_is_committed : Held (leaves_fired Own 1 false true) (running 2 false (unnamed 1 ∷ []) true true) (exchanged ops.Commit (replies.Ended 4) ∷ []) tt first_progress
unfolding Held ◌then◌ leaves_fired leaves relaxes closes
own_is_committed = (refl, refl, tt, (refl, refl, refl))

-- one that fails is undone and rolled back
own_is_undone : Held (leaves_fired Own 1 false false) (running 1 false (unnamed 1 ∷ named_a 2 ∷ []) true true)
    (exchanged (ops.BackTo 1) replies.Done ∷ exchanged ops.Relax replies.Done ∷ exchanged ops.Rollback (replies.Ended 4) ∷ []) tt first_progress
unfolding Held ◌then◌ leaves_fired relaxes_then closes
own_is_undone = (refl, refl, tt, (refl, refl, tt, (refl, refl, tt, (refl, refl, refl))))

-- in an open transaction nothing more is asked where it succeeds, and its mark goes
open_goes_on : Held (leaves_fired Open 2 false true) (running 1 false (named_a 1 ∷ unnamed 2 ∷ named_a 3 ∷ []) false true) [] tt (running 1 false (named_a 1 ∷ named_a 3 ∷ []) false false)
unfolding Held ◌then◌ leaves_fired leaves relaxes
open_goes_on = (refl, refl, refl)

-- where a trigger went back behind its mark it is not undone
mark_is_dead : Held (leaves_fired Open 2 false false) (running 1 false (named_a 1 ∷ []) false true) (exchanged ops.Relax replies.Done ∷ []) tt (running 1 false (named_a 1 ∷ []) false false)
unfolding Held ◌then◌ leaves_fired relaxes_then
mark_is_dead = (refl, refl, tt, (refl, refl, refl))

-- where a trigger has ended the transaction nothing is asked, and a savepoint of another one stays, also of the same mark
other_stays_open : Held (leaves_fired Own 1 false false) (running 1 false (named_a 1 ∷ []) false false) [] tt (running 1 false (named_a 1 ∷ []) false false)
unfolding Held ◌then◌ leaves_fired
other_stays_open = (refl, refl, refl)

-- ---- transactions that are begun unseen

-- a session under SET IMPLICIT_TRANSACTIONS, with a transaction open or none
abbrev implicit : Bool → SessionProgress
implicit is_open = record first_progress { is_open = is_open; settings = record first_settings { implicit = true } }

-- OPEN begins one where none is open, CLOSE none, and neither where the option is OFF
open_begins : is_unseen (implicit false) (Form-F.OpenCursor (codes "c")) ≡ true
open_begins = refl

open_goes_on_open : is_unseen (implicit true) (Form-F.OpenCursor (codes "c")) ≡ false
open_goes_on_open = refl

close_begins_none : is_unseen (implicit false) (Form-F.CloseCursor (codes "c")) ≡ false
close_begins_none = refl

option_off : is_unseen first_progress (Form-F.OpenCursor (codes "c")) ≡ false
option_off = refl

-- a call that begins with none may end with one, and one that begins with one may not end with two
ends_with_one : is_even (record (implicit true) { txn = record no_transaction { count = 1 } }) 0 ≡ true
ends_with_one = refl

ends_with_two : is_even (record (implicit true) { txn = record no_transaction { count = 2 } }) 1 ≡ false
ends_with_two = refl
