-- Transact-SQL reference, "DECLARE CURSOR", "OPEN", "FETCH", "CLOSE" and "DEALLOCATE": what the statements on cursors ask, and what comes
-- of them. A cursor is static: its rows are those that its select answers when it is opened. It belongs to the session, and stays until
-- it is deallocated, whichever batches and transactions end.
use Rattle.std.specs.Prelude.{◌==◌, ℕ, pos, negsuc, if◌then◌else◌, List, [], length, map, Option, Some, None, Result, Ok, Err}
use Rattle.value_types.specs.declared.sql_type.SqlType.{SqlType}
use Rattle.value_types.specs.declared.value.Value.{Value}
use Rattle.tsql_tree.specs.declared.definition.TableTree.{TableTree}
use Rattle.tsql_tree.specs.declared.query.Select.{Select}
use Rattle.tsql_tree.specs.declared.statement.Form.{Form-F, roll-Form}
use Rattle.tsql_tree.specs.declared.statement.Statement.{Statement, out-Statement, roll-Statement}
use Rattle.bound_tree.specs.declared.query.BoundQuery.{BoundQuery, out-BoundQuery}
use Rattle.bound_tree.specs.declared.write.Bound.{Bound}
use Rattle.bound_tree.specs.declared.write.Bound.TheVariants as bound
use Rattle.session_cursors.specs.declared.fault.CursorFault.{CursorFault}
use Rattle.session_cursors.specs.declared.fault.CursorFault.TheVariants.{NoSuch, Present, AlreadyFilled, NotFilled, Memory}
use Rattle.session_cursors.specs.Cursors.{close_answer, declare_answer, fill_answer, kinds_of as kinds_left, next_of, query_of, remove_answer}
use Rattle.batch_meaning.specs.declared.failure.Failure.{Failure}
use Rattle.batch_meaning.specs.Raised.{Around}
use Rattle.batch_meaning.specs.Progress.{SessionProgress, declares, fetches, fills, removes, shuts, tells_fetch}
use Rattle.batch_meaning.specs.Doing.{Doing, over, makes}
use Rattle.batch_meaning.specs.Values.{Assigned, assigned_to, outside_limits}
use Rattle.batch_meaning.specs.Selecting.{Effect, no_effect}
use Rattle.batch_meaning.specs.Asking.{◌>>=◌, fails, fails_naming, with_room}
use Rattle.batch_meaning.specs.Working.{answers, within}
use Rattle.batch_meaning.specs.Transactions.{bound_first}

-- ---- the numbers of its errors

abbrev pub already_open : ℕ
already_open = 16905

abbrev pub already_there : ℕ
already_there = 16915

abbrev pub no_such_cursor : ℕ
no_such_cursor = 16916

abbrev pub not_open : ℕ
not_open = 16917

-- a FETCH into another count of variables than the cursor has columns
abbrev pub other_count : ℕ
other_count = 49012

-- a cursor that is there already, or isn't, is named
abbrev pub fails_for_cursor : {A : Type 0} → List ℕ → CursorFault → Doing (Result A Failure)
fails_for_cursor name Present = fails_naming already_there name
fails_for_cursor name NoSuch = fails_naming no_such_cursor name
fails_for_cursor name AlreadyFilled = fails already_open
fails_for_cursor name NotFilled = fails not_open
fails_for_cursor name Memory = fails 701

-- by what is answered of the cursor of this name
abbrev pub answered : {A B : Type 0} → List ℕ → (A → Doing (Result B Failure)) → Result A CursorFault → Doing (Result B Failure)
answered name go (Ok a) = go a
answered name go (Err fault) = fails_for_cursor name fault

-- ---- DECLARE: its select is kept, and nothing is looked up

unfoldable pub declares_cursor : Statement → List ℕ → Select → Doing (Result Effect Failure)
declares_cursor statement name select = bound_first statement λ p.
    answered name (λ done. makes (declares name select) (over (Ok no_effect))) (declare_answer name p.cursors)

-- ---- OPEN: its select is looked up, bound and answered, with the variables as they are then

-- a select as a statement, at the line of this one
abbrev pub select_statement : Statement → Select → Statement
select_statement statement select = roll-Statement (record { line = (out-Statement statement).line; form = roll-Form (Form-F.Select select) })

-- the types of an answer's columns
abbrev pub kinds_of : BoundQuery → List SqlType
kinds_of query = map (λ item. item.kind) (out-BoundQuery query).items

module _ (around : Around) where
  unfoldable pub fills_with : List ℕ → List TableTree → BoundQuery → Doing (Result Effect Failure)
  fills_with name shapes query = do
    rows ← answers around shapes query
    with_room (makes (fills name (kinds_of query) rows) (over (Ok no_effect)))

  -- a select that assigns variables is none of a cursor
  abbrev pub opens_bound : List ℕ → List TableTree → Bound → Doing (Result Effect Failure)
  opens_bound name shapes (bound.Query query) = fills_with name shapes query
  opens_bound name shapes (bound.Assign query places) = fails outside_limits
  opens_bound name shapes (bound.Write write) = fails outside_limits
  opens_bound name shapes bound.Plain = fails outside_limits

  -- one that is open already is not answered again
  abbrev pub opens_kept : Statement → List ℕ → SessionProgress → Select → Doing (Result Effect Failure)
  opens_kept statement name p select = answered name (λ done. within around (select_statement statement select) (opens_bound name)) (fill_answer name p.cursors)

  unfoldable pub opens_cursor : Statement → List ℕ → Doing (Result Effect Failure)
  opens_cursor statement name = bound_first statement λ p. answered name (opens_kept statement name p) (query_of name p.cursors)

-- ---- FETCH: the next row, whose values are assigned to variables, in turn

-- a row that is fetched: where a value of it can't be assigned, all variables and @@FETCH_STATUS are left
abbrev pub assigns_row : Result (List Assigned) Failure → Doing (Result Effect Failure)
assigns_row (Ok sets) = makes (tells_fetch (pos 0)) (over (Ok (record { sets = sets; rows = 1; tokens = [] })))
assigns_row (Err failure) = over (Err failure)

-- Behind the last row @@FETCH_STATUS is -1, and the variables are left. Where memory is wanting for what a row assigns, it is the next as before.
abbrev pub fetches_row : SessionProgress → List ℕ → List (List ℕ) → Option (List Value) → Doing (Result Effect Failure)
fetches_row p name variables None = makes (tells_fetch (negsuc 0)) (over (Ok no_effect))
fetches_row p name variables (Some row) = with_room (makes (fetches name) (assigns_row (assigned_to p.vars variables row)))

abbrev pub fetches_into : SessionProgress → List ℕ → List (List ℕ) → List SqlType → Doing (Result Effect Failure)
fetches_into p name variables kinds = if length variables == length kinds
    then answered name (fetches_row p name variables) (next_of name p.cursors)
    else fails other_count

unfoldable pub fetches_cursor : Statement → List ℕ → List (List ℕ) → Doing (Result Effect Failure)
fetches_cursor statement name variables = bound_first statement λ p. answered name (fetches_into p name variables) (kinds_left name p.cursors)

-- ---- CLOSE and DEALLOCATE

unfoldable pub closes_cursor : Statement → List ℕ → Doing (Result Effect Failure)
closes_cursor statement name = bound_first statement λ p. answered name (λ done. makes (shuts name) (over (Ok no_effect))) (close_answer name p.cursors)

unfoldable pub removes_cursor : Statement → List ℕ → Doing (Result Effect Failure)
removes_cursor statement name = bound_first statement λ p. answered name (λ done. makes (removes name) (over (Ok no_effect))) (remove_answer name p.cursors)
