-- What the statements on cursors ask writes nothing.
use Rattle.std.proofs.Common.{◌==◌, ℕ, pos, Bool, List, [], Option, Some, None, Result, Ok, Err, length}
use Rattle.value_types.specs.declared.sql_type.SqlType.{SqlType}
use Rattle.value_types.specs.declared.value.Value.{Value}
use Rattle.tsql_tree.specs.declared.definition.TableTree.{TableTree}
use Rattle.tsql_tree.specs.declared.query.Select.{Select}
use Rattle.tsql_tree.specs.declared.statement.Statement.{Statement, out-Statement}
use Rattle.bound_tree.specs.declared.write.Bound.{Bound}
use Rattle.bound_tree.specs.declared.write.Bound.TheVariants as bound
use Rattle.session_cursors.specs.declared.fault.CursorFault.{CursorFault}
use Rattle.session_cursors.specs.declared.fault.CursorFault.TheVariants.{NoSuch, Present, AlreadyFilled, NotFilled, Memory}
use Rattle.session_cursors.specs.Cursors.{close_answer, declare_answer, fill_answer, kinds_of as kinds_left, next_of, query_of, remove_answer}
use Rattle.binder.specs.Names.{looked_up}
use Rattle.batch_meaning.specs.declared.failure.Failure.{Failure}
use Rattle.batch_meaning.specs.Asking.{comes_to, fails, fails_naming, with_room}
use Rattle.batch_meaning.specs.Cursors.{already_there, answered, assigns_row, closes_cursor, declares_cursor, fails_for_cursor, fetches_cursor, fetches_into, fetches_row, fills_with, kinds_of, no_such_cursor, opens_bound, opens_cursor, opens_kept, other_count, removes_cursor, select_statement}
use Rattle.batch_meaning.specs.Databases.{context_tokens, is_database, no_database, tells_context, uses_database, uses_named}
use Rattle.batch_meaning.specs.Doing.{Doing, makes, over, reads}
use Rattle.batch_meaning.specs.Progress as step
use Rattle.batch_meaning.specs.Progress.{SessionProgress}
use Rattle.batch_meaning.specs.Raised.{Around}
use Rattle.batch_meaning.specs.Selecting.{Effect, bound_over, no_effect, sending}
use Rattle.batch_meaning.specs.Transactions.{bound_first}
use Rattle.batch_meaning.specs.Values.{Assigned, assigned_to}
use Rattle.batch_meaning.specs.Working.{answers, asks_any, binds, enters, known_by, own, prepares, within}
use Rattle.statement_paths.proofs.Only.{AnyStep, only_bind, only_comes, only_if, only_naming, only_room, only_then}
use Rattle.sound_laws.proofs.Preparing.{prepares_read}
use Rattle.sound_laws.proofs.Statements.{answers_still, bytes_still, enters_still, left_still}
use Rattle.sound_laws.proofs.Steps.{IsStill}
use Rattle.sound_laws.proofs.Trees.{WritesNothing, reads_still}

-- ---- by what is answered of a cursor

pub first_still : (statement : Statement) (go : SessionProgress → Doing (Result Effect Failure)) → ((p : SessionProgress) → WritesNothing (go p)) → WritesNothing (bound_first statement go)
first_still statement go still =
    only_bind AnyStep IsStill (reads λ p. comes_to (bound_over [] p.vars statement)) (λ of. with_room (reads go)) (λ p. only_comes AnyStep IsStill (bound_over [] p.vars statement)) (λ of. only_room AnyStep IsStill (reads go) still)

pub fault_still : (A : Type 0) (name : List ℕ) (fault : CursorFault) → WritesNothing (fails_for_cursor {A = A} name fault)
fault_still A name Present = only_naming AnyStep IsStill A already_there name
fault_still A name NoSuch = only_naming AnyStep IsStill A no_such_cursor name
fault_still A name AlreadyFilled = tt
fault_still A name NotFilled = tt
fault_still A name Memory = tt

pub answer_still : {A B : Type 0} (name : List ℕ) (go : A → Doing (Result B Failure)) (answer : Result A CursorFault) → ((a : A) → WritesNothing (go a)) → WritesNothing (answered name go answer)
answer_still name go (Ok a) still = still a
answer_still {B = B} name go (Err fault) still = fault_still B name fault

-- ---- what asks nothing

pub declares_still : (statement : Statement) (name : List ℕ) (select : Select) → WritesNothing (declares_cursor statement name select)
unfolding declares_cursor
declares_still statement name select = first_still statement _ (λ p. answer_still name (λ done. makes (step.declares name select) (over (Ok no_effect))) (declare_answer name p.cursors) (λ done. (tt, tt)))

pub row_still : (p : SessionProgress) (name : List ℕ) (variables : List (List ℕ)) (row : Option (List Value)) → WritesNothing (fetches_row p name variables row)
row_still p name variables None = (tt, tt)
row_still p name variables (Some row) = only_room AnyStep IsStill (makes (step.fetches name) (assigns_row (assigned_to p.vars variables row))) (tt, by_sets (assigned_to p.vars variables row))
  where
    by_sets : (sets : Result (List Assigned) Failure) → WritesNothing (assigns_row sets)
    by_sets (Ok sets) = (tt, tt)
    by_sets (Err failure) = tt

pub into_still : (p : SessionProgress) (name : List ℕ) (variables : List (List ℕ)) (kinds : List SqlType) → WritesNothing (fetches_into p name variables kinds)
into_still p name variables kinds = only_if AnyStep IsStill (length variables == length kinds) (answered name (fetches_row p name variables) (next_of name p.cursors)) (fails other_count)
    (answer_still name (fetches_row p name variables) (next_of name p.cursors) (row_still p name variables)) tt

pub fetches_still : (statement : Statement) (name : List ℕ) (variables : List (List ℕ)) → WritesNothing (fetches_cursor statement name variables)
unfolding fetches_cursor
fetches_still statement name variables = first_still statement _ (λ p. answer_still name (fetches_into p name variables) (kinds_left name p.cursors) (into_still p name variables))

pub closes_still : (statement : Statement) (name : List ℕ) → WritesNothing (closes_cursor statement name)
unfolding closes_cursor
closes_still statement name = first_still statement _ (λ p. answer_still name (λ done. makes (step.shuts name) (over (Ok no_effect))) (close_answer name p.cursors) (λ done. (tt, tt)))

pub removes_still : (statement : Statement) (name : List ℕ) → WritesNothing (removes_cursor statement name)
unfolding removes_cursor
removes_still statement name = first_still statement _ (λ p. answer_still name (λ done. makes (step.removes name) (over (Ok no_effect))) (remove_answer name p.cursors) (λ done. (tt, tt)))

pub uses_still : (around : Around) (statement : Statement) (name : List ℕ) → WritesNothing (uses_database around statement name)
unfolding uses_database
uses_still around statement name = first_still statement (λ p. uses_named around statement name) (λ p.
    only_if AnyStep IsStill (is_database name) (tells_context (context_tokens around.procedure (pos (out-Statement statement).line))) (fails_naming no_database name)
    (bytes_still (context_tokens around.procedure (pos (out-Statement statement).line)) (over (Ok (sending (context_tokens around.procedure (pos (out-Statement statement).line))))) tt)
    (only_naming AnyStep IsStill Effect no_database name))

-- ---- OPEN

pub own_still : {A : Type 0} (asking : Bool) (work : Doing (Result A Failure)) → WritesNothing work → WritesNothing (own asking work)
unfolding own
own_still asking work still = only_bind AnyStep IsStill (enters asking) _ (enters_still asking)
    (λ home. only_then AnyStep IsStill work _ still (λ came. left_still home came))

pub within_still : {A : Type 0} (around : Around) (statement : Statement) (go : List TableTree → Bound → Doing (Result A Failure)) → ((shapes : List TableTree) (of : Bound) → WritesNothing (go shapes of)) → WritesNothing (within around statement go)
unfolding within binds
within_still around statement go still = only_room AnyStep IsStill (own (asks_any (known_by around statement) (looked_up statement)) (binds around statement go)) (own_still (asks_any (known_by around statement) (looked_up statement)) (binds around statement go)
    (only_bind AnyStep IsStill (prepares around statement) (λ made. go made.0 made.1) (reads_still (prepares around statement) (prepares_read around statement)) (λ made. still made.0 made.1)))

pub bound_still : (around : Around) (name : List ℕ) (shapes : List TableTree) (of : Bound) → WritesNothing (opens_bound around name shapes of)
unfolding fills_with
bound_still around name shapes (bound.Query query) = only_bind AnyStep IsStill (answers around shapes query) _ (answers_still around shapes query)
    (λ rows. only_room AnyStep IsStill (makes (step.fills name (kinds_of query) rows) (over (Ok no_effect))) (tt, tt))
bound_still around name shapes (bound.Assign query places) = tt
bound_still around name shapes (bound.Write write) = tt
bound_still around name shapes bound.Plain = tt

pub opens_still : (around : Around) (statement : Statement) (name : List ℕ) → WritesNothing (opens_cursor around statement name)
unfolding opens_cursor
opens_still around statement name = first_still statement _ (λ p. answer_still name (opens_kept around statement name p) (query_of name p.cursors)
    (λ select. answer_still name (λ done. within around (select_statement statement select) (opens_bound around name)) (fill_answer name p.cursors) (λ done. within_still around (select_statement statement select) (opens_bound around name) (bound_still around name))))
