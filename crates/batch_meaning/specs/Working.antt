-- Own: what a statement does within a transaction, and how it comes to one. What it names is looked up, it is bound over what was found, and it
-- goes on by what it is bound to. Outside a transaction a statement that asks anything is one of its own, committed where it succeeds
-- and else rolled back.
use Rattle.std.specs.Prelude.{ℕ, ℤ, pos, not, ◌||◌, Bool, true, false, is_ok, if◌then◌else◌, List, [], ◌∷◌, length, Option, None, Some, Result, Ok, Err, option_map}
use Rattle.value_types.specs.Units.{same_units}
use Rattle.tsql_tree.specs.declared.definition.Definition.{Definition}
use Rattle.tsql_tree.specs.declared.definition.Definition.TheVariants.{Table}
use Rattle.tsql_tree.specs.declared.definition.TableTree.{TableTree}
use Rattle.tsql_tree.specs.declared.statement.Form.{Form-F}
use Rattle.tsql_tree.specs.declared.statement.Statement.{Statement, out-Statement}
use Rattle.bound_tree.specs.declared.query.BoundQuery.{BoundQuery}
use Rattle.bound_tree.specs.declared.write.Bound.{Bound}
use Rattle.bound_tree.specs.declared.write.Bound.TheVariants as bound
use Rattle.binder.specs.Names.{Layer, form_of, looked_up}
use Rattle.table_rows.specs.Definitions.{is_objects, tables_of}
use Rattle.step_model.specs.declared.op.Op.TheVariants as ops
use Rattle.step_model.specs.Ranges.{Rows}
use Rattle.dml_exec.specs.Reading.{GivenRows, TriggerRows, deleted_name, given_of, inserted_name}
use Rattle.batch_meaning.specs.declared.failure.Failure.{Failure}
use Rattle.batch_meaning.specs.declared.home.Home.{Home}
use Rattle.batch_meaning.specs.declared.home.Home.TheVariants.{Nowhere, Open, Own}
use Rattle.batch_meaning.specs.declared.raised.Raised.{Raised}
use Rattle.batch_meaning.specs.Raised.{Around, Fired}
use Rattle.batch_meaning.specs.Tokens.{done_kind}
use Rattle.batch_meaning.specs.Doing.{Doing, over, reads, asks, ◌then◌}
use Rattle.batch_meaning.specs.Values.{Assigned, first_of, first_row, is_one, rows_assigned, status_of}
use Rattle.batch_meaning.specs.Selecting.{Effect, answer_in, bound_over, made_of, messages, not_bound_so, raised_by, result_of}
use Rattle.batch_meaning.specs.Asking.{KnownNames, ◌>>=◌, assigns_all, comes_to, fails, if_bytes_left, looks_up, reads_images, unless_refused, where_begun, where_done, where_ended, with_room}

-- ---- own transactions

-- the locks of the statement end, where something was fetched or written
unfoldable pub relaxes : Doing (Unit {0})
relaxes = reads λ p. if p.touched then asks ops.Relax (where_done (over tt)) else over tt

-- the statement's own transaction ends, by whether it succeeded
unfoldable pub closes : Bool → Doing (Unit {0})
closes true = asks ops.Commit (where_ended (over tt))
closes false = asks ops.Rollback (where_ended (over tt))

-- in which transaction a statement works: where it asks anything, in the open one, or in one of its own that is begun for it
unfoldable pub enters : Bool → Doing (Result Home Failure)
enters false = over (Ok Nowhere)
enters true = reads λ p. if p.is_open then over (Ok Open) else asks ops.Begin (unless_refused (where_begun (over (Ok Own))))

-- and how that ends
unfoldable pub leaves : Home → Bool → Doing (Unit {0})
leaves Nowhere succeeded = over tt
leaves Open succeeded = relaxes
leaves Own succeeded = relaxes then λ done. closes succeeded

-- done there
unfoldable pub own : {A : Type 0} → Bool → Doing (Result A Failure) → Doing (Result A Failure)
own asks_any work = do
  home ← enters asks_any
  work then λ came. leaves home (is_ok came) then λ done. over came

-- ---- the tables of a trigger

-- the table with the columns and the key of the trigger's that has this name there
abbrev pub table_called : List ℕ → Fired → Definition
table_called name fired = Table (record { name = name; columns = fired.shape.columns; key = fired.shape.key; uniques = []; checks = []; foreigns = [] })

-- whether a statement of this form only reads the table of a name, and does not write, drop, run or refer to it
abbrev pub is_read_by : Layer → List ℕ → Bool
is_read_by (Form-F.Insert table columns rows) name = not (same_units table name)
is_read_by (Form-F.Update table sets filter) name = not (same_units table name)
is_read_by (Form-F.Delete table filter) name = not (same_units table name)
is_read_by (Form-F.CreateTable table text) name = false
is_read_by (Form-F.Drop kind dropped) name = false
is_read_by (Form-F.Execute status procedure arguments) name = false
is_read_by form name = true

abbrev pub is_of_trigger : List ℕ → Bool
is_of_trigger name = same_units name inserted_name || same_units name deleted_name

-- In a trigger `inserted` and `deleted` are not looked up: where they are read they stand for its rows, and else for nothing.
abbrev pub known_in : Option Fired → Layer → KnownNames
known_in None form name = None
known_in (Some fired) form name = if is_of_trigger name then Some (if is_read_by form name then Some (table_called name fired) else None) else None

abbrev pub known_by : Around → Statement → KnownNames
known_by around statement = known_in around.fired (form_of statement)

-- and their rows are not fetched
abbrev pub trigger_rows : Fired → TriggerRows
trigger_rows fired = record { deleted = fired.deleted; inserted = fired.inserted }

abbrev pub given_in : Option Fired → GivenRows
given_in fired = given_of (option_map trigger_rows fired)

-- whether something is asked: the first name that is looked up is not `objects`, and none before it stands for nothing
abbrev pub asks_first : Option (Option Definition) → List ℕ → Bool → Bool
asks_first None name rest = not (is_objects name)
asks_first (Some None) name rest = false
asks_first (Some (Some definition)) name rest = rest

abbrev pub asks_any : KnownNames → List (List ℕ) → Bool
asks_any known_names [] = false
asks_any known_names (name ∷ names) = asks_first (known_names name) name (asks_any known_names names)

-- ---- bound statements

-- what a statement names is looked up, and it is bound over what was found, with the variables as they are
unfoldable pub prepares : Around → Statement → Doing (Result (List TableTree × Bound) Failure)
prepares around statement = do
  definitions ← looks_up (known_by around statement) [] (looked_up statement)
  of ← (reads λ p. comes_to (bound_over definitions p.vars statement))
  comes_to (Ok (tables_of definitions, of))

unfoldable pub binds : {A : Type 0} → Around → Statement → (List TableTree → Bound → Doing (Result A Failure)) → Doing (Result A Failure)
binds around statement go = prepares around statement >>= λ made. go made.0 made.1

-- the same within a transaction, where it asks anything
unfoldable pub within : {A : Type 0} → Around → Statement → (List TableTree → Bound → Doing (Result A Failure)) → Doing (Result A Failure)
within around statement go = with_room (own (asks_any (known_by around statement) (looked_up statement)) (binds around statement go))

-- what is sent fits into what the batch may still send
unfoldable pub if_it_fits : Effect → Doing (Result Effect Failure)
if_it_fits effect = if_bytes_left effect.tokens (over (Ok effect))

-- the rows of a SELECT assign variables, in turn; behind one that can't be assigned stays what those before it have
abbrev pub assigns_rows : ℕ → List Assigned × Option Failure → Doing (Result Effect Failure)
assigns_rows count (sets, None) = over (Ok (record { sets = sets; rows = count; tokens = [] }))
assigns_rows count (sets, Some failure) = assigns_all sets (over (Err failure))

module _ (around : Around) where
  -- the tables of a query are read, and it is answered
  unfoldable pub answers : List TableTree → BoundQuery → Doing (Result Rows Failure)
  answers shapes query = do
    images ← reads_images (given_in around.fired) shapes (bound.Query query)
    reads λ p. comes_to (answer_in around p query images)

  -- ---- SELECT

  unfoldable pub selects : List TableTree → BoundQuery → Doing (Result Effect Failure)
  selects shapes query = do
    rows ← answers shapes query
    effect ← (reads λ p. comes_to (result_of (done_kind around) p.settings.no_count query rows))
    if_it_fits effect

  unfoldable pub selects_into : List TableTree → BoundQuery → List ℕ → Doing (Result Effect Failure)
  selects_into shapes query places = do
    rows ← answers shapes query
    reads λ p. with_room (assigns_rows (length rows) (rows_assigned p.vars places [] rows))

  abbrev pub select_bound : List TableTree → Bound → Doing (Result Effect Failure)
  select_bound shapes (bound.Query query) = selects shapes query
  select_bound shapes (bound.Assign query places) = selects_into shapes query places
  select_bound shapes bound.Plain = fails not_bound_so
  select_bound shapes (bound.Write write) = fails not_bound_so

  -- ---- the values of other statements

  -- of expressions, which are the items of a query of one row; without one there is nothing to answer
  abbrev pub values_bound : List TableTree → Bound → Doing (Result Rows Failure)
  values_bound shapes (bound.Query query) = answers shapes query
  values_bound shapes bound.Plain = over (Ok [])
  values_bound shapes (bound.Write write) = fails not_bound_so
  values_bound shapes (bound.Assign query places) = fails not_bound_so

  -- what they are made to
  unfoldable pub computes : Layer → List TableTree → Bound → Doing (Result Effect Failure)
  computes form shapes of = do
    rows ← values_bound shapes of
    reads λ p. comes_to (made_of form p.vars (first_row rows))

  -- a test
  unfoldable pub tests_bound : List TableTree → Bound → Doing (Result Bool Failure)
  tests_bound shapes of = do
    rows ← values_bound shapes of
    over (Ok (is_one (first_of (first_row rows))))

  unfoldable pub tests : Statement → Doing (Result Bool Failure)
  tests statement = within around statement tests_bound

  -- a message, for which the batch must have bytes left where it is sent
  unfoldable pub composes_bound : Statement → List TableTree → Bound → Doing (Result Raised Failure)
  composes_bound statement shapes of = do
    rows ← values_bound shapes of
    raised ← comes_to (raised_by (form_of statement) around.procedure (pos (out-Statement statement).line) (first_row rows))
    with_room (if_bytes_left (messages raised) (over (Ok raised)))

  unfoldable pub composes : Statement → Doing (Result Raised Failure)
  composes statement = within around statement (composes_bound statement)

  -- ---- RETURN

  -- the status that it gives
  unfoldable pub status_bound : List TableTree → Bound → Doing (Result ℤ Failure)
  status_bound shapes of = do
    rows ← values_bound shapes of
    comes_to (status_of (first_row rows))

  unfoldable pub statuses : Statement → Doing (Result ℤ Failure)
  statuses statement = within around statement status_bound

  -- ---- each statement that is done with its effect

  -- by what it is bound to
  abbrev pub works_bound : Layer → List TableTree → Bound → Doing (Result Effect Failure)
  works_bound (Form-F.Select select) shapes of = select_bound shapes of
  works_bound form shapes of = computes form shapes of

  unfoldable pub works : Statement → Doing (Result Effect Failure)
  works statement = within around statement (works_bound (form_of statement))
