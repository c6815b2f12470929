-- Own: what the parts of a statement ask, and how they fail: a look-up of a name in `objects`, with its range held; the read of all definitions; the
-- dialogs of reading tables and writing changes. What fails gives its error in the place of a result.
use Rattle.std.specs.Prelude.{ℕ, zero, suc, ◌++◌, nat_lt, Bool, true, false, if◌then◌else◌, List, [], ◌∷◌, Option, None, Some, Result, Ok, Err}
use Rattle.lock_modes.specs.declared.KeyPart.TheVariants.{S}
use Rattle.value_types.specs.declared.value.Value.{Value}
use Rattle.tsql_tree.specs.declared.definition.Definition.{Definition}
use Rattle.tsql_tree.specs.declared.definition.Definition.TheVariants.{Table, Procedure, Trigger}
use Rattle.tsql_tree.specs.declared.definition.TableTree.{TableTree}
use Rattle.bound_tree.specs.declared.write.Bound.{Bound}
use Rattle.table_rows.specs.Definitions.{objects_name, is_objects, object_key}
use Rattle.table_rows.specs.Rows.{rows_table}
use Rattle.step_model.specs.declared.change.Planned.{Planned}
use Rattle.step_model.specs.declared.op.Hold.TheVariants as hold
use Rattle.step_model.specs.declared.op.Op.{Op}
use Rattle.step_model.specs.declared.op.Op.TheVariants as ops
use Rattle.step_model.specs.declared.range.Start.{Start}
use Rattle.step_model.specs.declared.range.Start.TheVariants.{First, At}
use Rattle.step_model.specs.declared.range.Stop.TheVariants.{Last, Within}
use Rattle.step_model.specs.declared.reply.Reply.{Reply}
use Rattle.step_model.specs.declared.reply.Reply.TheVariants as replies
use Rattle.step_model.specs.Dialog as dialog
use Rattle.step_model.specs.Dialog.{Dialog}
use Rattle.step_model.specs.Ranges.{Rows, no_memory, range_full, range_limit, lock_timeout, deadlock}
use Rattle.dml_exec.specs.declared.refusal.Level.{Level}
use Rattle.dml_exec.specs.declared.refusal.Refusal.{Refusal}
use Rattle.dml_exec.specs.declared.refusal.Refusal.TheVariants as refusal
use Rattle.dml_exec.specs.declared.written.Written.{Written}
use Rattle.dml_exec.specs.declared.written.Written.TheVariants as written
use Rattle.dml_exec.specs.Reading.{GivenRows, behind_gone, fetches_any, images_of}
use Rattle.dml_exec.specs.Writing.{attempts}
use Rattle.tds_tokens.specs.declared.token.Token.{Token}
use Rattle.batch_meaning.specs.declared.failure.Failure.{Failure}
use Rattle.batch_meaning.specs.Failures.{plain, naming}
use Rattle.batch_meaning.specs.Selecting.{result_full}
use Rattle.batch_meaning.specs.Values.{Assigned}
use Rattle.batch_meaning.specs.Progress.{assigns, size_of, touches, values_of}
use Rattle.batch_meaning.specs.Doing.{Doing, over, reads, makes, defines, asks, room, never, ◌then◌}

-- ---- parts of a statement, which may fail

-- an error that names nothing
abbrev pub fails : {A : Type 0} → ℕ → Doing (Result A Failure)
fails number = over (Err (plain number))

-- one that names this, for which memory may be wanting
abbrev pub fails_naming : {A : Type 0} → ℕ → List ℕ → Doing (Result A Failure)
fails_naming number name = room λ enough. if enough then over (Err (naming number name)) else fails no_memory

-- going on where nothing failed
abbrev pub on_ok : {A B : Type 0} → (A → Doing (Result B Failure)) → Result A Failure → Doing (Result B Failure)
on_ok go (Ok a) = go a
on_ok go (Err failure) = over (Err failure)

infixl 10 ◌>>=◌
abbrev pub ◌>>=◌ : {A B : Type 0} → Doing (Result A Failure) → (A → Doing (Result B Failure)) → Doing (Result B Failure)
tree >>= go = tree then on_ok go

-- what wants memory first fails where there is none
abbrev pub with_room : {A : Type 0} → Doing (Result A Failure) → Doing (Result A Failure)
with_room tree = room λ enough. if enough then tree else fails no_memory

-- what wants memory for its result
abbrev pub comes_to : {A : Type 0} → Result A Failure → Doing (Result A Failure)
comes_to result = with_room (over result)

-- A reply that refuses the operation is the error of what was done: memory was wanting, another session's lock
-- stood in the way, or the session fell as a deadlock's victim.
abbrev pub unless_refused : {A : Type 0} → (Reply → Doing (Result A Failure)) → Reply → Doing (Result A Failure)
unless_refused go replies.Memory = fails no_memory
unless_refused go (replies.TimedOut holder held wanted on) = fails lock_timeout
unless_refused go (replies.Victim cycle) = fails deadlock
unless_refused go reply = go reply

-- behind a reply that says that it is done
abbrev pub where_done : {A : Type 0} → Doing A → Reply → Doing A
where_done next replies.Done = next
where_done next reply = never

-- ---- variables

-- they are assigned one after another
unfoldable pub assigns_all : {A : Type 0} → List Assigned → Doing A → Doing A
assigns_all [] next = next
assigns_all (one ∷ rest) next = makes (assigns one.0 one.1) (assigns_all rest next)

-- ---- look-ups

-- what the row at a name's key in `objects` defines, or nothing
abbrev pub known : Reply → Doing (Result (Option Definition) Failure)
known (replies.Row key row at) = with_room (defines (key, row) (λ found. over (Ok found)))
known (replies.Gone key at) = over (Ok None)
known (replies.End at) = over (Ok None)
known reply = never

-- the fetch of one whole key of `objects`, whose range is held
abbrev pub definition_fetch : List ℕ → Op
definition_fetch name = ops.Fetch (rows_table objects_name) (At (object_key name)) (Within (object_key name)) hold.Range S

-- the name is looked up; `objects` is no table of a batch, and nothing is asked of it
unfoldable pub look_up : List ℕ → Doing (Result (Option Definition) Failure)
look_up name = if is_objects name then over (Ok None) else with_room (asks (definition_fetch name) (unless_refused known))

-- what was found is a table
abbrev pub is_table : Option Definition → Bool
is_table None = false
is_table (Some (Table table)) = true
is_table (Some (Procedure procedure)) = false
is_table (Some (Trigger trigger)) = false

-- a definition more, where there is one
abbrev pub with_found : List Definition → Option Definition → List Definition
with_found definitions None = definitions
with_found definitions (Some definition) = definitions ++ definition ∷ []

-- the names that are not looked up, each with what it stands for: one thing or nothing
abbrev pub KnownNames : Type 0
KnownNames = List ℕ → Option (Option Definition)

-- what a name stands for, which is looked up where it is not known
abbrev pub finds_by : Option (Option Definition) → List ℕ → Doing (Result (Option Definition) Failure)
finds_by None name = look_up name
finds_by (Some found) name = with_room (over (Ok found))

-- names are looked up one after another, behind these definitions; the first that is no table's is the last
unfoldable pub looks_up : KnownNames → List Definition → List (List ℕ) → Doing (Result (List Definition) Failure)
looks_up known_names definitions [] = over (Ok definitions)
looks_up known_names definitions (name ∷ names) = do
  found ← finds_by (known_names name) name
  if is_table found then with_room (looks_up known_names (with_found definitions found) names) else over (Ok definitions)

-- ---- all definitions

-- the fetch of `objects` from some key on, whose range is held
abbrev pub objects_fetch : Start → Op
objects_fetch start = ops.Fetch (rows_table objects_name) start Last hold.Range S

-- what a fetch's reply makes of the definitions so far, with the key to go on from, or none at the end
abbrev pub defined_by : List Definition → Reply → Doing (Result (List Definition × Option (List Value)) Failure)
defined_by so_far (replies.Row key row at) = with_room (defines (key, row) (λ found. with_room (over (Ok (with_found so_far found, Some key)))))
defined_by so_far (replies.Gone key at) = over (Ok (so_far, Some key))
defined_by so_far (replies.End at) = over (Ok (so_far, None))
defined_by so_far reply = never

-- behind a key the range goes on
abbrev pub defined_on : (List Definition → List Value → Doing (Result (List Definition) Failure)) → List Definition × Option (List Value) → Doing (Result (List Definition) Failure)
defined_on next (so_far, None) = over (Ok so_far)
defined_on next (so_far, Some key) = next so_far key

-- The rest of `objects`, behind these definitions; so many more keys may be looked at. Its keys have one value.
unfoldable pub defined_from : ℕ → Start → List Definition → Doing (Result (List Definition) Failure)
defined_from zero start so_far = fails range_full
defined_from (suc left) start so_far = asks (objects_fetch start) (unless_refused (defined_by so_far)) >>= defined_on (λ more key. defined_from left (behind_gone 1 key) more)

-- triggers, and tables that refer to the one that is written, are looked for among all definitions, which come in the order of their names
unfoldable pub reads_definitions : Doing (Result (List Definition) Failure)
reads_definitions = with_room (defined_from range_limit First [])

-- taken back to the statement's mark, as it failed
unfoldable pub takes_back : ℕ → Failure → Doing (Result (Unit {0}) Failure)
takes_back mark failure = asks (ops.BackTo mark) (where_done (over (Err failure)))

-- behind a mark
abbrev pub marked : {A : Type 0} → (ℕ → Doing (Result A Failure)) → Reply → Doing (Result A Failure)
marked next (replies.Marked mark) = next mark
marked next reply = never

-- behind a transaction's begin
abbrev pub where_begun : {A : Type 0} → Doing (Result A Failure) → Reply → Doing (Result A Failure)
where_begun next replies.Began = next
where_begun next reply = never

-- behind a reply that ends a transaction
abbrev pub where_ended : {A : Type 0} → Doing A → Reply → Doing A
where_ended next (replies.Ended place) = next
where_ended next reply = never

-- tokens that the batch may still send; too many bytes are an error of their statement
abbrev pub if_bytes_left : {A : Type 0} → List Token → Doing (Result A Failure) → Doing (Result A Failure)
if_bytes_left tokens next = reads λ p. if nat_lt p.bytes_left (size_of tokens) then fails result_full else next

-- ---- dialogs

-- a dialog is held, and behind it another thing is done
infixl 10 ◌gives◌
unfoldable pub ◌gives◌ : {A B : Type 0} → Dialog A → (A → Doing B) → Doing B
(dialog.over a) gives go = go a
(dialog.asks op quiet next) gives go = asks op (λ reply. next reply gives go)
(dialog.room next) gives go = room (λ enough. next enough gives go)
dialog.never gives go = never

-- the same where a statement's end has to relax what the dialog asks
abbrev pub holds : {A B : Type 0} → Dialog A → (A → Doing B) → Doing B
holds of go = makes touches (of gives go)

-- why a dialog went no further
abbrev pub number_of : Refusal → ℕ
number_of refusal.Victim = deadlock
number_of refusal.TimedOut = lock_timeout
number_of refusal.Limit = range_full
number_of refusal.Memory = no_memory

abbrev pub unless_stopped : {A : Type 0} → Result A Refusal → Doing (Result A Failure)
unless_stopped (Ok a) = over (Ok a)
unless_stopped (Err why) = fails (number_of why)

-- a write that is done gives its statement's mark
abbrev pub unless_broken : Result Written Refusal → Doing (Result ℕ Failure)
unless_broken (Ok (written.Done mark)) = over (Ok mark)
unless_broken (Ok (written.Refused number name)) = over (Err (record { number = number; name = Some name }))
unless_broken (Err why) = fails (number_of why)

abbrev pub touches_if : {A : Type 0} → Bool → Doing A → Doing A
touches_if true tree = makes touches tree
touches_if false tree = tree

-- What a statement reads of its tables, at the session's level or at another one, with the values of variables; where it names no table,
-- nothing is read.
unfoldable pub reads_at : GivenRows → Level → List Value → List TableTree → Bound → Doing (Result (List Rows) Failure)
reads_at given level vars [] of = over (Ok [])
reads_at given level vars (shape ∷ shapes) of = touches_if (fetches_any given of) (images_of given (shape ∷ shapes) level vars of gives unless_stopped)

unfoldable pub reads_images : GivenRows → List TableTree → Bound → Doing (Result (List Rows) Failure)
reads_images given shapes of = reads λ p. reads_at given p.settings.level (values_of p.vars) shapes of

-- changes are asked, and checked by these shapes
unfoldable pub applies : List TableTree → List Planned → Doing (Result ℕ Failure)
applies shapes changes = holds (attempts shapes changes) (λ attempt. unless_broken attempt.came)
