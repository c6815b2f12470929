-- What comes of a tree, whatever is replied: a fact of its results that speaks of no database. So the body of each procedure and trigger that was
-- found is one whose tables read back.
use Rattle.std.proofs.Common.{ℕ, zero, suc, Bool, true, false, if◌then◌else◌, is_ok, List, [], ◌∷◌, ◌++◌, filter, filter_map, Option, None, Some, Result, Ok, Err, sym, subst}
use Rattle.std.specs.Prelude.{nat_le, ℤ}
use Rattle.std.specs.List.{AllByRecursion, cons_option, slice_get}
use Rattle.value_types.specs.declared.value.Value.{Value}
use Rattle.tsql_tree.specs.declared.definition.Definition.{Definition}
use Rattle.tsql_tree.specs.declared.definition.Definition.TheVariants.{Table, Procedure, Trigger}
use Rattle.tsql_tree.specs.declared.definition.ProcedureTree.{ProcedureTree}
use Rattle.tsql_tree.specs.declared.definition.TableTree.{TableTree}
use Rattle.tsql_tree.specs.declared.definition.TriggerTree.{TriggerTree}
use Rattle.tsql_tree.specs.declared.statement.Argument.{Argument}
use Rattle.tsql_tree.specs.declared.statement.Statement.{Statement}
use Rattle.bound_tree.specs.declared.write.Bound.{Bound}
use Rattle.bound_tree.specs.declared.write.Bound.TheVariants as bound
use Rattle.bound_tree.specs.declared.write.BoundWrite.{BoundWrite}
use Rattle.binder.specs.Names.{Layer, form_of}
use Rattle.session_vars.specs.declared.Variable.{Variable}
use Rattle.table_rows.specs.Definitions.{IsDefinitionIn, IsOfName, own_name, is_objects, tables_of}
use Rattle.table_rows.specs.Rows.{shape_of}
use Rattle.dml_exec.specs.Planning.{table_written}
use Rattle.dml_exec.specs.Reading.{behind_gone}
use Rattle.step_model.specs.declared.range.Start.{Start}
use Rattle.step_model.specs.declared.range.Start.TheVariants.{First}
use Rattle.step_model.specs.declared.reply.Reply.{Reply}
use Rattle.step_model.specs.declared.reply.Reply.TheVariants as replies
use Rattle.step_model.specs.Exchange.{Exchange}
use Rattle.step_model.specs.Log.{Commit as Logged}
use Rattle.step_model.specs.Ranges.{range_limit}
use Rattle.call_rules.specs.Arguments.{argument_values}
use Rattle.call_rules.specs.Triggers.{triggers_for}
use Rattle.batch_meaning.specs.declared.failure.Failure.{Failure}
use Rattle.batch_meaning.specs.Raised.{Around, Fired}
use Rattle.batch_meaning.specs.Asking.{applies, comes_to, definition_fetch, defined_by, defined_from, defined_on, finds_by, known, look_up, objects_fetch, on_ok, reads_definitions, reads_images, unless_refused, with_found, with_room, ◌>>=◌}
use Rattle.batch_meaning.specs.Calls.{Call, are_standing, call_of, call_over, call_with, depth_limit, finds_call, too_deep}
use Rattle.batch_meaning.specs.Failures.{plain}
use Rattle.batch_meaning.specs.Values.{outside_limits}
use Rattle.batch_meaning.specs.Changing.{event_of, planned_over, told_by}
use Rattle.batch_meaning.specs.Doing.{Doing, asks, defines, makes, never, over, reads, room, ◌then◌, Held}
use Rattle.batch_meaning.specs.Progress.{SessionProgress}
use Rattle.batch_meaning.specs.Selecting.{bound_over}
use Rattle.batch_meaning.specs.Tokens.{done_kind}
use Rattle.batch_meaning.specs.Working.{asks_any, binds, enters, given_in, if_it_fits, is_of_trigger, is_read_by, known_by, known_in, leaves, own, prepares, table_called}
use Rattle.batch_meaning.specs.Writes.{Written, change_bound, changes, fired_by, fires_of, shape_or, trigger_in}
use Rattle.text_laws.specs.Laws.{BodyReadsBack, Everywhere, ReadsBack}
use Rattle.text_laws.proofs.Bodies.{defined_text}
use Rattle.sound_laws.specs.Stands.{Brings}

-- ---- a fact of what comes

abbrev pub Yields : {A : Type 0} → (A → Type 0) → Doing A → Type 0
Yields P (over a) = P a
Yields P (reads look) = (p : SessionProgress) → Yields P (look p)
Yields P (makes step next) = Yields P next
Yields P (defines entry go) = (found : Option Definition) → IsDefinitionIn entry found → Yields P (go found)
Yields P (asks op go) = (reply : Reply) → Yields P (go reply)
Yields P (room go) = (enough : Bool) → Yields P (go enough)
Yields P never = Unit {0}

pub held_yields : {A : Type 0} (P : A → Type 0) (tree : Doing A) (p new : SessionProgress) (exchanges : List Exchange) (result : A) → Yields P tree → Held tree p exchanges result new → P result
unfolding Held
held_yields P (over a) p new exchanges result yields held = subst P (sym held.1) yields
held_yields P (reads look) p new exchanges result yields held = held_yields P (look p) p new exchanges result (yields p) held
held_yields P (makes step next) p new exchanges result yields held = held_yields P next _ new exchanges result yields held
held_yields P (defines entry go) p new exchanges result yields held = held_yields P (go held.0) p new exchanges result (yields held.0 held.1) held.2
held_yields P (asks op go) p new [] result yields held = absurd held
held_yields P (asks op go) p new (x ∷ later) result yields held = held_yields P (go x.reply) _ new later result (yields x.reply) held.3
held_yields P (room go) p new exchanges result yields held = held_yields P (go held.0) p new exchanges result (yields held.0) held.1
held_yields P never p new exchanges result yields held = absurd held

-- nothing is said of any tree
pub yields_any : {A : Type 0} (tree : Doing A) → Yields (λ a. Unit {0}) tree
yields_any (over a) = tt
yields_any (reads look) = λ p. yields_any (look p)
yields_any (makes step next) = yields_any next
yields_any (defines entry go) = λ found is. yields_any (go found)
yields_any (asks op go) = λ reply. yields_any (go reply)
yields_any (room go) = λ enough. yields_any (go enough)
yields_any never = tt

pub yields_then : {A B : Type 0} (P : A → Type 0) (Q : B → Type 0) (tree : Doing A) (go : A → Doing B) → Yields P tree → ((a : A) → P a → Yields Q (go a)) → Yields Q (tree then go)
unfolding ◌then◌
yields_then P Q (over a) go first second = second a first
yields_then P Q (reads look) go first second = λ p. yields_then P Q (look p) go (first p) second
yields_then P Q (makes step next) go first second = yields_then P Q next go first second
yields_then P Q (defines entry next) go first second = λ found is. yields_then P Q (next found) go (first found is) second
yields_then P Q (asks op next) go first second = λ reply. yields_then P Q (next reply) go (first reply) second
yields_then P Q (room next) go first second = λ enough. yields_then P Q (next enough) go (first enough) second
yields_then P Q never go first second = tt

-- of a result that did not fail
abbrev pub Well : {A : Type 0} → (A → Type 0) → Result A Failure → Type 0
Well P (Ok a) = P a
Well P (Err failure) = Unit {0}

pub yields_bind : {A B : Type 0} (P : A → Type 0) (Q : B → Type 0) (tree : Doing (Result A Failure)) (go : A → Doing (Result B Failure)) → Yields (Well P) tree → ((a : A) → P a → Yields (Well Q) (go a)) → Yields (Well Q) (tree >>= go)
yields_bind {A} {B} P Q tree go first second = yields_then (Well P) (Well Q) tree (on_ok go) first by_came
  where
    by_came : (came : Result A Failure) → Well P came → Yields (Well Q) (on_ok go came)
    by_came (Ok a) well = second a well
    by_came (Err failure) well = tt

-- behind one of which nothing is said
pub yields_on : {A B : Type 0} (Q : B → Type 0) (tree : Doing (Result A Failure)) (go : A → Doing (Result B Failure)) → ((a : A) → Yields (Well Q) (go a)) → Yields (Well Q) (tree >>= go)
yields_on {A} {B} Q tree go second = yields_then (λ came. Unit {0}) (Well Q) tree (on_ok go) (yields_any tree) by_came
  where
    by_came : (came : Result A Failure) → Unit {0} → Yields (Well Q) (on_ok go came)
    by_came (Ok a) any = second a
    by_came (Err failure) any = tt

pub yields_room : {A : Type 0} (P : A → Type 0) (tree : Doing (Result A Failure)) → Yields (Well P) tree → Yields (Well P) (with_room tree)
yields_room P tree yields true = yields
yields_room P tree yields false = tt

yields_own : {A : Type 0} (P : A → Type 0) (asking : Bool) (work : Doing (Result A Failure)) → Yields (Well P) work → Yields (Well P) (own asking work)
unfolding own
yields_own P asking work yields =
    yields_on P (enters asking) (λ home. work then λ came. leaves home (is_ok came) then λ done. over came)
    (λ home. yields_then (Well P) (Well P) work (λ came. leaves home (is_ok came) then λ done. over came) yields
    (λ came well. yields_then (λ done. Unit {0}) (Well P) (leaves home (is_ok came)) (λ done. over came) (yields_any (leaves home (is_ok came))) (λ done any. well)))

-- so it is of what a tree brings
pub brings_yields : {A : Type 0} (log : List Logged) (mine : List Exchange) (From : List Exchange → List Exchange → Type 0) (tree : Doing A) (To : A → List Exchange → List Exchange → Type 0) (P : A → Type 0) → Brings log mine From tree To → Yields P tree
    → Brings log mine From tree (λ a before later. To a before later × P a)
brings_yields log mine From tree To P brings yields before part later p is agree from =
    let on = brings before part later p is agree from in
    (on.0, λ result new held. let was = on.1 result new held in (was.0, (was.1, held_yields P tree p new part result yields held)))

-- ---- definitions that are found

abbrev pub BackIf : Option Definition → Type 0
BackIf None = Unit {0}
BackIf (Some definition) = BodyReadsBack definition

abbrev pub AllBack : List Definition → Type 0
AllBack definitions = AllByRecursion BodyReadsBack definitions

back_of : (name : Option (List ℕ)) (row : List Value) (found : Option Definition) → IsOfName name row found → BackIf found
back_of None row found is = subst BackIf (sym is) tt
back_of (Some name) row None is = tt
back_of (Some name) row (Some definition) is = defined_text name is.0 definition is.2

pub found_back : (entry : List Value × List Value) (found : Option Definition) → IsDefinitionIn entry found → BackIf found
found_back entry found is = back_of (own_name entry.0 entry.1) entry.1 found is

all_with : (so_far : List Definition) (found : Option Definition) → AllBack so_far → BackIf found → AllBack (with_found so_far found)
all_with so_far None all back = all
all_with so_far (Some definition) all back = all_behind so_far definition all back
  where
    all_behind : (so_far : List Definition) (definition : Definition) → AllBack so_far → BodyReadsBack definition → AllBack (so_far ++ definition ∷ [])
    all_behind [] definition all back = (back, tt)
    all_behind (first ∷ rest) definition all back = (all.0, all_behind rest definition all.1 back)

-- all of `objects`
defined_yields : (left : ℕ) (start : Start) (so_far : List Definition) → AllBack so_far → Yields (Well AllBack) (defined_from left start so_far)
unfolding defined_from
defined_yields zero start so_far all = tt
defined_yields (suc left) start so_far all =
    yields_bind (λ came. AllBack came.0) AllBack (asks (objects_fetch start) (unless_refused (defined_by so_far))) (defined_on (λ more key. defined_from left (behind_gone 1 key) more)) by_reply (by_came (λ more key back. defined_yields left (behind_gone 1 key) more back))
  where
    Came : List Definition × Option (List Value) → Type 0
    Came came = AllBack came.0

    by_reply : (reply : Reply) → Yields (Well Came) (unless_refused (defined_by so_far) reply)
    by_reply (replies.Row key row at) = yields_room Came (defines (key, row) (λ found. with_room (over (Ok (with_found so_far found, Some key)))))
        (λ found is. yields_room Came (over (Ok (with_found so_far found, Some key))) (all_with so_far found all (found_back (key, row) found is)))
    by_reply (replies.Gone key at) = all
    by_reply (replies.End at) = all
    by_reply replies.Memory = tt
    by_reply (replies.TimedOut holder held wanted on) = tt
    by_reply (replies.Victim cycle) = tt
    by_reply reply = tt

    by_came : ((more : List Definition) (key : List Value) → AllBack more → Yields (Well AllBack) (defined_from left (behind_gone 1 key) more)) → (came : List Definition × Option (List Value)) → AllBack came.0 → Yields (Well AllBack) (defined_on (λ more key. defined_from left (behind_gone 1 key) more) came)
    by_came next (more, None) back = back
    by_came next (more, Some key) back = next more key back

definitions_yield : Yields (Well AllBack) reads_definitions
unfolding reads_definitions
definitions_yield = yields_room AllBack (defined_from range_limit First []) (defined_yields range_limit First [] tt)

-- one name
look_yields : (name : List ℕ) → Yields (Well BackIf) (look_up name)
unfolding look_up
look_yields name = by_objects (is_objects name)
  where
    by_reply : (reply : Reply) → Yields (Well BackIf) (unless_refused known reply)
    by_reply (replies.Row key row at) = yields_room BackIf (defines (key, row) (λ found. over (Ok found))) (λ found is. found_back (key, row) found is)
    by_reply (replies.Gone key at) = tt
    by_reply (replies.End at) = tt
    by_reply replies.Memory = tt
    by_reply (replies.TimedOut holder held wanted on) = tt
    by_reply (replies.Victim cycle) = tt
    by_reply reply = tt

    by_objects : (b : Bool) → Yields (Well BackIf) (if b then over (Ok None) else with_room (asks (definition_fetch name) (unless_refused known)))
    by_objects true = tt
    by_objects false = yields_room BackIf (asks (definition_fetch name) (unless_refused known)) by_reply

-- what a name is known to stand for is no procedure
abbrev KnownBack : Option (Option Definition) → Type 0
KnownBack None = Unit {0}
KnownBack (Some found) = BackIf found

known_back : (fired : Option Fired) (form : Layer) (name : List ℕ) → KnownBack (known_in fired form name)
known_back None form name = tt
known_back (Some fired) form name = by_name (is_of_trigger name) (is_read_by form name)
  where
    by_name : (b c : Bool) → KnownBack (if b then Some (if c then Some (table_called name fired) else None) else None)
    by_name true true = tt
    by_name true false = tt
    by_name false c = tt

finds_yields : (known : Option (Option Definition)) (name : List ℕ) → KnownBack known → Yields (Well BackIf) (finds_by known name)
finds_yields None name back = look_yields name
finds_yields (Some found) name back = yields_room BackIf (over (Ok found)) back

-- ---- EXEC

abbrev pub CallBack : Call → Type 0
CallBack call = AllByRecursion (Everywhere ReadsBack) call.procedure.body

pub call_back : (around : Around) (status : Option (List ℕ)) (name : List ℕ) (arguments : List Argument) (vars : List Variable) (found : Option Definition) → BackIf found → Well CallBack (call_over around status name arguments vars found)
call_back around status name arguments vars found back = by_standing (are_standing status arguments vars) found back
  where
    by_values : (procedure : ProcedureTree) (values : Result (List Value) ℤ) → AllByRecursion (Everywhere ReadsBack) procedure.body → Well CallBack (call_with procedure values)
    by_values procedure (Ok values) back = back
    by_values procedure (Err number) back = tt

    by_depth : (b : Bool) (procedure : ProcedureTree) (came : Result Call Failure) (failure : Failure) → Well CallBack came → Well CallBack (if b then Err failure else came)
    by_depth true procedure came failure back = tt
    by_depth false procedure came failure back = back

    by_found : (found : Option Definition) → BackIf found → Well CallBack (call_of around name arguments vars found)
    by_found (Some (Procedure procedure)) back = by_depth (nat_le depth_limit around.depth) procedure (call_with procedure (argument_values vars procedure.parameters arguments)) (plain too_deep) (by_values procedure (argument_values vars procedure.parameters arguments) back)
    by_found (Some (Table table)) back = tt
    by_found (Some (Trigger trigger)) back = tt
    by_found None back = tt

    by_standing : (b : Bool) (found : Option Definition) → BackIf found → Well CallBack (if b then call_of around name arguments vars found else Err (plain outside_limits))
    by_standing true found back = by_found found back
    by_standing false found back = tt

pub call_yields : (around : Around) (statement : Statement) (status : Option (List ℕ)) (name : List ℕ) (arguments : List Argument) → Yields (Well CallBack) (finds_call around statement status name arguments)
unfolding finds_call
call_yields around statement status name arguments = yields_room CallBack (own (asks_any (known_by around statement) (name ∷ [])) Finding) (yields_own CallBack (asks_any (known_by around statement) (name ∷ [])) Finding
    (yields_bind BackIf CallBack (finds_by (known_by around statement name) name) (λ found. Binding >>= λ of. Calling found) (finds_yields (known_by around statement name) name (known_back around.fired (form_of statement) name))
    (λ found back. yields_on CallBack Binding (λ of. Calling found) (λ of p. yields_room CallBack (over (call_over around status name arguments p.vars found)) (call_back around status name arguments p.vars found back)))))
  where
    Binding : Doing (Result Bound Failure)
    Binding = reads λ p. comes_to (bound_over [] p.vars statement)

    Calling : Option Definition → Doing (Result Call Failure)
    Calling found = reads λ p. comes_to (call_over around status name arguments p.vars found)

    Finding : Doing (Result Call Failure)
    Finding = finds_by (known_by around statement name) name >>= λ found. Binding >>= λ of. Calling found

-- ---- the triggers that a write fires

abbrev pub TriggerBack : TriggerTree → Type 0
TriggerBack trigger = AllByRecursion (Everywhere ReadsBack) trigger.body

abbrev pub FiresBack : Written → Type 0
FiresBack w = AllByRecursion TriggerBack w.fires

get_back : (definitions : List Definition) (place : ℕ) → AllBack definitions → BackIf (slice_get definitions place)
get_back [] place all = tt
get_back (first ∷ rest) zero all = all.0
get_back (first ∷ rest) (suc place) all = get_back rest place all.1

map_back : (definitions : List Definition) (places : List ℕ) → AllBack definitions → AllByRecursion TriggerBack (filter_map (λ place. trigger_in (slice_get definitions place)) places)
map_back definitions [] all = tt
map_back definitions (place ∷ places) all = by_found (slice_get definitions place) (get_back definitions place all) (map_back definitions places all)
  where
    Rest : List TriggerTree
    Rest = filter_map (λ place. trigger_in (slice_get definitions place)) places

    by_found : (found : Option Definition) → BackIf found → AllByRecursion TriggerBack Rest → AllByRecursion TriggerBack (cons_option (trigger_in found) Rest)
    by_found None back rest = rest
    by_found (Some (Table table)) back rest = rest
    by_found (Some (Procedure procedure)) back rest = rest
    by_found (Some (Trigger trigger)) back rest = (back, rest)

filter_back : (test : TriggerTree → Bool) (triggers : List TriggerTree) → AllByRecursion TriggerBack triggers → AllByRecursion TriggerBack (filter test triggers)
filter_back test [] all = tt
filter_back test (trigger ∷ triggers) all = by_test (test trigger) (filter_back test triggers all.1)
  where
    by_test : (b : Bool) → AllByRecursion TriggerBack (filter test triggers) → AllByRecursion TriggerBack (if b then trigger ∷ filter test triggers else filter test triggers)
    by_test true rest = (all.0, rest)
    by_test false rest = rest

fires_back : (around : Around) (definitions : List Definition) (write : BoundWrite) → AllBack definitions → AllByRecursion TriggerBack (fires_of around definitions write)
fires_back around definitions write all = filter_back _ _ (map_back definitions (triggers_for (table_written write).object (event_of write) definitions) all)

changes_yield : (around : Around) (shape : TableTree) (shapes : List TableTree) (write : BoundWrite) → Yields (Well FiresBack) (changes around shape shapes write)
unfolding changes
changes_yield around shape shapes write = yields_bind AllBack FiresBack reads_definitions _ definitions_yield
    (λ definitions all. yields_on FiresBack (reads_images (given_in around.fired) (shape ∷ shapes) (bound.Write write)) _
    (λ images. yields_on FiresBack (reads λ p. comes_to (planned_over around p (shape ∷ shapes) write images)) _
    (λ planned. yields_on FiresBack (reads λ p. comes_to (Ok (told_by (done_kind around) p.settings.no_count write planned))) _
    (λ effect. yields_on FiresBack (if_it_fits effect) _
    (λ fitting. yields_bind (AllByRecursion TriggerBack) FiresBack (comes_to (Ok (fires_of around definitions write))) _ (yields_room (AllByRecursion TriggerBack) (over (Ok (fires_of around definitions write))) (fires_back around definitions write all))
    (λ fires back. yields_on FiresBack (comes_to (Ok (fired_by (shape_or shape (shape_of (table_written write) (shape ∷ shapes))) write images planned))) _
    (λ fired. yields_on FiresBack (with_room (applies (tables_of definitions) planned)) _ (λ mark. back))))))))

bound_yields : (around : Around) (shapes : List TableTree) (of : Bound) → Yields (Well FiresBack) (change_bound around shapes of)
bound_yields around [] of = tt
bound_yields around (shape ∷ shapes) (bound.Write write) = changes_yield around shape shapes write
bound_yields around (shape ∷ shapes) (bound.Query query) = tt
bound_yields around (shape ∷ shapes) (bound.Assign query places) = tt
bound_yields around (shape ∷ shapes) bound.Plain = tt

-- of a write that is bound, and done up to where its triggers run
pub write_yields : (around : Around) (statement : Statement) → Yields (Well FiresBack) (binds around statement (change_bound around))
unfolding binds
write_yields around statement = yields_on FiresBack (prepares around statement) (λ made. change_bound around made.0 made.1) (λ made. bound_yields around made.0 made.1)
