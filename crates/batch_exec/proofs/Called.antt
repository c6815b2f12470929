-- A call: what is found and bound, the variables of its procedure, and what it gives back.
use Rattle.std.proofs.Common.{◌≡◌, ℕ, zero, suc, ◌<◌, ◌≤◌, ℤ, pos, Bool, true, false, inl, inr, List, [], ◌∷◌, ◌++◌, append_assoc, ◌+◌, append-nil, arith, length, map, take, get_or, Option, None, Some, Result, Ok, Err, refl, sym, ap, ◌∙◌, subst, if◌then◌else◌}
use Rattle.std.specs.Prelude.{nat_le, slice_get, slice_set}
use Rattle.std.specs.Result.{IsErr, IsErrAnd}
use Rattle.std.proofs.lemmas.List.{take_all, take_more}
use Rattle.value_types.specs.declared.memory.Memory.{Memory}
use Rattle.value_types.specs.declared.value.Value.{Value}
use Rattle.value_types.specs.declared.value.Value.TheVariants.{Null}
use Rattle.tsql_tree.specs.declared.definition.Definition.{Definition}
use Rattle.tsql_tree.specs.declared.definition.Definition.TheVariants.{Table, Procedure, Trigger}
use Rattle.tsql_tree.specs.declared.definition.Parameter.{Parameter}
use Rattle.tsql_tree.specs.declared.definition.ProcedureTree.{ProcedureTree}
use Rattle.tsql_tree.specs.declared.statement.Argument.{Argument}
use Rattle.tsql_tree.specs.declared.statement.Statement.{Statement}
use Rattle.bound_tree.specs.declared.write.Bound.{Bound}
use Rattle.bound_tree.specs.Outcomes.{Outcome, after}
use Rattle.bound_tree.specs.Typed.{GivesOf}
use Rattle.bound_tree.proofs.Kept.{conversion_kept}
use Rattle.session_vars.specs.declared.Variable.{Variable}
use Rattle.session_vars.specs.Variables.{FitsAt, HasItsType, StandsAt, fresh}
use Rattle.call_rules.specs.Arguments.{argument_values, matched, taken_by, taken_where, value_of, values_taken}
use Rattle.step_model.specs.Port.{PortPast}
use Rattle.batch_meaning.specs.declared.exit.Exit.{Exit}
use Rattle.batch_meaning.specs.declared.exit.Exit.TheVariants.{On, Leave, Again, Return, Raise, RaiseUp, End}
use Rattle.batch_meaning.specs.declared.failure.Failure.{Failure}
use Rattle.batch_meaning.specs.Failures.{plain}
use Rattle.batch_meaning.specs.Raised.{Around}
use Rattle.batch_meaning.specs.Selecting.{bound_over}
use Rattle.batch_meaning.specs.Progress.{Ready, SessionProgress, made, tells_rows, values_of}
use Rattle.batch_meaning.specs.Doing.{Did, Doing, makes, over, reads, ◌then◌}
use Rattle.batch_meaning.specs.Asking.{◌>>=◌, assigns_all, comes_to, finds_by, on_ok, with_room}
use Rattle.batch_meaning.specs.Calls.{Call, are_standing, call_of, call_over, call_with, finds_call, no_procedure, parameter_var, parameter_vars, too_deep}
use Rattle.batch_meaning.specs.Meaning.{gives_back, returns_from}
use Rattle.batch_meaning.specs.Values.{Assigned, outside_limits}
use Rattle.batch_meaning.specs.Working.{known_by}
use Rattle.batch_meaning.proofs.Composed.{does_makes, does_over, does_reads, does_room, does_then}
use Rattle.session_state.specs.Parts.{IsNamed, IsOrMemory, assigned_all}
use Rattle.session_state.proofs.Stepping.{assigned_only}
use Rattle.statement_exec.proofs.Beginning.{did_none, none_bind, none_comes, none_finds_by, none_own, none_roomed}
use Rattle.statement_exec.specs.Selected.{BoundSo, IsBoundFirst}
use Rattle.statement_exec.proofs.Parts.{does_read}
use Rattle.batch_exec.specs.Running.{AreTyped, call_bound, call_by, procedure_in, returned_with}

-- ---- what is called

module _ (around : Around) (name : List ℕ) (arguments : List Argument) (vars : List Variable) where
  -- no procedure was found
  pub call_none : (found : Option Definition) {failure : Failure} → None ≡ procedure_in found → IsNamed no_procedure name failure → IsOrMemory (call_of around name arguments vars found) (Err failure)
  call_none None is (inl same) = inl (ap Err same)
  call_none None is (inr none) = inr (ap Err none)
  call_none (Some (Table table)) is (inl same) = inl (ap Err same)
  call_none (Some (Table table)) is (inr none) = inr (ap Err none)
  call_none (Some (Procedure procedure)) is named = absurd (let no : None ≡ Some procedure = is in cc)
  call_none (Some (Trigger trigger)) is (inl same) = inl (ap Err same)
  call_none (Some (Trigger trigger)) is (inr none) = inr (ap Err none)

  -- one was, but no more may begin
  pub call_deep : (found : Option Definition) {procedure : ProcedureTree} {failure : Failure} → Some procedure ≡ procedure_in found → nat_le 32 around.depth ≡ true → failure ≡ plain too_deep → IsOrMemory (call_of around name arguments vars found) (Err failure)
  call_deep None {procedure = procedure} is deep same = absurd (let no : Some procedure ≡ None = is in cc)
  call_deep (Some (Table table)) {procedure = procedure} is deep same = absurd (let no : Some procedure ≡ None = is in cc)
  call_deep (Some (Procedure procedure)) is deep same = inl (rw deep (ap Err same))
  call_deep (Some (Trigger trigger)) {procedure = procedure} is deep same = absurd (let no : Some procedure ≡ None = is in cc)

  -- or one may
  pub call_some : (found : Option Definition) {procedure : ProcedureTree} {result : Result Call Failure} → Some procedure ≡ procedure_in found → nat_le 32 around.depth ≡ false → IsOrMemory (call_with procedure (argument_values vars procedure.parameters arguments)) result → IsOrMemory (call_of around name arguments vars found) result
  call_some None {procedure = procedure} is deep made = absurd (let no : Some procedure ≡ None = is in cc)
  call_some (Some (Table table)) {procedure = procedure} is deep made = absurd (let no : Some procedure ≡ None = is in cc)
  call_some (Some (Procedure other)) {procedure = procedure} {result = result} is deep made =
      let same : procedure ≡ other = cc in
      rw deep (subst (λ (q : ProcedureTree). IsOrMemory (call_with q (argument_values vars q.parameters arguments)) result) same made)
  call_some (Some (Trigger trigger)) {procedure = procedure} is deep made = absurd (let no : Some procedure ≡ None = is in cc)

-- the values are of the parameters' types
taken_typed : (vars : List Variable) (parameters : List Parameter) (arguments : List Argument) (values : List Value) → values_taken vars parameters arguments ≡ Ok values → AreTyped parameters values
taken_typed vars [] arguments values is = tt
taken_typed vars (parameter ∷ parameters) [] values is = subst (AreTyped (parameter ∷ parameters)) (let none : [] ≡ values = cc in none) tt
taken_typed vars (parameter ∷ parameters) (argument ∷ arguments) values is =
    by_first (taken_by parameter.kind (value_of vars argument.value)) (conversion_kept _ parameter.kind (Ok (value_of vars argument.value))) (values_taken vars parameters arguments) (λ rest so. taken_typed vars parameters arguments rest so) is
  where
    by_rest : (first : Value) → GivesOf parameter.kind (Ok first) → (rest : Outcome (List Value)) → ((others : List Value) → rest ≡ Ok others → AreTyped parameters others) → after rest (λ others. Ok (first ∷ others)) ≡ Ok values → AreTyped (parameter ∷ parameters) values
    by_rest first of (Ok rest) later is = subst (AreTyped (parameter ∷ parameters)) (let all : first ∷ rest ≡ values = cc in all) (of, later rest refl)
    by_rest first of (Err number) later is = absurd cc

    by_first : (first : Outcome Value) → GivesOf parameter.kind first → (rest : Outcome (List Value)) → ((others : List Value) → rest ≡ Ok others → AreTyped parameters others) → after first (λ one. after rest (λ others. Ok (one ∷ others))) ≡ Ok values → AreTyped (parameter ∷ parameters) values
    by_first (Ok first) of rest later is = by_rest first of rest later is
    by_first (Err number) of rest later is = absurd cc

pub values_typed : (vars : List Variable) (parameters : List Parameter) (arguments : List Argument) (values : List Value) → argument_values vars parameters arguments ≡ Ok values → AreTyped parameters values
values_typed vars parameters arguments values is = by_match (matched parameters arguments) is
  where
    by_match : (found : Option (List Argument)) → taken_where vars parameters found ≡ Ok values → AreTyped parameters values
    by_match None same = absurd cc
    by_match (Some those) same = taken_typed vars parameters those values same

-- ---- what is bound

module _ (around : Around) (statement : Statement) (status : Option (List ℕ)) (name : List ℕ) (arguments : List Argument) where
  -- the call is not bound
  pub call_unbound : (p : SessionProgress) (found : Option Definition) (failure : Failure) (result : Result Call Failure) → IsErr result → IsErrAnd result (λ x. x ≡ failure) → IsBoundFirst p statement (Err failure) → IsOrMemory (call_bound around statement status name arguments p found) result
  unfolding call_bound
  call_unbound p found failure (Ok call) err same is = absurd (let never : false ≡ true = err in cc)
  call_unbound p found failure (Err x) err same is = by_bound (bound_over [] p.vars statement) is
    where
      by_bound : (of : Result Bound Failure) → BoundSo of (Err failure) → IsOrMemory (call_by around statement status name arguments p found of) (Err x)
      by_bound (Ok of) (inl never) = absurd cc
      by_bound (Ok of) (inr none) = inr (let that : failure ≡ plain 701 = cc in ap Err (same ∙ that))
      by_bound (Err why) (inl so) = inl (let that : failure ≡ why = cc in ap Err (same ∙ that))
      by_bound (Err why) (inr none) = inr (let that : failure ≡ plain 701 = cc in ap Err (same ∙ that))

  -- or it is
  pub call_on : (p : SessionProgress) (found : Option Definition) {result : Result Call Failure} → IsBoundFirst p statement (Ok tt) → IsOrMemory (call_over around status name arguments p.vars found) result → IsOrMemory (call_bound around statement status name arguments p found) result
  unfolding call_bound
  call_on p found {result = result} is made = by_bound (bound_over [] p.vars statement) is
    where
      by_bound : (of : Result Bound Failure) → BoundSo of (Ok tt) → IsOrMemory (call_by around statement status name arguments p found of) result
      by_bound (Ok of) so = made
      by_bound (Err failure) (inl never) = absurd cc
      by_bound (Err failure) (inr never) = absurd cc

  -- the variables that it names stand
  pub call_standing : (p : SessionProgress) (found : Option Definition) {result : Result Call Failure} → IsBoundFirst p statement (Ok tt) → are_standing status arguments p.vars ≡ true
      → IsOrMemory (call_of around name arguments p.vars found) result → IsOrMemory (call_bound around statement status name arguments p found) result
  call_standing p found {result = result} is stands made =
      call_on p found is (subst (λ (b : Bool). IsOrMemory (if b then call_of around name arguments p.vars found else Err (plain outside_limits)) result) (sym stands) made)

  -- or one does not
  pub call_missing : (p : SessionProgress) (found : Option Definition) {failure : Failure} → IsBoundFirst p statement (Ok tt) → are_standing status arguments p.vars ≡ false → failure ≡ plain outside_limits → IsOrMemory (call_bound around statement status name arguments p found) (Err failure)
  call_missing p found {failure = failure} is missing same =
      call_on p found is (subst (λ (b : Bool). IsOrMemory (if b then call_of around name arguments p.vars found else Err (plain outside_limits)) (Err failure)) (sym missing) (inl (ap Err same)))

  -- what comes behind the look-up
  pub does_bound_call : {past : PortPast} (found : Option Definition) (result : Result Call Failure) {p : SessionProgress} → IsOrMemory (call_bound around statement status name arguments p found) result
      → Did past past ((reads λ q. comes_to (bound_over [] q.vars statement)) >>= λ of. reads λ q. comes_to (call_over around status name arguments q.vars found)) p (Ok result) p
  unfolding call_bound
  does_bound_call {past = past} found result {p = p} is = by_bound (bound_over [] p.vars statement) refl is
    where
      go : Bound → Doing (Result Call Failure)
      go of = reads λ q. with_room (over (call_over around status name arguments q.vars found))

      tree : Doing (Result Call Failure)
      tree = (reads λ q. with_room (over (bound_over [] q.vars statement))) >>= go

      wanting : result ≡ Err (plain 701) → Did past past tree p (Ok result) p
      wanting none = subst (λ (r : Result Call Failure). Did past past tree p (Ok r) p) (sym none) (does_then (reads λ q. with_room (over (bound_over [] q.vars statement))) (on_ok go) {a = Err (plain 701)} (does_reads (does_room false (does_over refl))) (does_over refl))

      by_bound : (of : Result Bound Failure) → bound_over [] p.vars statement ≡ of → IsOrMemory (call_by around statement status name arguments p found of) result → Did past past tree p (Ok result) p
      by_bound (Ok of) same made = does_then (reads λ q. with_room (over (bound_over [] q.vars statement))) (on_ok go) {a = Ok of} (does_reads (does_room true (rw same (does_over refl)))) (does_read (λ q. call_over around status name arguments q.vars found) result made)
      by_bound (Err failure) same (inl so) = subst (λ (r : Result Call Failure). Did past past tree p (Ok r) p) (sym so) (does_then (reads λ q. with_room (over (bound_over [] q.vars statement))) (on_ok go) {a = Err failure} (does_reads (does_room true (rw same (does_over refl)))) (does_over refl))
      by_bound (Err failure) same (inr none) = wanting none

-- what it asks begins no statement
pub calls_left : {before after : PortPast} (around : Around) (statement : Statement) (status : Option (List ℕ)) (name : List ℕ) (arguments : List Argument) {p new : SessionProgress} {result : Result (Result Call Failure) Memory}
    → Did before after (finds_call around statement status name arguments) p result new → new.statements_left ≡ p.statements_left
unfolding finds_call
calls_left around statement status name arguments did = did_none _ (none_roomed _ (none_own _ _ (none_bind (finds_by (known_by around statement name) name) _ (none_finds_by (known_by around statement name) name) (λ found. none_bind _ _ (none_comes _) (λ of. none_comes _))))) did

-- ---- variables that are assigned

does_sets : {before after : PortPast} {A : Type 0} (sets : List Assigned) (next : Doing A) {p new : SessionProgress} {result : Result A Memory} → Did before after next (assigned_all sets p) result new → Did before after (assigns_all sets next) p result new
unfolding assigns_all
does_sets [] next did = did
does_sets (one ∷ rest) next did = does_makes refl (does_sets rest next did)

pub does_assigned : {before after : PortPast} {A : Type 0} (sets : List Assigned) (next : Doing A) {p q new : SessionProgress} {result : Result A Memory} → q ≡ assigned_all sets p → Did before after next q result new → Did before after (assigns_all sets next) p result new
does_assigned {before = before} {after = after} sets next {new = new} {result = result} same did = does_sets sets next (subst (λ (x : SessionProgress). Did before after next x result new) same did)

pub left_assigned : (sets : List Assigned) (p q : SessionProgress) → q ≡ assigned_all sets p → q.statements_left ≡ p.statements_left
left_assigned sets p q is = ap (λ (x : SessionProgress). x.statements_left) (is ∙ assigned_only sets p)

pub ready_assigned : {past : PortPast} (sets : List Assigned) (p q : SessionProgress) → Ready p past → q ≡ assigned_all sets p → Ready q past
ready_assigned {past = past} sets p q ready is = subst (λ (x : SessionProgress). Ready x past) (sym (is ∙ assigned_only sets p)) (record { agree = ready.agree; live = ready.live; priority = ready.priority; counted = ready.counted; idle = ready.idle })

-- ---- how it returns

module _ (around : Around) (statement : Statement) (status : Option (List ℕ)) (arguments : List Argument) (call : Call) (count : ℕ) (inner : List Variable) where
  pub returns_ok : {before after : PortPast} (exit : Exit) (number : ℤ) {p new : SessionProgress} {result : Result Exit Memory} → Ok number ≡ returned_with exit
      → Did before after (gives_back around statement status arguments call count inner number) p result new → Did before after (returns_from around statement status arguments call count inner exit) p result new
  returns_ok {before = before} {after = after} exit number {p = p} {new = new} {result = result} is did = by_exit exit is
    where
      given : (other : ℤ) → number ≡ other → Did before after (gives_back around statement status arguments call count inner other) p result new
      given other same = subst (λ (n : ℤ). Did before after (gives_back around statement status arguments call count inner n) p result new) same did

      by_exit : (e : Exit) → Ok number ≡ returned_with e → Did before after (returns_from around statement status arguments call count inner e) p result new
      by_exit On so = given (pos 0) (let same : number ≡ pos 0 = cc in same)
      by_exit Leave so = given (pos 0) (let same : number ≡ pos 0 = cc in same)
      by_exit Again so = given (pos 0) (let same : number ≡ pos 0 = cc in same)
      by_exit (Return other) so = given other (let same : number ≡ other = cc in same)
      by_exit (Raise raised) so = absurd cc
      by_exit (RaiseUp raised) so = absurd cc
      by_exit End so = absurd cc

  pub returns_err : {now : PortPast} (exit out : Exit) {p q : SessionProgress} → Err out ≡ returned_with exit → q ≡ made (tells_rows 0) p → Did now now (returns_from around statement status arguments call count inner exit) p (Ok out) q
  returns_err {now = now} exit out {p = p} {q = q} is same = by_exit exit is
    where
      left : (other : Exit) → out ≡ other → Did now now (makes (tells_rows 0) (over other)) p (Ok out) q
      left other so = subst (λ (e : Exit). Did now now (makes (tells_rows 0) (over e)) p (Ok out) q) so (does_makes same (does_over refl))

      by_exit : (e : Exit) → Err out ≡ returned_with e → Did now now (returns_from around statement status arguments call count inner e) p (Ok out) q
      by_exit On so = absurd cc
      by_exit Leave so = absurd cc
      by_exit Again so = absurd cc
      by_exit (Return other) so = absurd cc
      by_exit (Raise raised) so = left (Raise raised) (let same : out ≡ Raise raised = cc in same)
      by_exit (RaiseUp raised) so = left (Raise raised) (let same : out ≡ Raise raised = cc in same)
      by_exit End so = left End (let same : out ≡ End = cc in same)

-- ---- its parameters

-- what stands, and what is left of parameters and values, is all
module _ (all vars : List Variable) (rest : List Parameter) (values : List Value) (goes : all ≡ vars ++ parameter_vars rest values) where
  -- no value is left
  pub vars_done : values ≡ [] → vars ≡ all
  vars_done none = sym (goes ∙ ap (λ (vs : List Value). vars ++ parameter_vars rest vs) none ∙ ap (λ (left : List Variable). vars ++ left) (no_values rest) ∙ append-nil vars)
    where
      no_values : (parameters : List Parameter) → parameter_vars parameters [] ≡ []
      no_values [] = refl
      no_values (parameter ∷ parameters) = refl

  -- no parameter is left
  pub vars_short : rest ≡ [] → vars ≡ all
  vars_short none = sym (goes ∙ ap (λ (parameters : List Parameter). vars ++ parameter_vars parameters values) none ∙ append-nil vars)

  -- one more
  pub vars_more : (parameter : Parameter) (others : List Parameter) (value : Value) (more : List Value) (q : List Variable) → rest ≡ parameter ∷ others → values ≡ value ∷ more → q ≡ vars ++ parameter_var parameter value ∷ [] → all ≡ q ++ parameter_vars others more
  vars_more parameter others value more q is left added =
      goes ∙ ap (λ (parameters : List Parameter). vars ++ parameter_vars parameters values) is ∙ ap (λ (vs : List Value). vars ++ parameter_vars (parameter ∷ others) vs) left
      ∙ sym (append_assoc vars (parameter_var parameter value ∷ []) (parameter_vars others more)) ∙ ap (λ (vs : List Variable). vs ++ parameter_vars others more) (sym added)

-- the next value is of its parameter's type, and so are those behind it
pub typed_both : (rest : List Parameter) (values : List Value) (parameter : Parameter) (others : List Parameter) (value : Value) (more : List Value) → rest ≡ parameter ∷ others → values ≡ value ∷ more → AreTyped rest values → HasItsType (parameter_var parameter value) × AreTyped others more
typed_both rest values parameter others value more is left typed = subst (AreTyped (parameter ∷ others)) left (subst (λ (parameters : List Parameter). AreTyped parameters values) is typed)

-- ---- a parameter that is declared

last_get : {A : Type 0} (xs : List A) (x : A) → slice_get (xs ++ x ∷ []) (length xs) ≡ Some x
last_get [] x = refl
last_get (y ∷ ys) x = last_get ys x

last_set : {A : Type 0} (xs : List A) (x z : A) → slice_set (xs ++ x ∷ []) (length xs) z ≡ xs ++ z ∷ []
last_set [] x z = refl
last_set (y ∷ ys) x z = ap (λ rest. y ∷ rest) (last_set ys x z)

module _ (vars q : List Variable) (parameter : Parameter) (name : List ℕ) (place : ℕ) (at_end : place ≡ length vars) (named : name ≡ parameter.name) (added : q ≡ vars ++ fresh name parameter.kind ∷ []) where
  placed : slice_get q place ≡ Some (fresh name parameter.kind)
  placed = ap (λ (vs : List Variable). slice_get vs place) added ∙ ap (slice_get (vars ++ fresh name parameter.kind ∷ [])) at_end ∙ last_get vars (fresh name parameter.kind)

  -- its value fits
  pub declared_fits : (value : Value) → HasItsType (parameter_var parameter value) → FitsAt place value q
  declared_fits value typed variable stands =
      let there : slice_get q place ≡ Some (fresh name parameter.kind) = placed in
      let same : fresh name parameter.kind ≡ variable = cc in
      subst (λ (v : Variable). HasItsType (record v { value = value })) same typed

  -- and is set
  pub declared_is : (value : Value) (r : List Variable) → ((variable : Variable) → StandsAt place variable q → r ≡ slice_set q place (record variable { value = value })) → r ≡ vars ++ parameter_var parameter value ∷ []
  declared_is value r sets =
      sets (fresh name parameter.kind) placed ∙ ap (λ (vs : List Variable). slice_set vs place (record { name = name; kind = parameter.kind; value = value })) added
      ∙ ap (λ (n : ℕ). slice_set (vars ++ fresh name parameter.kind ∷ []) n (record { name = name; kind = parameter.kind; value = value })) at_end
      ∙ last_set vars (fresh name parameter.kind) (record { name = name; kind = parameter.kind; value = value })
      ∙ ap (λ (n : List ℕ). vars ++ record { name = n; kind = parameter.kind; value = value } ∷ []) named

-- ---- what is given back

map_behind : {A B : Type 0} (f : A → B) (xs : List A) (x : A) → map f (xs ++ x ∷ []) ≡ map f xs ++ f x ∷ []
map_behind f [] x = refl
map_behind f (y ∷ ys) x = ap (λ rest. f y ∷ rest) (map_behind f ys x)

-- one more is made of an element
pub mapped_more : {A B : Type 0} (f : A → B) (start now new : List B) (xs : List A) (i : ℕ) (x : A) → x ≡ get_or xs i x → i < length xs → new ≡ now ++ f x ∷ [] → now ≡ start ++ map f (take i xs) → new ≡ start ++ map f (take (i + 1) xs)
mapped_more {A = A} {B = B} f start now new xs i x is within added so_far =
    added ∙ ap (λ (ys : List B). ys ++ f x ∷ []) so_far ∙ append_assoc start (map f (take i xs)) (f x ∷ []) ∙ ap (λ (ys : List B). start ++ ys) (sym (map_behind f (take i xs) x))
    ∙ ap (λ (y : A). start ++ map f (take i xs ++ y ∷ [])) is ∙ ap (λ (ys : List A). start ++ map f ys) (sym (take_more xs i x within))

-- all are
pub mapped_all : {A B : Type 0} (f : A → B) (start now : List B) (xs : List A) (i : ℕ) → length xs ≤ i → now ≡ start ++ map f (take i xs) → now ≡ start ++ map f xs
mapped_all {A = A} f start now xs i past so_far = so_far ∙ ap (λ (ys : List A). start ++ map f ys) (take_all i xs past)

-- the value of the variable at a place
pub value_there : (inner : List Variable) (place : ℕ) (value : Value) → place < length inner → ((variable : Variable) → StandsAt place variable inner → value ≡ variable.value) → value ≡ get_or (values_of inner) place Null
value_there [] place value within is = absurd (omega (arith, within))
value_there (variable ∷ others) zero value within is = is variable refl
value_there (variable ∷ others) (suc place) value within is = value_there others place value (omega (arith, within)) is

-- or there is none
pub value_missing : (inner : List Variable) (place : ℕ) → length inner ≤ place → Null ≡ get_or (values_of inner) place Null
value_missing [] place past = refl
value_missing (variable ∷ others) zero past = absurd (omega (arith, past))
value_missing (variable ∷ others) (suc place) past = value_missing others place (omega (arith, past))
