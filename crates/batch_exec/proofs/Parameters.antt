-- The parameters of a call by RPC, one after another: its variables, its arguments and what it gives back.
use Rattle.std.proofs.Common.{◌≡◌, ℕ, zero, suc, pos, negsuc, ◌+◌, ◌-◌, ◌<◌, ◌≤◌, ◌==◌, Bool, true, false, cond, if◌then◌else◌, not, T, nat_le, nat_lt, ◌&&◌, ◌||◌, ltb-false, List, [], ◌∷◌, ◌++◌, append_assoc, append-nil, arith, drop, filter, get_or, length, length-append, length-drop, map, None, Some, Result, Ok, Err, refl, sym, ap, ◌∙◌, subst, le-leb, eqb-true}
use Rattle.std.specs.Prelude.{All, IfOk, slice_set}
use Rattle.std.specs.List.{enumerate_from}
use Rattle.std.proofs.lemmas.List.{drop_all, drop_more}
use Rattle.value_types.specs.declared.memory.Memory.{Memory}
use Rattle.value_types.specs.declared.sql_type.SqlType.{SqlType}
use Rattle.value_types.specs.declared.sql_type.SqlType.TheVariants.{TinyInt, SmallInt, Int, BigInt, Bit as BitType, NText}
use Rattle.value_types.specs.declared.value.Value.{Value}
use Rattle.value_types.specs.declared.value.Value.TheVariants.{Null, Whole, Bit, Text}
use Rattle.value_types.specs.Types.{IsOf}
use Rattle.rpc_requests.specs.declared.call.RpcParameter.{RpcParameter}
use Rattle.rpc_requests.specs.Fit.{IsKind, IsParameter, IsOf as IsSent}
use Rattle.session_vars.specs.declared.Variable.{Variable}
use Rattle.session_vars.specs.Variables.{HasItsType, StandsAt, fresh}
use Rattle.tsql_tree.specs.declared.definition.Parameter.{Parameter}
use Rattle.tsql_tree.specs.declared.statement.Argument.{Argument}
use Rattle.typed_nodes.specs.Nodes.{is_kind}
use Rattle.tds_tokens.specs.declared.token.Token.{Token}
use Rattle.tds_tokens.specs.declared.token.Token.TheVariants.{ReturnValue}
use Rattle.tds_tokens.specs.Fit.{FitTokens}
use Rattle.session_state.specs.Sendable.{IsFit}
use Rattle.statement_exec.proofs.Results.{kind_fits, value_fits}
use Rattle.batch_meaning.specs.declared.errand.Errand.{Errand}
use Rattle.batch_meaning.specs.declared.errand.Way.{Way}
use Rattle.batch_meaning.specs.declared.errand.Way.TheVariants as way
use Rattle.batch_meaning.specs.Rpc.{Placed, is_given, is_output, is_too_many, name_given, passed_by, return_value, rpc_argument, rpc_arguments, rpc_var, skips, variable_at}
use Rattle.batch_exec.specs.Running.{arguments_from, arguments_of_placed, own_in, values_told}
use Rattle.batch_exec.proofs.Called.{declared_is}

-- ---- what is made of each

-- what is made of the first, in front of what is made of those behind it
first_of : {B : Type 0} (test : Placed → Bool) (make : Placed → B) (x : Placed) (xs : List Placed) → map make (filter test (x ∷ xs)) ≡ map make (filter test (x ∷ [])) ++ map make (filter test xs)
first_of {B = B} test make x xs = by_test (test x)
  where
    by_test : (b : Bool) → map make (cond b (x ∷ filter test xs) (filter test xs)) ≡ map make (cond b (x ∷ []) []) ++ map make (filter test xs)
    by_test true = refl
    by_test false = refl

-- so far, in front of what is made of those that are left, is all
module _ {B : Type 0} (make : ℕ → List RpcParameter → List B) (one : ℕ → RpcParameter → List B) (all now : List B) (parameters : List RpcParameter) (place at : ℕ) (goes : now ++ make place (drop at parameters) ≡ all) where
  -- one more
  one_more : ((rest : List RpcParameter) (parameter : RpcParameter) → make place (parameter ∷ rest) ≡ one place parameter ++ make (place + 1) rest)
      → (new : List B) (parameter : RpcParameter) → at < length parameters → parameter ≡ get_or parameters at parameter → new ≡ now ++ one place parameter → new ++ make (place + 1) (drop (at + 1) parameters) ≡ all
  one_more first new parameter within is added =
      let rest : List RpcParameter = drop (at + 1) parameters in
      let next : drop at parameters ≡ parameter ∷ rest = drop_more parameters at parameter within ∙ ap (λ (p : RpcParameter). p ∷ rest) (sym is) in
      ap (λ (made : List B). made ++ make (place + 1) rest) added ∙ append_assoc now (one place parameter) (make (place + 1) rest)
      ∙ ap (λ (made : List B). now ++ made) (sym (first rest parameter) ∙ ap (make place) (sym next)) ∙ goes

  -- none is left
  none_more : make place [] ≡ [] → length parameters ≤ at → now ≡ all
  none_more none past = sym (append-nil now) ∙ ap (λ (made : List B). now ++ made) (sym (ap (make place) (drop_all at parameters past) ∙ none)) ∙ goes

-- what a call gives is this, too
pub made_is : {A : Type 0} (one other : A) (came : Result A Memory) → one ≡ other → IfOk came (λ a. a ≡ one) → IfOk came (λ a. a ≡ other)
made_is {A = A} one other came same is = subst (λ (x : A). IfOk came (λ a. a ≡ x)) same is

-- one of parameters that all have a spelling
pub fits_at : (parameters : List RpcParameter) (at : ℕ) (parameter : RpcParameter) → All IsParameter parameters → at < length parameters → parameter ≡ get_or parameters at parameter → IsParameter parameter
fits_at parameters at parameter all within is = subst IsParameter (sym is) (all at parameter within)

-- no more than a batch may name variables
pub few_of : (parameters : List RpcParameter) → nat_lt 10000 (length parameters) ≡ false → length parameters ≤ 10000
few_of parameters few = ltb-false 10000 (length parameters) few

-- ---- its variables

-- a parameter that is declared, as that of a procedure
abbrev pub parameter_at : ℕ → RpcParameter → Parameter
parameter_at place parameter = record { name = variable_at place; kind = parameter.kind; output = parameter.output }

-- its variable is added
pub declared_at : (vars q r : List Variable) (parameter : RpcParameter) (place : ℕ) (name : List ℕ) (value : Value) → place ≡ length vars → name ≡ variable_at place → value ≡ parameter.value
    → q ≡ vars ++ fresh name parameter.kind ∷ [] → ((variable : Variable) → StandsAt place variable q → r ≡ slice_set q place (record variable { value = value })) → r ≡ vars ++ rpc_var (length vars, parameter) ∷ []
declared_at vars q r parameter place name value at_end named same added sets =
    declared_is vars q (parameter_at place parameter) name place at_end named added value r sets
    ∙ ap (λ (n : ℕ). vars ++ record { name = variable_at n; kind = parameter.kind; value = value } ∷ []) at_end
    ∙ ap (λ (v : Value). vars ++ record { name = variable_at (length vars); kind = parameter.kind; value = v } ∷ []) same

pub vars_more : (all now new : List Variable) (parameters : List RpcParameter) (at : ℕ) (parameter : RpcParameter) → at < length parameters → parameter ≡ get_or parameters at parameter
    → length now ≡ at → new ≡ now ++ rpc_var (length now, parameter) ∷ [] → now ++ map rpc_var (enumerate_from at (drop at parameters)) ≡ all → new ++ map rpc_var (enumerate_from (at + 1) (drop (at + 1) parameters)) ≡ all
vars_more all now new parameters at parameter within is many added goes =
    one_more (λ place rest. map rpc_var (enumerate_from place rest)) (λ place p. rpc_var (place, p) ∷ []) all now parameters at at goes (λ rest p. refl) new parameter within is (added ∙ ap (λ (n : ℕ). now ++ rpc_var (n, parameter) ∷ []) many)

pub vars_many : (now new : List Variable) (at : ℕ) (variable : Variable) → length now ≡ at → new ≡ now ++ variable ∷ [] → length new ≡ at + 1
vars_many now new at variable many added = ap length added ∙ length-append now (variable ∷ []) ∙ ap (λ (n : ℕ). n + 1) many

pub vars_all : (all now : List Variable) (parameters : List RpcParameter) (at : ℕ) → length parameters ≤ at → now ++ map rpc_var (enumerate_from at (drop at parameters)) ≡ all → now ≡ all
vars_all all now parameters at past goes = none_more (λ place rest. map rpc_var (enumerate_from place rest)) (λ place p. rpc_var (place, p) ∷ []) all now parameters at at goes refl past

-- ---- its arguments

pub arguments_more : (all now new : List Argument) (parameters : List RpcParameter) (first at : ℕ) (parameter : RpcParameter) → at < length parameters → parameter ≡ get_or parameters at parameter
    → new ≡ now ++ arguments_of_placed ((first + at, parameter) ∷ []) → now ++ arguments_from (first + at) (drop at parameters) ≡ all → new ++ arguments_from (first + (at + 1)) (drop (at + 1) parameters) ≡ all
arguments_more all now new parameters first at parameter within is added goes =
    let same : first + (at + 1) ≡ first + at + 1 = omega arith in
    ap (λ (n : ℕ). new ++ arguments_from n (drop (at + 1) parameters)) same
    ∙ one_more arguments_from (λ place p. arguments_of_placed ((place, p) ∷ [])) all now parameters (first + at) at goes (λ rest p. first_of is_given rpc_argument (first + at, p) (enumerate_from (first + at + 1) rest)) new parameter within is added

pub arguments_all : (all now : List Argument) (parameters : List RpcParameter) (first at : ℕ) → length parameters ≤ at → now ++ arguments_from (first + at) (drop at parameters) ≡ all → now ≡ all
arguments_all all now parameters first at past goes = none_more arguments_from (λ place p. arguments_of_placed ((place, p) ∷ [])) all now parameters (first + at) at goes refl past

-- those behind some have the places behind these
numbered_behind : (own at place : ℕ) → place ≡ at + own → (parameters : List RpcParameter) → enumerate_from place (drop own parameters) ≡ drop own (enumerate_from at parameters)
numbered_behind zero at place is parameters = let same : place ≡ at = omega (arith, is) in ap (λ (n : ℕ). enumerate_from n parameters) same
numbered_behind (suc own) at place is [] = refl
numbered_behind (suc own) at place is (parameter ∷ others) = numbered_behind own (at + 1) place (omega (arith, is)) others

arguments_passed : (of : Way) (parameters : List RpcParameter) → arguments_from (own_in of) (passed_by of parameters) ≡ arguments_of_placed (passed_by of (enumerate_from 0 parameters))
arguments_passed (way.LooksUp name) parameters = refl
arguments_passed (way.RunsRead own) parameters = ap arguments_of_placed (numbered_behind own 0 own (omega arith) parameters)
arguments_passed way.RunsBatch parameters = refl
arguments_passed way.Tells parameters = refl
arguments_passed way.Unmatched parameters = refl
arguments_passed (way.Unknown handle) parameters = refl

-- those of a call
pub arguments_are : (call : Errand) (first : ℕ) (parameters passed : List RpcParameter) → first ≡ own_in call.way → parameters ≡ call.parameters → passed ≡ passed_by call.way parameters → arguments_from first passed ≡ rpc_arguments call
arguments_are call first parameters passed many same is =
    ap (λ (n : ℕ). arguments_from n passed) many ∙ ap (arguments_from (own_in call.way)) (is ∙ ap (λ (ps : List RpcParameter). passed_by call.way ps) same) ∙ arguments_passed call.way call.parameters

-- there are no more of them than places
fewer_passed : (of : Way) (parameters : List RpcParameter) → length (passed_by of parameters) ≤ length parameters
fewer_passed (way.LooksUp name) parameters = omega arith
fewer_passed (way.RunsRead own) parameters = let many : length (drop own parameters) ≡ length parameters - own = length-drop own parameters in omega (arith, many)
fewer_passed way.RunsBatch parameters = omega arith
fewer_passed way.Tells parameters = omega arith
fewer_passed way.Unmatched parameters = omega arith
fewer_passed (way.Unknown handle) parameters = omega arith

pub few_passed : (call : Errand) (first : ℕ) (parameters passed : List RpcParameter) → is_too_many call ≡ false → first < 256 → parameters ≡ call.parameters → passed ≡ passed_by call.way parameters → first + length passed < 65536
few_passed call first parameters passed few small same is =
    let most : length call.parameters ≤ 10000 = few_of call.parameters few in
    let all : length parameters ≡ length call.parameters = ap length same in
    let many : length passed ≡ length (passed_by call.way parameters) = ap length is in
    let fewer : length (passed_by call.way parameters) ≤ length parameters = fewer_passed call.way parameters in
    omega (arith, most, all, many, fewer, small)

-- ---- places

-- one that stands by its place behind one that is not given, or the rest by whether this one is
displaced : (behind missing unnamed : Bool) (rest : Bool → Bool) → (behind && (not missing && unnamed)) ≡ true → true ≡ (if missing then rest true else if behind && unnamed then true else rest behind)
displaced true true unnamed rest is = absurd (let never : false ≡ true = is in cc)
displaced true false true rest is = refl
displaced true false false rest is = absurd (let never : false ≡ true = is in cc)
displaced false missing unnamed rest is = absurd (let never : false ≡ true = is in cc)

in_place : (behind missing unnamed : Bool) (rest : Bool → Bool) → (behind && (not missing && unnamed)) ≡ false → rest (behind || missing) ≡ (if missing then rest true else if behind && unnamed then true else rest behind)
in_place true true unnamed rest is = refl
in_place true false true rest is = absurd (let never : true ≡ false = is in cc)
in_place true false false rest is = refl
in_place false true unnamed rest is = refl
in_place false false unnamed rest is = refl

module _ (parameters : List RpcParameter) (at : ℕ) (behind : Bool) (goes : skips behind (drop at parameters) ≡ skips false parameters) where
  from_next : (parameter : RpcParameter) → at < length parameters → parameter ≡ get_or parameters at parameter → skips behind (parameter ∷ drop (at + 1) parameters) ≡ skips false parameters
  from_next parameter within is =
      ap (skips behind) (sym (drop_more parameters at parameter within ∙ ap (λ (p : RpcParameter). p ∷ drop (at + 1) parameters) (sym is))) ∙ goes

  pub skips_here : (parameter : RpcParameter) → at < length parameters → parameter ≡ get_or parameters at parameter → (behind && (not parameter.missing && length parameter.name == 0)) ≡ true → true ≡ skips false parameters
  skips_here parameter within is displaces = displaced behind parameter.missing (length parameter.name == 0) (λ (b : Bool). skips b (drop (at + 1) parameters)) displaces ∙ from_next parameter within is

  pub skips_on : (parameter : RpcParameter) → at < length parameters → parameter ≡ get_or parameters at parameter → (behind && (not parameter.missing && length parameter.name == 0)) ≡ false
      → skips (behind || parameter.missing) (drop (at + 1) parameters) ≡ skips false parameters
  skips_on parameter within is stays = in_place behind parameter.missing (length parameter.name == 0) (λ (b : Bool). skips b (drop (at + 1) parameters)) stays ∙ from_next parameter within is

  pub skips_none : length parameters ≤ at → false ≡ skips false parameters
  skips_none past = sym (ap (skips behind) (drop_all at parameters past)) ∙ goes

-- the name of one
pub none_given : (name : List ℕ) → (length name == 0) ≡ true → None ≡ name_given name
none_given [] is = refl
none_given (unit ∷ units) is = let none : length (unit ∷ units) ≡ 0 = eqb-true (length (unit ∷ units)) 0 is in absurd (omega (arith, none))

pub some_given : (name copy : List ℕ) → (length name == 0) ≡ false → copy ≡ name → Some copy ≡ name_given name
some_given [] copy is same = absurd (let never : true ≡ false = is in cc)
some_given (unit ∷ units) copy is same = ap Some same

-- ---- what it gives back

pub told_more : (vars : List Variable) (all now new : List Token) (parameters : List RpcParameter) (at : ℕ) (parameter : RpcParameter) → at < length parameters → parameter ≡ get_or parameters at parameter
    → new ≡ now ++ values_told vars ((at, parameter) ∷ []) → now ++ values_told vars (enumerate_from at (drop at parameters)) ≡ all → new ++ values_told vars (enumerate_from (at + 1) (drop (at + 1) parameters)) ≡ all
told_more vars all now new parameters at parameter within is added goes =
    one_more (λ place rest. values_told vars (enumerate_from place rest)) (λ place p. values_told vars ((place, p) ∷ [])) all now parameters at at goes (λ rest p. first_of is_output (return_value vars) (at, p) (enumerate_from (at + 1) rest)) new parameter within is added

pub told_all : (vars : List Variable) (all now : List Token) (parameters : List RpcParameter) (at : ℕ) → length parameters ≤ at → now ++ values_told vars (enumerate_from at (drop at parameters)) ≡ all → now ≡ all
told_all vars all now parameters at past goes = none_more (λ place rest. values_told vars (enumerate_from place rest)) (λ place p. values_told vars ((place, p) ∷ [])) all now parameters at at goes refl past

-- of one that is not OUTPUT
pub not_told : (vars : List Variable) (tokens : List Token) (place : ℕ) (parameter : RpcParameter) → parameter.output ≡ false → tokens ≡ tokens ++ values_told vars ((place, parameter) ∷ [])
not_told vars tokens place parameter isnt = sym (ap (λ (b : Bool). tokens ++ map (return_value vars) (cond b ((place, parameter) ∷ []) [])) isnt ∙ append-nil tokens)

-- and of one that is
pub is_told : (vars : List Variable) (tokens new : List Token) (token : Token) (place : ℕ) (parameter : RpcParameter) → parameter.output ≡ true → token ≡ return_value vars (place, parameter)
    → new ≡ tokens ++ token ∷ [] → new ≡ tokens ++ values_told vars ((place, parameter) ∷ [])
is_told vars tokens new token place parameter is same added =
    added ∙ ap (λ (t : Token). tokens ++ t ∷ []) same ∙ sym (ap (λ (b : Bool). tokens ++ map (return_value vars) (cond b ((place, parameter) ∷ []) [])) is)

-- ---- the value of a variable

-- a copy of a value has what that has
pub copy_has : (Has : Value → Type 0) (value : Value) (came : Result Value Memory) → Has value → IfOk came (λ copy. copy ≡ value) → IfOk came Has
copy_has Has value (Ok copy) has same = subst Has (sym same) has
copy_has Has value (Err memory) has same = tt

-- that of a variable of this type is one of it
pub typed_there : (vars : List Variable) (place : ℕ) (kind : SqlType) (value : Value) → All HasItsType vars → place < length vars → ((variable : Variable) → StandsAt place variable vars → kind ≡ variable.kind)
    → ((variable : Variable) → StandsAt place variable vars → value ≡ variable.value) → IsOf kind value
typed_there [] place kind value typed within kinds values = absurd (omega (arith, within))
typed_there (variable ∷ others) zero kind value typed within kinds values =
    subst (λ (k : SqlType). IsOf k value) (sym (kinds variable refl)) (subst (λ (v : Value). IsOf variable.kind v) (sym (values variable refl)) (typed 0 variable within))
typed_there (variable ∷ others) (suc place) kind value typed within kinds values = typed_there others place kind value (λ k d lt. typed (suc k) d (omega (arith, lt))) (omega (arith, within)) kinds values

-- ---- what has bytes

t_true : (b : Bool) → T b → b ≡ true
t_true true holds = refl
t_true false holds = absurd holds

both : (a b : Bool) → a ≡ true → b ≡ true → (a && b) ≡ true
both a b one two = ap (λ (c : Bool). c && b) one ∙ two

-- a value that was sent is one of its type
sent_is : (kind : SqlType) (value : Value) → IsSent kind value → IsOf kind value
sent_is kind Null sent = tt
sent_is TinyInt (Whole (pos n)) sent = both (nat_le 0 n) (nat_le n 255) (le-leb 0 n (omega arith)) (t_true (nat_le n 255) sent.1.le)
sent_is TinyInt (Whole (negsuc n)) sent = absurd sent.0.le
sent_is SmallInt (Whole (pos n)) sent = let fits = sent.sfits in le-leb n 32767 (omega arith)
sent_is SmallInt (Whole (negsuc n)) sent = let fits = sent.sfits in both (nat_le n 32767) true (le-leb n 32767 (omega arith)) refl
sent_is Int (Whole (pos n)) sent = let fits = sent.sfits in le-leb n 2147483647 (omega arith)
sent_is Int (Whole (negsuc n)) sent = let fits = sent.sfits in both (nat_le n 2147483647) true (le-leb n 2147483647 (omega arith)) refl
sent_is BigInt (Whole (pos n)) sent = let fits = sent.sfits in le-leb n 9223372036854775807 (omega arith)
sent_is BigInt (Whole (negsuc n)) sent = let fits = sent.sfits in both (nat_le n 9223372036854775807) true (le-leb n 9223372036854775807 (omega arith)) refl
sent_is BitType (Bit bit) sent = tt
sent_is (NText size) (Text units) sent = sent.0
sent_is BitType (Whole number) sent = absurd sent
sent_is (NText size) (Whole number) sent = absurd sent
sent_is kind value sent = absurd sent

pub copied_is : (kind : SqlType) (value copy : Value) → copy ≡ value → IsSent kind value → IsOf kind copy
copied_is kind value copy same sent = subst (IsOf kind) (sym same) (sent_is kind value sent)

-- a type that was sent is a column's
kind_real : (kind : SqlType) → IsKind kind → is_kind kind ≡ true
kind_real (NText size) sent = both (nat_le 1 size) (nat_le size 4000) (le-leb 1 size sent.0) (le-leb size 4000 sent.1)
kind_real TinyInt sent = refl
kind_real SmallInt sent = refl
kind_real Int sent = refl
kind_real BigInt sent = refl
kind_real BitType sent = refl

-- of a parameter whose variable has a value of its type
pub told_fits : (place : ℕ) (parameter : RpcParameter) (value : Value) → IsParameter parameter → IsOf parameter.kind value → IsFit (ReturnValue place parameter.name parameter.kind value ∷ [])
unfolding FitTokens
told_fits place parameter value sent of =
    let real = kind_real parameter.kind sent.kind in
    let short : length parameter.name ≤ 128 = sent.name.0 in
    λ columns. ((omega (arith, short), kind_fits parameter.kind real, value_fits parameter.kind value real of), tt)
