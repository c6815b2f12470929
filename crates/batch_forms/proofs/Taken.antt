-- The parameters of a call of a driver have a spelling, as those of any errand: a text that is longer than its type has it is none of them.
use Rattle.std.proofs.Common.{◌≡◌, ℕ, zero, suc, ◌-◌, ◌<◌, ◌≤◌, Bool, true, false, nat_lt, ltb-false, ℤ, pos, List, [], ◌∷◌, get_or, length, map, set, Option, None, Some, Result, Ok, Err, refl, sym, ap, ◌∙◌, subst, arith}
use Rattle.std.specs.Prelude.{All, FitsSigned, IfOk, is_some}
use Rattle.std.specs.Fmt.{signed_decimal}
use Rattle.std.specs.Int.{w32}
use Rattle.std.specs.List.{AllByRecursion}
use Rattle.std.specs.Option.{option_map}
use Rattle.std.proofs.lemmas.List.Elements.{All-from_recursion}
use Rattle.value_types.specs.declared.memory.Memory.{Memory}
use Rattle.value_types.specs.declared.sql_type.SqlType.{SqlType}
use Rattle.value_types.specs.declared.sql_type.SqlType.TheVariants.{TinyInt, SmallInt, Int, BigInt, Bit as BitType, NText}
use Rattle.value_types.specs.declared.value.Value.{Value}
use Rattle.value_types.specs.declared.value.Value.TheVariants.{Null, Whole, Bit, Text}
use Rattle.rpc_requests.specs.declared.call.DriverCall.{DriverCall}
use Rattle.rpc_requests.specs.declared.call.DriverProcedure.{DriverProcedure}
use Rattle.rpc_requests.specs.declared.call.DriverProcedure.TheVariants.{ExecuteSql, Prepare, Execute, PrepExec, Unprepare, Reset}
use Rattle.rpc_requests.specs.declared.call.DriverTarget.{DriverTarget}
use Rattle.rpc_requests.specs.declared.call.DriverTarget.TheVariants.{Named, System}
use Rattle.rpc_requests.specs.declared.call.RpcParameter.{RpcParameter}
use Rattle.rpc_requests.specs.Drivers.{front_count, front_of}
use Rattle.rpc_requests.specs.Fit.{AreDriverParameters, IsDriverParameter, IsName, IsOf, IsFrontValue, IsParameter}
use Rattle.batch_meaning.specs.declared.errand.Errand.{Errand}
use Rattle.batch_meaning.specs.declared.errand.Way.TheVariants as way
use Rattle.batch_meaning.specs.declared.prepared.PreparedStatement.{PreparedStatement}
use Rattle.batch_meaning.specs.Drivers.{KeptStatements, Source, Taken, are_too_many, by_handle, executed, executes, finds_kept, handle_in, is_above, keeps, kept_under, named_errand, next_handle, prepared_by, prepares, reset_text, served_by, short_value, shortened, source_for, sql_source, system_errand, system_taken, taken, target_taken, unmatched, unprepared, used_by, with_handle, without, without_sent}

-- ---- values

-- one of its type is one of a front parameter
front_value : (kind : SqlType) (value : Value) → IsOf kind value → IsFrontValue kind value
front_value (NText size) (Text units) fits = fits.1
front_value (NText size) Null fits = fits
front_value (NText size) (Whole number) fits = fits
front_value (NText size) (Bit bit) fits = fits
front_value TinyInt value fits = fits
front_value SmallInt value fits = fits
front_value Int value fits = fits
front_value BigInt value fits = fits
front_value BitType value fits = fits

short_fits : (kind : SqlType) (value : Value) → IsFrontValue kind value → IsOf kind (short_value (is_above kind value) value)
short_fits (NText size) (Text units) fits = by_size (nat_lt size (length units)) refl
  where
    by_size : (b : Bool) → nat_lt size (length units) ≡ b → IsOf (NText size) (short_value b (Text units))
    by_size true is = tt
    by_size false is = (ltb-false size (length units) is, fits)
short_fits (NText size) Null fits = fits
short_fits (NText size) (Whole number) fits = fits
short_fits (NText size) (Bit bit) fits = fits
short_fits TinyInt value fits = fits
short_fits SmallInt value fits = fits
short_fits Int value fits = fits
short_fits BigInt value fits = fits
short_fits BitType value fits = fits

-- ---- parameters

one_fits : (ahead : ℕ) (parameter : RpcParameter) → IsDriverParameter ahead parameter → IsParameter (shortened parameter)
one_fits zero parameter fits = record { name = fits.name; kind = fits.kind; value = short_fits parameter.kind parameter.value (front_value parameter.kind parameter.value fits.value) }
one_fits (suc ahead) parameter fits = record { name = fits.0; kind = fits.1; value = short_fits parameter.kind parameter.value fits.2 }

all_fit : (ahead : ℕ) (parameters : List RpcParameter) → AreDriverParameters ahead parameters → AllByRecursion IsParameter (map shortened parameters)
all_fit ahead [] fit = tt
all_fit ahead (parameter ∷ others) fit = (one_fits ahead parameter fit.0, all_fit (ahead - 1) others fit.1)

as_they_are : (parameters : List RpcParameter) → AreDriverParameters 0 parameters → AllByRecursion IsParameter parameters
as_they_are [] fit = tt
as_they_are (parameter ∷ others) fit = (fit.0, as_they_are others fit.1)

-- a handle is an INT
handle_fits : (number : ℕ) → number ≤ 2147483647 → FitsSigned w32 (pos number)
handle_fits number small = record { sfits = omega (arith, small) }

name_of : (ahead : ℕ) (parameter : RpcParameter) → IsDriverParameter ahead parameter → IsName parameter.name
name_of zero parameter fits = fits.name
name_of (suc ahead) parameter fits = fits.0

abbrev pub telling : ℕ → RpcParameter → RpcParameter
telling number parameter = record parameter { kind = Int; value = Whole (pos number) }

pub first_told : (number : ℕ) (parameters : List RpcParameter) (one told : RpcParameter) → 0 < length parameters → one ≡ get_or parameters 0 one → told ≡ telling number one → set parameters 0 told ≡ with_handle number parameters
first_told number [] one told some at is = absurd (omega (arith, some))
first_told number (handle ∷ others) one told some at is = ap (λ (first : RpcParameter). first ∷ others) (is ∙ ap (telling number) at)

told_fit : (ahead number : ℕ) (parameters : List RpcParameter) → number ≤ 2147483647 → AreDriverParameters ahead parameters → AllByRecursion IsParameter (map shortened (with_handle number parameters))
told_fit ahead number [] small fit = tt
told_fit ahead number (handle ∷ others) small fit = (record { name = name_of ahead handle fit.0; kind = tt; value = handle_fits number small }, all_fit (ahead - 1) others fit.1)

-- ---- errands

module _ (ahead : ℕ) (parameters : List RpcParameter) (fit : AreDriverParameters ahead parameters) where
  executes_fit : (source : Option Source) → AllByRecursion IsParameter (executes parameters source).parameters
  executes_fit None = all_fit ahead parameters fit
  executes_fit (Some source) = all_fit ahead parameters fit

  prepared_fit : (runs : Bool) (number : ℕ) → number ≤ 2147483647 → (source : Option Source) → AllByRecursion IsParameter (prepared_by runs number parameters source).parameters
  prepared_fit runs number small None = all_fit ahead parameters fit
  prepared_fit runs number small (Some source) = told_fit ahead number parameters small fit

  found_fit : (go : PreparedStatement → Taken) (p : KeptStatements) (handle : ℤ) → ((one : PreparedStatement) → AllByRecursion IsParameter (go one).0.parameters) → (found : Option PreparedStatement)
      → AllByRecursion IsParameter (finds_kept go p parameters handle found).0.parameters
  found_fit go p handle each None = all_fit ahead parameters fit
  found_fit go p handle each (Some one) = each one

  executed_fit : (p : KeptStatements) (handle : Option ℤ) → AllByRecursion IsParameter (by_handle (executed p parameters) p parameters handle).0.parameters
  executed_fit p None = all_fit ahead parameters fit
  executed_fit p (Some handle) = found_fit (executed p parameters handle) p handle (λ one. all_fit ahead parameters fit) (kept_under handle p)

  unprepared_fit : (p : KeptStatements) (handle : Option ℤ) → AllByRecursion IsParameter (by_handle (unprepared p parameters) p parameters handle).0.parameters
  unprepared_fit p None = all_fit ahead parameters fit
  unprepared_fit p (Some handle) = found_fit (unprepared p parameters handle) p handle (λ one. all_fit ahead parameters fit) (kept_under handle p)

  small_handle : (p : KeptStatements) → next_handle p ≤ 2147483647
  small_handle p = omega arith

  system_fit : (p : KeptStatements) (procedure : DriverProcedure) → AllByRecursion IsParameter (system_taken p parameters procedure).0.parameters
  system_fit p ExecuteSql = executes_fit (sql_source parameters)
  system_fit p Prepare = prepared_fit false (next_handle p) (small_handle p) (keeps p parameters).0
  system_fit p PrepExec = prepared_fit true (next_handle p) (small_handle p) (keeps p parameters).0
  system_fit p Execute = executed_fit p (handle_in parameters)
  system_fit p Unprepare = unprepared_fit p (handle_in parameters)
  system_fit p Reset = all_fit ahead parameters fit

  served_fit : (p : KeptStatements) (procedure : DriverProcedure) (many : Bool) → AllByRecursion IsParameter (served_by many p parameters procedure).0.parameters
  served_fit p procedure true = all_fit ahead parameters fit
  served_fit p procedure false = system_fit p procedure

target_fit : (p : KeptStatements) (parameters : List RpcParameter) (target : DriverTarget) → AreDriverParameters (front_count target) parameters → AllByRecursion IsParameter (target_taken p parameters target).0.parameters
target_fit p parameters (Named name) fit = as_they_are parameters fit
target_fit p parameters (System procedure) fit = served_fit (front_of procedure) parameters fit p procedure (are_too_many parameters)

pub taken_fit : (p : KeptStatements) (call : DriverCall) → AreDriverParameters (front_count call.target) call.parameters → All IsParameter (taken p call).0.parameters
taken_fit p call fit = All-from_recursion IsParameter (taken p call).0.parameters (target_fit p call.parameters call.target fit)

-- ---- what is kept behind it

-- one that came, with what is kept
module _ (result : Result Errand Memory) (q : KeptStatements) where
  abbrev pub Is : Taken → Type 0
  Is one = IfOk result (λ errand. ◌≡◌ {A = Taken} (errand, q) one)

  pub both_are : (errand : Errand) (p : KeptStatements) → q ≡ p → IfOk result (λ came. came ≡ errand) → Is (errand, p)
  both_are errand p same is = by_result result is
    where
      pair : Errand → KeptStatements → Taken
      pair e k = (e, k)

      by_result : (came : Result Errand Memory) → IfOk came (λ e. e ≡ errand) → IfOk came (λ e. pair e q ≡ pair errand p)
      by_result (Ok e) so = ap (λ (x : Errand). pair x q) so ∙ ap (pair errand) same
      by_result (Err memory) so = tt

  pub named_is : (p : KeptStatements) (call : DriverCall) (name : List ℕ) → call.target ≡ Named name → q ≡ p → IfOk result (λ errand. errand ≡ named_errand name call.parameters) → Is (taken p call)
  named_is p call name at same is = subst (λ (target : DriverTarget). Is (target_taken p call.parameters target)) (sym at) (both_are (named_errand name call.parameters) p same is)

  pub system_is : (p : KeptStatements) (call : DriverCall) (procedure : DriverProcedure) → call.target ≡ System procedure → Is (served_by (are_too_many call.parameters) p call.parameters procedure)
      → Is (taken p call)
  system_is p call procedure at is = subst (λ (target : DriverTarget). Is (target_taken p call.parameters target)) (sym at) is

  pub refused_is : (p : KeptStatements) (parameters : List RpcParameter) (procedure : DriverProcedure) → are_too_many parameters ≡ true → q ≡ p → IfOk result (λ errand. errand ≡ unmatched parameters)
      → Is (served_by (are_too_many parameters) p parameters procedure)
  refused_is p parameters procedure many same is = subst (λ (b : Bool). Is (served_by b p parameters procedure)) (sym many) (both_are (unmatched parameters) p same is)

  pub served_is : (p : KeptStatements) (parameters : List RpcParameter) (procedure : DriverProcedure) → are_too_many parameters ≡ false → Is (system_taken p parameters procedure)
      → Is (served_by (are_too_many parameters) p parameters procedure)
  served_is p parameters procedure few is = subst (λ (b : Bool). Is (served_by b p parameters procedure)) (sym few) is

  pub fits_so : (p : KeptStatements) (call : DriverCall) → AreDriverParameters (front_count call.target) call.parameters → Is (taken p call) → IfOk result (λ errand. All IsParameter errand.parameters)
  fits_so p call fit is = by_result result is
    where
      by_result : (came : Result Errand Memory) → IfOk came (λ e. ◌≡◌ {A = Taken} (e, q) (taken p call)) → IfOk came (λ e. All IsParameter e.parameters)
      by_result (Ok e) so = subst (λ (one : Taken). All IsParameter one.0.parameters) (sym so) (taken_fit p call fit)
      by_result (Err memory) so = tt

  -- ---- by a handle, or none

  pub some_is : (go : ℤ → PreparedStatement → Taken) (p : KeptStatements) (parameters : List RpcParameter) (found : Option ℤ) (handle : ℤ) → found ≡ Some handle
      → Is (finds_kept (go handle) p parameters handle (kept_under handle p)) → Is (by_handle go p parameters found)
  some_is go p parameters found handle at is = subst (λ (h : Option ℤ). Is (by_handle go p parameters h)) (sym at) is

  pub none_is : (go : ℤ → PreparedStatement → Taken) (p : KeptStatements) (parameters : List RpcParameter) (found : Option ℤ) → found ≡ None → q ≡ p
      → IfOk result (λ errand. errand ≡ unmatched parameters) → Is (by_handle go p parameters found)
  none_is go p parameters found none same is = subst (λ (h : Option ℤ). Is (by_handle go p parameters h)) (sym none) (both_are (unmatched parameters) p same is)

  pub reset_is : (p : KeptStatements) (parameters : List RpcParameter) (text : List ℕ) → text ≡ reset_text → q ≡ record p { kept = [] }
      → IfOk result (λ errand. errand ≡ system_errand way.RunsBatch (Some text) parameters) → Is (system_errand way.RunsBatch (Some reset_text) parameters, record p { kept = [] })
  reset_is p parameters text same kept is =
      both_are (system_errand way.RunsBatch (Some reset_text) parameters) (record p { kept = [] }) kept
      (subst (λ (t : List ℕ). IfOk result (λ errand. errand ≡ system_errand way.RunsBatch (Some t) parameters)) same is)

  -- ---- sp_prepare and sp_prepexec

  pub prepares_is : (p : KeptStatements) (runs : Bool) (number : ℕ) (parameters : List RpcParameter) (source : Option Source) → (source, q) ≡ keeps p parameters → number ≡ next_handle p
      → IfOk result (λ errand. errand ≡ prepared_by runs number parameters source) → Is (prepares runs p parameters)
  prepares_is p runs number parameters source kept same is =
      subst (λ (k : Option Source × KeptStatements). Is (prepared_by runs (next_handle p) parameters k.0, k.1)) kept
      (both_are (prepared_by runs (next_handle p) parameters source) q refl (subst (λ (n : ℕ). IfOk result (λ errand. errand ≡ prepared_by runs n parameters source)) same is))

  -- ---- sp_execute and sp_unprepare

  module _ (p : KeptStatements) (parameters : List RpcParameter) (handle : ℤ) where
    pub executes_is : (found : Option PreparedStatement) (source : Source) → Some source ≡ option_map (λ one. source_for 1 one.declarations one.statement) found → q ≡ used_by handle p found
        → IfOk result (λ errand. errand ≡ executes parameters (Some source)) → Is (finds_kept (executed p parameters handle) p parameters handle found)
    executes_is None source at same is = absurd cc
    executes_is (Some one) source at same is =
        let from : source ≡ source_for 1 one.declarations one.statement = cc in
        both_are (executes parameters (Some (source_for 1 one.declarations one.statement))) (used_by handle p (Some one)) same (subst (λ (s : Source). IfOk result (λ errand. errand ≡ executes parameters (Some s))) from is)

    pub unknown_is : (go : PreparedStatement → Taken) (found : Option PreparedStatement) → is_some found ≡ false → q ≡ p
        → IfOk result (λ errand. errand ≡ system_errand (way.Unknown (signed_decimal handle)) None parameters) → Is (finds_kept go p parameters handle found)
    unknown_is go None none same is = both_are (system_errand (way.Unknown (signed_decimal handle)) None parameters) p same is
    unknown_is go (Some one) none same is = absurd (let never : true ≡ false = none in cc)

    pub unprepares_is : (found : Option PreparedStatement) → is_some found ≡ true → q ≡ without handle p
        → IfOk result (λ errand. errand ≡ system_errand way.Tells None parameters) → Is (finds_kept (unprepared p parameters handle) p parameters handle found)
    unprepares_is None some same is = absurd (let never : false ≡ true = some in cc)
    unprepares_is (Some one) some same is = both_are (system_errand way.Tells None parameters) (without handle p) same is

-- what is kept under a handle that was sent, or none was
module _ (p : KeptStatements) (sent : Option ℤ) where
  pub none_sent : sent ≡ None → p ≡ without_sent sent p
  none_sent is = sym (ap (λ (one : Option ℤ). without_sent one p) is)

  pub sent_dropped : (q : KeptStatements) (handle : ℤ) → sent ≡ Some handle → q ≡ without handle p → q ≡ without_sent sent p
  sent_dropped q handle is same = same ∙ sym (ap (λ (one : Option ℤ). without_sent one p) is)

-- what is run of what is kept under a handle
module _ (found : Option PreparedStatement) where
  pub kept_some : (one : PreparedStatement) (source : Source) → Some one ≡ found → source ≡ source_for 1 one.declarations one.statement
      → Some source ≡ option_map (λ one. source_for 1 one.declarations one.statement) found
  kept_some one source at is = ap Some is ∙ ap (option_map (λ (one : PreparedStatement). source_for 1 one.declarations one.statement)) at

  pub kept_none : None ≡ found → None ≡ option_map (λ one. source_for 1 one.declarations one.statement) found
  kept_none at = ap (option_map (λ (one : PreparedStatement). source_for 1 one.declarations one.statement)) at

pub is_some_of : {A B : Type 0} (see : A → B) (found : Option A) (shown : Option B) → option_map see found ≡ shown → is_some found ≡ is_some shown
is_some_of see None shown is = ap is_some is
is_some_of see (Some one) shown is = ap is_some is

-- nothing is found where nothing is made of it
pub none_found : {A : Type 0} (make : PreparedStatement → A) (found : Option PreparedStatement) → None ≡ option_map make found → is_some found ≡ false
none_found make None none = refl
none_found make (Some one) none = absurd cc
