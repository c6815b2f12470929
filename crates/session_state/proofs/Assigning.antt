-- What is assigned to variables: values of their types, one after another and row by row.
use Rattle.std.proofs.Common.{◌≡◌, ℕ, zero, suc, ◌+◌, ◌<◌, ◌≤◌, true, IfOk, List, [], ◌∷◌, ◌++◌, drop, take, length, get_or, set, add-one, Option, None, Some, Result, Ok, Err, refl, sym, ap, ◌∙◌, subst}
use Rattle.std.specs.Prelude.{slice_get}
use Rattle.std.proofs.Math.Seq.{drop-cons}
use Rattle.std.proofs.lemmas.List.{drop_all, take_more}
use Rattle.std.proofs.lemmas.List.Elements.{filter_map-append, All-append, All-cons, All-nil, All-weaker}
use Rattle.value_types.specs.declared.value.Value.{Value}
use Rattle.value_types.specs.Types.{IsOf}
use Rattle.tsql_tree.specs.declared.statement.Declaration.{Declaration}
use Rattle.session_vars.specs.declared.Variable.{Variable}
use Rattle.session_vars.specs.Variables.{FitsAt}
use Rattle.step_model.specs.Ranges.{Rows}
use Rattle.batch_meaning.specs.declared.failure.Failure.{Failure}
use Rattle.batch_meaning.specs.Selecting.{Effect}
use Rattle.batch_meaning.specs.Progress.{SessionProgress, assigned, set_at, with_value}
use Rattle.batch_meaning.specs.Asking.{with_room}
use Rattle.batch_meaning.specs.Working.{assigns_rows}
use Rattle.batch_meaning.specs.Values.{◌>>=◌, Assigned, assigned_at, assigned_onto, given_name, given_names, places_onto, rows_assigned}
use Rattle.session_state.specs.Parts.{IsOrMemory, SetsFit, Stepped}
use Rattle.session_state.proofs.Stepping.{meant_ok, next_of, stepped_room}

-- ---- types stay

-- behind a variable that is replaced by one of its type, each has the type that it had
set_kinds : (vars : List Variable) (at place : ℕ) (other variable : Variable) (value : Value) → slice_get vars at ≡ Some other → slice_get (set vars at (with_value value other)) place ≡ Some variable
    → (was : Variable) × (slice_get vars place ≡ Some was) × (variable.kind ≡ was.kind)
set_kinds [] at place other variable value here there = absurd cc
set_kinds (x ∷ vars) zero zero other variable value here there = (x, refl, (let same : x ≡ other = cc in let now : with_value value other ≡ variable = cc in sym (ap (λ (v : Variable). v.kind) now) ∙ sym (ap (λ (v : Variable). v.kind) same)))
set_kinds (x ∷ vars) zero (suc place) other variable value here there = (variable, there, refl)
set_kinds (x ∷ vars) (suc at) zero other variable value here there = (variable, there, refl)
set_kinds (x ∷ vars) (suc at) (suc place) other variable value here there = set_kinds vars at place other variable value here there

fits_by : (vars : List Variable) (at place : ℕ) (given value : Value) (found : Option Variable) → slice_get vars at ≡ found → FitsAt place value vars → FitsAt place value (set_at at given found vars)
fits_by vars at place given value None is fits = fits
fits_by vars at place given value (Some other) is fits = λ variable stands.
    let was = set_kinds vars at place other variable given is stands in
    subst (λ kind. IsOf kind value) (sym was.2) (fits was.0 was.1)

pub fits_stays : (vars : List Variable) (at place : ℕ) (given value : Value) → FitsAt place value vars → FitsAt place value (assigned at given vars)
fits_stays vars at place given value fits = fits_by vars at place given value (slice_get vars at) refl fits

pub sets_stay : (vars : List Variable) (at : ℕ) (given : Value) (sets : List Assigned) → SetsFit vars sets → SetsFit (assigned at given vars) sets
sets_stay vars at given sets fits = All-weaker (λ (one : Assigned). FitsAt one.0 one.1 vars) (λ (one : Assigned). FitsAt one.0 one.1 (assigned at given vars)) (λ one fit. fits_stays vars at one.0 given one.1 fit) sets fits

-- nothing is assigned
pub none_fit : (vars : List Variable) → SetsFit vars []
none_fit vars = All-nil (λ (one : Assigned). FitsAt one.0 one.1 vars)

-- an effect that assigns nothing
pub none_assigned : (vars : List Variable) (effect : Effect) (result : Result Effect Failure) → effect.sets ≡ [] → IfOk result (λ fit. fit ≡ effect) → IfOk result (λ fit. SetsFit vars fit.sets)
none_assigned vars effect (Ok fit) none is = subst (SetsFit vars) (sym (ap (λ (e : Effect). e.sets) is ∙ none)) (none_fit vars)
none_assigned vars effect (Err failure) none is = tt

-- one more is
pub sets_more : (vars : List Variable) (sets more : List Assigned) (one : Assigned) → more ≡ sets ++ one ∷ [] → SetsFit vars sets → FitsAt one.0 one.1 vars → SetsFit vars more
sets_more vars sets more one is fits fit = subst (SetsFit vars) (sym is) (All-append (λ (a : Assigned). FitsAt a.0 a.1 vars) sets (one ∷ []) fits (All-cons (λ (a : Assigned). FitsAt a.0 a.1 vars) one [] fit (none_fit vars)))

-- ---- values to places

module _ (vars : List Variable) (places : List ℕ) (values : List Value) where
  -- what is left leads to the whole
  abbrev pub Goes : ℕ → List Assigned → Type 0
  Goes at sets = assigned_onto vars sets (drop at places) (drop at values) ≡ assigned_onto vars [] places values

  step_at : (at : ℕ) (sets : List Assigned) (value : Value) → at < length places → at < length values → value ≡ get_or values at value
      → assigned_onto vars sets (drop at places) (drop at values) ≡ (assigned_at vars (get_or places at 0) value >>= λ one. assigned_onto vars (sets ++ one ∷ []) (drop (at + 1) places) (drop (at + 1) values))
  step_at at sets value place within is = rw (drop-cons places at 0 place, next_of values at value is within, add-one at) refl

  pub goes_next : (at : ℕ) (sets more : List Assigned) (value : Value) (one : Assigned) → at < length places → at < length values → value ≡ get_or values at value → IsOrMemory (assigned_at vars (get_or places at 0) value) (Ok one) → more ≡ sets ++ one ∷ []
      → Goes at sets → Goes (at + 1) more
  goes_next at sets more value one place within is came added goes =
      let made : (assigned_at vars (get_or places at 0) value >>= λ a. assigned_onto vars (sets ++ a ∷ []) (drop (at + 1) places) (drop (at + 1) values)) ≡ assigned_onto vars (sets ++ one ∷ []) (drop (at + 1) places) (drop (at + 1) values)
      = ap (λ m. m >>= λ a. assigned_onto vars (sets ++ a ∷ []) (drop (at + 1) places) (drop (at + 1) values)) (meant_ok (assigned_at vars (get_or places at 0) value) one came) in
      ap (λ (s : List Assigned). assigned_onto vars s (drop (at + 1) places) (drop (at + 1) values)) added ∙ sym made ∙ sym (step_at at sets value place within is) ∙ goes

  no_values : (sets : List Assigned) (left : List ℕ) → assigned_onto vars sets left [] ≡ Ok sets
  no_values sets [] = refl
  no_values sets (place ∷ left) = refl

  -- no place is left, or no value
  pub goes_placed : (at : ℕ) (sets : List Assigned) → length places ≤ at → Goes at sets → assigned_onto vars [] places values ≡ Ok sets
  goes_placed at sets past goes = sym goes ∙ ap (λ (left : List ℕ). assigned_onto vars sets left (drop at values)) (drop_all at places past)

  pub goes_valued : (at : ℕ) (sets : List Assigned) → length values ≤ at → Goes at sets → assigned_onto vars [] places values ≡ Ok sets
  goes_valued at sets past goes = sym goes ∙ ap (λ (left : List Value). assigned_onto vars sets (drop at places) left) (drop_all at values past) ∙ no_values sets (drop at places)

-- ---- row by row

module _ (vars : List Variable) (places : List ℕ) (rows : Rows) where
  -- the rows that are left lead to the whole
  abbrev pub RowsGo : ℕ → List Assigned → Type 0
  RowsGo at sets = rows_assigned vars places sets (drop at rows) ≡ rows_assigned vars places [] rows

-- ---- declarations

-- one more
pub given_more : (declarations : List Declaration) (at : ℕ) (of : Declaration) (so_far more : List (List ℕ)) → of ≡ get_or declarations at of → at < length declarations → more ≡ so_far ++ given_names (of ∷ []) → so_far ≡ given_names (take at declarations)
    → more ≡ given_names (take (at + 1) declarations)
given_more declarations at of so_far more is within added goes =
    added ∙ ap (λ (names : List (List ℕ)). names ++ given_names (of ∷ [])) goes ∙ sym (filter_map-append given_name (take at declarations) (of ∷ []))
    ∙ ap (λ (d : Declaration). given_names (take at declarations ++ d ∷ [])) is ∙ ap given_names (sym (take_more declarations at of within))

-- ---- names

module _ (vars : List Variable) (names : List (List ℕ)) where
  abbrev pub NamesGo : ℕ → List ℕ → Type 0
  NamesGo at places = places_onto vars places (drop at names) ≡ places_onto vars [] names

-- ---- what a SELECT assigns

pub stepped_rows : (count : ℕ) (came : List Assigned × Option Failure) (sets : List Assigned) (stopped : Option Failure) {p q : SessionProgress} {result : Result Effect Failure} → came ≡ (sets, stopped)
    → Stepped (assigns_rows count (sets, stopped)) p (Ok result) q → Stepped (with_room (assigns_rows count came)) p (Ok result) q
stepped_rows count came sets stopped {p = p} {q = q} {result = result} is was = stepped_room true (subst (λ (c : List Assigned × Option Failure). Stepped (assigns_rows count c) p (Ok result) q) (sym is) was)
