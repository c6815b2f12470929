-- The names of the variables, and the list of names that is kept beside them.
use Rattle.std.proofs.Common.{◌≡◌, ℕ, zero, suc, false, List, [], ◌∷◌, ◌++◌, map, get_or, set, Some, None, position, refl, ap, sym, ◌∙◌, Vec, Global}
use Rattle.std.specs.Prelude.{slice_get, if◌then◌else◌}
use Rattle.std.specs.List.{list_any}
use Rattle.std.proofs.lemmas.List.{map-append}
use Rattle.value_types.specs.Units.{same_units}
use Rattle.value_types.specs.declared.value.Value.{Value}
use Rattle.session_vars.specs.declared.Variable.{Variable}
use Rattle.session_vars.specs.Variables.{place_of}
use Rattle.session_vars.proofs.Places.{position-map, none_passes, at_place}

-- the names of the list are those of the variables
abbrev pub AreNames : List (Vec ℕ Global) → List Variable → Type 0
AreNames keys variables = map (λ key. key.items) keys ≡ map (λ variable. variable.name) variables

-- a name is at its place among both
pub place_among : (name : List ℕ) (keys : List (Vec ℕ Global)) (variables : List Variable) → AreNames keys variables
    → position (λ key. same_units name key.items) keys ≡ place_of name variables
place_among name keys variables names =
    sym (position-map (λ (key : Vec ℕ Global). key.items) (same_units name) keys)
    ∙ ap (position (same_units name)) names
    ∙ position-map (λ (variable : Variable). variable.name) (same_units name) variables

-- a name that is new is added to both
pub names_more : (keys : List (Vec ℕ Global)) (variables : List Variable) (key : Vec ℕ Global) (added : Variable) → AreNames keys variables
    → key.items ≡ added.name → place_of added.name variables ≡ None
    → AreNames (if list_any (λ k. same_units key.items k.items) keys then keys else keys ++ key ∷ []) (variables ++ added ∷ [])
names_more keys variables key added names same fresh =
    let absent : list_any (λ (k : Vec ℕ Global). same_units key.items k.items) keys ≡ false
    = none_passes (λ (k : Vec ℕ Global). same_units key.items k.items) keys (place_among key.items keys variables names ∙ ap (λ (n : List ℕ). place_of n variables) same ∙ fresh) in
    rw (absent, map-append, map-append) (λ j. names j ++ same j ∷ [])

-- a value that is changed leaves the names
pub names_stay : (variables : List Variable) (i : ℕ) (r : Variable) (value : Value) → r ≡ get_or variables i r
    → map (λ variable. variable.name) (set variables i (record { name = r.name; kind = r.kind; value = value })) ≡ map (λ variable. variable.name) variables
names_stay [] i r value is = refl
names_stay (v ∷ variables) zero r value is = ap (λ (w : Variable). w.name ∷ map (λ (variable : Variable). variable.name) variables) is
names_stay (v ∷ variables) (suc i) r value is = ap (λ (names : List (List ℕ)). v.name ∷ names) (names_stay variables i r value is)

-- the variable at a place with another value
pub value_set : (items now : List Variable) (at place : ℕ) (r variable : Variable) (value : Value) → items ≡ now → at ≡ place
    → r ≡ get_or items at r → slice_get now place ≡ Some variable
    → set items at (record { name = r.name; kind = r.kind; value = value }) ≡ set now place (record { name = variable.name; kind = variable.kind; value = value })
value_set items now at place r variable value whole same is found =
    let one : r ≡ variable = at_place now place r variable found (is ∙ (λ j. get_or (whole j) (same j) r)) in
    λ j. set (whole j) (same j) (record { name = (one j).name; kind = (one j).kind; value = value })
