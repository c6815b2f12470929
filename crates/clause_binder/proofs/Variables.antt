-- The type of the variable of a name.
use Rattle.std.proofs.Common.{◌≡◌, ℕ, ◌<◌, ◌≤◌, ◌⊎◌, inl, inr, List, length, Some, None, Ok, refl, ap, arith, get_or}
use Rattle.std.specs.Prelude.{slice_get}
use Rattle.std.proofs.lemmas.Option.{slice_get_cases}
use Rattle.std.proofs.lemmas.List.Quantifiers.{position-Some}
use Rattle.value_types.specs.Units.{same_units}
use Rattle.value_types.specs.declared.sql_type.SqlType.{SqlType}
use Rattle.value_types.specs.declared.sql_type.SqlType.TheVariants.{Int}
use Rattle.session_vars.specs.declared.Variable.{Variable}
use Rattle.session_vars.specs.Variables.{fresh, place_of}
use Rattle.clause_binder.specs.Operands as spec

by_cases : (name : List ℕ) (vars : List Variable) (place : ℕ) (kind : SqlType) → place < length vars
    → ((variable : Variable) → slice_get vars place ≡ Some variable → kind ≡ variable.kind)
    → ((x : Variable) × (place < length vars) × (slice_get vars place ≡ Some x) × (get_or vars place x ≡ x)) ⊎ ((length vars ≤ place) × (slice_get vars place ≡ None))
    → spec.variable_at vars name place (slice_get vars place) ≡ spec.variable_of_kind name place kind
by_cases name vars place kind within tells (inl found) = rw found.2 (rw (tells found.0 found.2) refl)
by_cases name vars place kind within tells (inr past) = absurd (omega arith)

pub kind_found : (name : List ℕ) (vars : List Variable) (place : ℕ) (kind : SqlType) → place_of name vars ≡ Some place
    → ((variable : Variable) → slice_get vars place ≡ Some variable → kind ≡ variable.kind)
    → spec.variable_of vars name ≡ Ok (spec.variable_of_kind name place kind)
kind_found name vars place kind is tells =
    let within = (position-Some (λ (v : Variable). same_units name v.name) vars place (fresh name Int) is).0 in
    rw is (ap Ok (by_cases name vars place kind within tells (slice_get_cases vars place).1))
