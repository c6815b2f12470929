-- Answers that are made element by element, with what is done so far in front of what is left.
use Rattle.std.proofs.Common.{◌≡◌, ℕ, ◌≤◌, List, [], ◌∷◌, ◌++◌, length, drop, Option, Some, None, Ok, Err, Bor, refl, ap, sym, ◌∙◌, append-nil}
use Rattle.std.proofs.lemmas.List.{append_assoc, drop_all}
use Rattle.value_types.specs.declared.value.Value.{Value}
use Rattle.session_vars.specs.declared.Variable.{Variable}
use Rattle.tsql_tree.specs.declared.definition.Parameter.{Parameter}
use Rattle.tsql_tree.specs.declared.statement.Argument.{Argument}
use Rattle.bound_tree.specs.Outcomes.{Outcome, after}
use Rattle.call_rules.specs.Arguments.{in_front, values_taken}
use Rattle.call_rules.specs.Found.{lent}

-- ---- slots

abbrev pub behind : List Argument → Option (List Argument) → Option (List Argument)
behind done None = None
behind done (Some arguments) = Some (done ++ arguments)

pub behind_more : (done : List Argument) (argument : Argument) (rest : Option (List Argument)) → behind (done ++ argument ∷ []) rest ≡ behind done (in_front (Some argument) rest)
behind_more done argument None = refl
behind_more done argument (Some arguments) = ap Some (append_assoc done (argument ∷ []) arguments)

-- ---- values

abbrev pub onto : List Value → Outcome (List Value) → Outcome (List Value)
onto done (Ok values) = Ok (done ++ values)
onto done (Err number) = Err number

pub onto_more : (done : List Value) (value : Value) (rest : Outcome (List Value)) → onto (done ++ value ∷ []) rest ≡ onto done (after rest (λ values. Ok (value ∷ values)))
onto_more done value (Ok values) = ap Ok (append_assoc done (value ∷ []) values)
onto_more done value (Err number) = refl

none_given : (vars : List Variable) (parameters : List Parameter) → values_taken vars parameters [] ≡ Ok []
none_given vars [] = refl
none_given vars (parameter ∷ parameters) = refl

pub values_done : (vars : List Variable) (rest : List Parameter) (done : List Value) (arguments : List (Bor Argument)) (place : ℕ) (whole : Outcome (List Value)) → length arguments ≤ place
    → onto done (values_taken vars rest (lent (drop place arguments))) ≡ whole → whole ≡ Ok done
values_done vars rest done arguments place whole past so_far =
    sym so_far
    ∙ ap (λ (left : List (Bor Argument)). onto done (values_taken vars rest (lent left))) (drop_all place arguments past)
    ∙ ap (onto done) (none_given vars rest)
    ∙ ap Ok (append-nil done)
