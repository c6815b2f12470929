-- Own: the machine of the tests, as contracts see it, and its steps.
use Rattle.std.specs.Prelude.{◌≡◌, ℕ, ◌+◌, ◌%◌, ◌^◌, ◌==◌, List, [], ◌∷◌, ◌++◌, if◌then◌else◌}
use Rattle.tests_desk.specs.declared.adder.AddReply.{AddReply}
use Rattle.tests_desk.specs.declared.adder.AddReply.TheVariants.{Was, Memory}

-- the sum, and what was added, each with the number of its seat
pub record AdderState : Type 0 where
  pub sum : ℕ
  pub calls : List (ℕ × ℕ)

-- what a number has added, in order
abbrev pub added_by : ℕ → List (ℕ × ℕ) → List ℕ
added_by number [] = []
added_by number (call ∷ calls) = if call.0 == number then call.1 ∷ added_by number calls else added_by number calls

-- what a call has added, by its reply
abbrev pub added : ℕ → AddReply → List ℕ
added call (Was sum) = call ∷ []
added call Memory = []

-- what steps have added, in order
abbrev pub added_in : List (ℕ × AddReply) → List ℕ
added_in [] = []
added_in (step ∷ steps) = added step.0 step.1 ++ added_in steps

-- A step. The call is added and stored, and the reply is the sum before; or there was no memory, and nothing has changed.
abbrev pub Adds : AdderState → ℕ → ℕ → AddReply → AdderState → Type 0
Adds old number call (Was sum) new = (sum ≡ old.sum) × (new ≡ record { sum = (old.sum + call) % 2 ^ 64; calls = old.calls ++ (number, call) ∷ [] })
Adds old number call Memory new = new ≡ old

-- what was stored of a number is what its steps have added, each once and in order
abbrev pub IsToldBy : List (ℕ × ℕ) → ℕ → List (ℕ × AddReply) → Type 0
IsToldBy calls number steps = added_by number calls ≡ added_in steps
