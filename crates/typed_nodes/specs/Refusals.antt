-- Own: what is made of a statement, or the first refusal: its number, and the name that stands in its text.
use Rattle.std.specs.Prelude.{◌≡◌, ℕ, ℤ, pos, List, [], Result, Ok, Err}
use Rattle.std.specs.declared.vec.Vec.{Vec}
use Rattle.std.specs.declared.alloc.Global.{Global}
use Rattle.typed_nodes.specs.declared.fault.BindFault.{BindFault}
use Rattle.typed_nodes.specs.declared.fault.BindFault.TheVariants.{Number, Memory}

abbrev pub Refusal : Type 0
Refusal = ℤ × List ℕ

abbrev pub Outcome : Type 0 → Type 0
Outcome A = Result A Refusal

-- one after another: the first refusal stands
abbrev pub after : {A B : Type 0} → Outcome A → (A → Outcome B) → Outcome B
after (Ok x) next = next x
after (Err refusal) next = Err refusal

-- a refusal whose text names nothing
abbrev pub unnamed : {A : Type 0} → ℤ → Outcome A
unnamed number = Err (number, [])

-- ---- numbers of errors

-- the type of an operand is not allowed there
abbrev pub operand_not_allowed : ℤ
operand_not_allowed = pos 49008

-- ---- answers

-- The answer is that outcome, unless memory runs out.
abbrev pub Fails : {A : Type 0} → BindFault → Outcome A → Type 0
Fails (Number number name) outcome = outcome ≡ Err (number, name)
Fails Memory outcome = Unit {0}

abbrev pub Gives : {A : Type 0} → Result A BindFault → Outcome A → Type 0
Gives (Ok x) outcome = outcome ≡ Ok x
Gives (Err fault) outcome = Fails fault outcome

-- the same of what is in a vector
abbrev pub GivesItems : {A : Type 0} → Result (Vec A Global) BindFault → Outcome (List A) → Type 0
GivesItems (Ok x) outcome = outcome ≡ Ok x.items
GivesItems (Err fault) outcome = Fails fault outcome
