-- Own: an answer is the outcome that is meant, with what is gathered afterwards, unless memory runs out.
use Rattle.std.specs.Prelude.{◌≡◌, List, Result, Ok, Err}
use Rattle.std.specs.Global.{Vec}
use Rattle.bound_tree.specs.declared.expr.BoundExpr.{BoundExpr}
use Rattle.typed_nodes.specs.declared.expr.TypedExpr.{TypedExpr}
use Rattle.typed_nodes.specs.declared.fault.BindFault.{BindFault}
use Rattle.typed_nodes.specs.Refusals.{Outcome, Fails}
use Rattle.clause_binder.specs.declared.progress.Progress.{Progress}
use Rattle.clause_binder.specs.Clauses.{settled}

abbrev pub GivesOn : {A : Type 0} → Result A BindFault → Outcome (A × Progress) → Progress → Type 0
GivesOn (Ok x) outcome done = outcome ≡ Ok (x, done)
GivesOn (Err fault) outcome done = Fails fault outcome

-- the same of what is in a vector
abbrev pub GivesItemsOn : {A : Type 0} → Result (Vec A) BindFault → Outcome (List A × Progress) → Progress → Type 0
GivesItemsOn (Ok x) outcome done = outcome ≡ Ok (x.items, done)
GivesItemsOn (Err fault) outcome done = Fails fault outcome

-- the same of what is looked up in GROUP BY afterwards
abbrev pub SettlesOn : List BoundExpr → Result TypedExpr BindFault → Outcome (TypedExpr × Progress) → Progress → Type 0
SettlesOn groups (Ok x) outcome done = outcome ≡ Ok (settled groups x, done)
SettlesOn groups (Err fault) outcome done = Fails fault outcome
