-- The answers of inner queries, one after another, as a loop finds them: those so far, and then the rest.
use Rattle.std.proofs.Common.{◌≡◌, map, Result, refl, sym, ap, ◌∙◌, List, [], ◌∷◌, ◌++◌, Ok, Err, append-nil, append_assoc}
use Rattle.std.specs.Global.{Vec}
use Rattle.value_types.specs.declared.value.Value.{Value}
use Rattle.bound_tree.specs.declared.query.BoundQuery.{BoundQuery, out-BoundQuery}
use Rattle.bound_tree.specs.declared.query.BoundQuery.TheFolds.{fold_out-BoundQuery}
use Rattle.bound_tree.specs.declared.query.BoundQuery.TheOpen.{BoundQuery-F}
use Rattle.bound_tree.specs.Outcomes.{Outcome, after}
use Rattle.bound_tree.specs.Setting.{Setting}
use Rattle.join_rows.specs.Joined.{Row}
use Rattle.query_eval.specs.declared.fault.Stop.{Stop}
use Rattle.query_eval.specs.declared.fault.Stop.TheVariants.{Number, Memory}
use Rattle.query_eval.specs.Found.{FindsBy}
use Rattle.query_eval.specs.KeyTests.{where_tests}
use Rattle.query_eval.specs.Joining.{FromStock, Stock, joined_refs}
use Rattle.query_eval.specs.Phases.{rows_given}
use Rattle.query_eval.specs.Ans.{Answers, answer_of, inner_answer, inner_rows, inner_step, own_rows, query_step}
use Rattle.query_eval.proofs.Each.{FindsFault, fault_first}

-- what inner queries answer, behind what is answered so far
abbrev pub inner_onto : List (List Row) → List (FromStock (List Row)) → FromStock (List (List Row))
inner_onto done [] stock = Ok (done, stock)
inner_onto done (query ∷ queries) stock = after (query stock) (λ answer. inner_onto (done ++ answer.0 ∷ []) queries answer.1)

behind_one : (done : List (List Row)) (rows : List Row) (rest : Outcome (List (List Row) × Stock))
    → after {B = List (List Row) × Stock} rest (λ others. Ok ((done ++ rows ∷ []) ++ others.0, others.1)) ≡ after {B = List (List Row) × Stock} (after {B = List (List Row) × Stock} rest (λ others. Ok (rows ∷ others.0, others.1))) (λ others. Ok (done ++ others.0, others.1))
behind_one done rows (Ok others) = ap (λ l. Ok (l, others.1)) (append_assoc done (rows ∷ []) others.0)
behind_one done rows (Err number) = refl

inner_behind : (done : List (List Row)) (queries : List (FromStock (List Row))) (stock : Stock)
    → inner_onto done queries stock ≡ after {B = List (List Row) × Stock} (inner_rows queries stock) (λ others. Ok (done ++ others.0, others.1))
inner_behind done [] stock = ap (λ l. Ok (l, stock)) (sym (append-nil done))
inner_behind done (query ∷ queries) stock =
    elim (query stock) as (λ (o : Outcome (List Row × Stock)). after o (λ answer. inner_onto (done ++ answer.0 ∷ []) queries answer.1)
    ≡ after {B = List (List Row) × Stock} (after {B = List (List Row) × Stock} o (λ answer. after {B = List (List Row) × Stock} (inner_rows queries answer.1) (λ others. Ok (answer.0 ∷ others.0, others.1)))) (λ others. Ok (done ++ others.0, others.1))) [
      | Ok answer ↦ inner_behind (done ++ answer.0 ∷ []) queries answer.1 ∙ behind_one done answer.0 (inner_rows queries answer.1)
      | Err number ↦ refl
    ]

behind_none : (rest : Outcome (List (List Row) × Stock)) → after {B = List (List Row) × Stock} rest (λ others. Ok ([] ++ others.0, others.1)) ≡ rest
behind_none (Ok others) = refl
behind_none (Err number) = refl

pub inner_onto_is : (queries : List (FromStock (List Row))) (stock : Stock) → inner_onto [] queries stock ≡ inner_rows queries stock
inner_onto_is queries stock = inner_behind [] queries stock ∙ behind_none (inner_rows queries stock)

-- ---- a query of which inner queries are answered

module _ (vars system : List Value) where
  -- the rows are given, and this is left
  pub found_rest : (left : Stock) (result : Result (Vec Row) Stop) (given : Outcome (List Row)) → FindsBy (λ (rows : Vec Row). rows.items) result given
      → FindsBy (λ (rows : Vec Row). (rows.items, left)) result (after {B = List Row × Stock} given (λ rows. Ok (rows, left)))
  found_rest left (Ok rows) given is = ap (λ (o : Outcome (List Row)). after {B = List Row × Stock} o (λ found. Ok (found, left))) is
  found_rest left (Err (Number number)) given is = ap (λ (o : Outcome (List Row)). after {B = List Row × Stock} o (λ found. Ok (found, left))) is
  found_rest left (Err Memory) given is = tt

  abbrev setting_with : List (List Row) → Row → Setting
  setting_with inner row = record { row = row; vars = vars; system = system; inner = inner }

  pub own_joined : {A B : Type 0} (inner : List (List Row)) (query : BoundQuery-F A B) (stock left : Stock) (joined : List Row)
      → joined_refs (setting_with inner) (where_tests vars query.filter) query.refs stock ≡ Ok (joined, left)
      → own_rows vars system inner query stock ≡ after {B = List Row × Stock} (rows_given (setting_with inner) query joined) (λ rows. Ok (rows, left))
  own_joined inner query stock left joined is =
      ap (λ (o : Outcome (List Row × Stock)). after {B = List Row × Stock} o (λ joined. after {B = List Row × Stock} (rows_given (setting_with inner) query joined.0) (λ rows. Ok (rows, joined.1)))) is

  module _ (query : BoundQuery) (stock : Stock) where
    abbrev inners : Outcome (List (List Row) × Stock)
    inners = inner_rows (map (inner_answer vars system) (out-BoundQuery query).inner) stock

    answer_step : answer_of vars system query stock ≡ after inners (λ inner. own_rows vars system inner.0 (out-BoundQuery query) inner.1)
    answer_step = ap (λ (f : Answers). f stock) (fold_out-BoundQuery Answers Answers (query_step vars system) inner_step query)

    pub answer_fault : (stop : Stop) → FindsFault stop inners → FindsFault stop (answer_of vars system query stock)
    answer_fault stop is = rw answer_step (fault_first stop inners (λ inner. own_rows vars system inner.0 (out-BoundQuery query) inner.1) is)

    pub answer_found : (inner : List (List Row)) (left : Stock) → inners ≡ Ok (inner, left) → answer_of vars system query stock ≡ own_rows vars system inner (out-BoundQuery query) left
    answer_found inner left is = answer_step ∙ ap (λ (o : Outcome (List (List Row) × Stock)). after o (λ inner. own_rows vars system inner.0 (out-BoundQuery query) inner.1)) is
