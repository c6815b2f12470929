-- Transact-SQL reference, "UPDATE" and "DELETE": what a write asks of queries. Its inner queries are answered one after another, on
-- images of their references, under one budget of pairs; the images behind these are left. The rows of its target that are
-- meant are read by the tests of its key, and then WHERE is asked of each.
use Rattle.std.specs.Prelude.{◌≡◌, ℕ, List, drop, map, Option, Result, Ok, Err}
use Rattle.value_types.specs.declared.value.Value.{Value}
use Rattle.bound_tree.specs.declared.expr.BoundTest.{BoundTest}
use Rattle.bound_tree.specs.declared.query.InnerQuery.{InnerQuery}
use Rattle.bound_tree.specs.declared.query.JoinKind.TheVariants.{Inner}
use Rattle.bound_tree.specs.Outcomes.{Outcome}
use Rattle.bound_tree.specs.Setting.{Setting}
use Rattle.join_rows.specs.Joined.{Row}
use Rattle.scalar_eval.specs.declared.fault.EvalFault.{EvalFault}
use Rattle.scalar_eval.specs.declared.fault.EvalFault.TheVariants.{Number, Named, Memory}
use Rattle.scalar_eval.specs.Scopes as scopes
use Rattle.query_eval.specs.declared.target.InnerAnswers.{InnerAnswers}
use Rattle.query_eval.specs.Phases.{◌>>=◌, rows_where}
use Rattle.query_eval.specs.KeyTests.{rows_read, where_tests}
use Rattle.query_eval.specs.Ans.{inner_answer, inner_rows, pair_limit}

module _ (vars system : List Value) where
  -- the rows of each inner query, and the images behind those that were read for them
  abbrev pub inner_answers : List InnerQuery → List (List Row) → Outcome (List (List Row) × List (List Row))
  inner_answers inner images = do
    answers ← inner_rows (map (inner_answer vars system) inner) (record { images = images; budget = pair_limit })
    Ok (answers.0, answers.1.images)

  -- what the expressions of a write read at a row of its target
  abbrev pub setting_over : List (List Row) → Row → Setting
  setting_over inner row = record { row = row; vars = vars; system = system; inner = inner }

  -- the rows of an image, whose key has these columns, of which WHERE is true
  abbrev pub rows_meant : List (List Row) → List ℕ → Option BoundTest → List Row → Outcome (List Row)
  rows_meant inner key filter image =
      rows_where (setting_over inner) filter (rows_read key 0 (where_tests vars filter) Inner image)

-- the answers are this outcome, if memory is not wanting; a number has no name here
abbrev pub GivesInner : List (List Row) → Result InnerAnswers EvalFault → Outcome (List (List Row) × List (List Row)) → Type 0
GivesInner images (Ok answers) outcome = outcome ≡ Ok (scopes.inner_rows answers.tables, drop answers.read images)
GivesInner images (Err (Number number)) outcome = outcome ≡ Err number
GivesInner images (Err (Named number name)) outcome = ⊥
GivesInner images (Err Memory) outcome = Unit {0}
