-- The steps of UPDATE, and the rows of VALUES, once inner queries are answered.
use Rattle.std.proofs.Common.{◌≡◌, sym, ap, ◌∙◌, subst, ℕ, List, [], Option, Some, Ok}
use Rattle.value_types.specs.declared.value.Value.{Value}
use Rattle.tsql_tree.specs.declared.definition.TableTree.{TableTree}
use Rattle.tsql_tree.specs.Places.{key_places}
use Rattle.bound_tree.specs.declared.expr.BoundExpr.{BoundExpr}
use Rattle.bound_tree.specs.declared.expr.BoundTest.{BoundTest}
use Rattle.bound_tree.specs.declared.query.InnerQuery.{InnerQuery}
use Rattle.bound_tree.specs.declared.write.BoundRows.TheVariants.{Values}
use Rattle.bound_tree.specs.declared.write.BoundSet.{BoundSet}
use Rattle.bound_tree.specs.Outcomes.{Outcome, after}
use Rattle.query_eval.specs.Joining.{image_of}
use Rattle.query_eval.specs.Phases.{each}
use Rattle.query_eval.specs.Targets.{inner_answers, rows_meant, setting_over}
use Rattle.dml_exec.specs.declared.fault.Stop.{Stop}
use Rattle.dml_exec.specs.declared.rewritten.Rewritten.{Rewritten}
use Rattle.dml_exec.specs.declared.rewritten.Rewritten.TheVariants.{Set}
use Rattle.dml_exec.specs.Filling.{Row, filled, null_row}
use Rattle.dml_exec.specs.Planning.{row_set, rows_added, rows_updated, values_given}
use Rattle.dml_exec.proofs.Each.{FindsFault, fault_first, fault_same}

abbrev Answered : Type 0
Answered = List (List Row) × List (List Row)

module _ (vars system : List Value) (shape : TableTree) (inner : List InnerQuery) (images : List (List Row)) (tables left : List (List Row)) (answered : inner_answers vars system inner images ≡ Ok (tables, left)) where
  pub added_values : (places : List ℕ) (values : List (List BoundExpr))
      → rows_added vars system shape places (Values values inner) images
      ≡ each (λ exprs. filled shape.columns (values_given (setting_over vars system tables []) places exprs) (null_row shape.columns)) values
  added_values places values =
      ap (λ (o : Outcome Answered). after o (λ answers. each (λ exprs. filled shape.columns (values_given (setting_over vars system answers.0 []) places exprs) (null_row shape.columns)) values)) answered

  module _ (sets : List BoundSet) (filter : Option BoundTest) (key : List ℕ) (keyed : key ≡ key_places (Some shape)) (olds : List Row) (meant : rows_meant vars system tables key filter (image_of left) ≡ Ok olds) where
    pub updated_meant : rows_updated vars system shape sets filter inner images ≡ after (each (row_set vars system shape tables sets) olds) (λ news. Ok (Set olds news))
    updated_meant =
        ap (λ (o : Outcome Answered). after o (λ answers. after (rows_meant vars system answers.0 (key_places (Some shape)) filter (image_of answers.1))
        (λ rows. after (each (row_set vars system shape answers.0 sets) rows) (λ news. Ok (Set rows news))))) answered
        ∙ ap (λ (o : Outcome (List Row)). after o (λ rows. after (each (row_set vars system shape tables sets) rows) (λ news. Ok (Set rows news))))
        (subst (λ (k : List ℕ). rows_meant vars system tables k filter (image_of left) ≡ Ok olds) keyed meant)

    pub updated_set : (news : List Row) → each (row_set vars system shape tables sets) olds ≡ Ok news → rows_updated vars system shape sets filter inner images ≡ Ok (Set olds news)
    updated_set news set = updated_meant ∙ ap (λ (o : Outcome (List Row)). after o (λ rows. Ok (Set olds rows))) set

    pub updated_fault : (stop : Stop) → FindsFault stop (each (row_set vars system shape tables sets) olds) → FindsFault stop (rows_updated vars system shape sets filter inner images)
    updated_fault stop is =
        fault_same stop (after (each (row_set vars system shape tables sets) olds) (λ news. Ok (Set olds news))) (rows_updated vars system shape sets filter inner images)
        (sym updated_meant) (fault_first {A = List Row} {B = Rewritten} stop (each (row_set vars system shape tables sets) olds) (λ news. Ok (Set olds news)) is)
