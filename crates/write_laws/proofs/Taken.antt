-- The rows that a plan takes were told.
use Rattle.std.proofs.Common.{◌≡◌, refl, subst, List, [], ◌∷◌, Option, Some}
use Rattle.std.specs.List.{AllByRecursion}
use Rattle.lock_modes.specs.declared.KeyPart.TheVariants.{U}
use Rattle.value_types.specs.declared.table_name.TableName.{TableName}
use Rattle.value_types.specs.declared.value.Value.{Value}
use Rattle.tsql_tree.specs.declared.definition.TableTree.{TableTree}
use Rattle.bound_tree.specs.declared.expr.BoundTest.{BoundTest}
use Rattle.bound_tree.specs.declared.query.InnerQuery.{InnerQuery}
use Rattle.bound_tree.specs.declared.write.BoundWrite.{BoundWrite}
use Rattle.bound_tree.specs.declared.write.BoundWrite.TheVariants as write
use Rattle.step_model.specs.declared.range.KeyRange.{KeyRange}
use Rattle.step_model.specs.Exchange.{Exchange}
use Rattle.table_rows.specs.Rows.{shape_of}
use Rattle.constraint_check.specs.Reads.{all_rows}
use Rattle.dml_exec.specs.declared.refusal.Level.{Level}
use Rattle.dml_exec.specs.declared.rewritten.Rewritten.{Rewritten}
use Rattle.dml_exec.specs.Filling.{Row}
use Rattle.dml_exec.specs.Planning.{table_written}
use Rattle.dml_exec.specs.Reading.{fits, hold_at, target_read}
use Rattle.write_laws.specs.Planning.{target_image}
use Rattle.write_laws.specs.Rewrites.{AreApart, AreSome, AreTaken, IsTaken, PlanTaken, rows_offered, rows_taken}
use Rattle.write_laws.specs.Told.{AreTold, TargetTold}
use Rattle.write_laws.proofs.Planned.{shape_named}
use Rattle.write_laws.proofs.Rewrites.{taken_told}

-- none are taken of none
none_all : (P : Row → Type 0) (rows : List Row) → AreSome rows [] → AllByRecursion P rows
none_all P [] some = tt
none_all P (row ∷ rows) some = absurd some

none_apart : (shape : TableTree) (rows : List Row) → AreSome rows [] → AreApart shape rows
none_apart shape [] some = tt
none_apart shape (row ∷ rows) some = absurd some

module _ (vars : List Value) (shapes : List TableTree) (level : Level) (shape : TableTree) (images : List (List Row)) (part : List Exchange) where
  of_target : (table : TableName) (test : Option BoundTest) (inner : List InnerQuery) (rows : Rewritten) → shape_of table shapes ≡ Some shape → AreSome (rows_taken rows) (target_image inner images)
      → AreTold part (fits (shape_of table shapes) 0) (target_read vars shapes table test).0 (hold_at level) U (target_image inner images) → AreTaken part level shape rows
  of_target table test inner rows known some told =
      let range : KeyRange = (target_read vars shapes table test).0 in
      let both = taken_told part range (hold_at level) U shape (target_image inner images) (rows_taken rows) (subst (λ (o : Option TableTree). AreTold part (fits o 0) range (hold_at level) U (target_image inner images)) known told) some in
      record { range = range; table = shape_named table shapes shape known; told = both.0; apart = both.1 }

  of_write : (of : BoundWrite) (rows : Rewritten) → shape_of (table_written of) shapes ≡ Some shape → AreSome (rows_taken rows) (rows_offered of images) → TargetTold vars shapes level of part images → AreTaken part level shape rows
  of_write (write.Insert table places given) rows known some told = record {
    range = all_rows shape.name;
    table = refl;
    told = none_all (IsTaken part (all_rows shape.name) (hold_at level) U shape) (rows_taken rows) some;
    apart = none_apart shape (rows_taken rows) some;
  }
  of_write (write.Update table sets test inner) rows known some told = of_target table test inner rows known some told
  of_write (write.Delete table test inner) rows known some told = of_target table test inner rows known some told

pub plan_taken : PlanTaken
plan_taken vars shapes level shape of images planned part known plan told = of_write vars shapes level shape images part of plan.rows known plan.some told
