-- What statements keep is all that is to be kept.
use Rattle.std.proofs.Common.{◌≡◌, false, List, Ok, sym, subst, ◌∙◌}
use Rattle.tsql_tree.specs.declared.definition.ForeignTree.{ForeignTree}
use Rattle.tsql_tree.specs.declared.definition.TableTree.{TableTree}
use Rattle.bound_tree.specs.declared.expr.BoundTest.{BoundTest}
use Rattle.typed_nodes.specs.Refusals.{Outcome}
use Rattle.value_types.specs.declared.value.Value.{Value}
use Rattle.binder.specs.Statements.{bind_checks}
use Rattle.step_model.specs.Database.{Database}
use Rattle.constraint_check.specs.Integrity.{Stands, has_false}
use Rattle.constraint_check.proofs.Lists.{all_more}
use Rattle.write_laws.specs.Keeping.{FirmSound}
use Rattle.write_laws.specs.Sound.{HasParentTable, HasTable, IsTableOf, Firm}

-- a table's CHECKs are bound to one list of tests
same_tests : (o : Outcome (List BoundTest)) (tests others : List BoundTest) → o ≡ Ok tests → o ≡ Ok others → tests ≡ others
same_tests o tests others is so = let both : Ok tests ≡ Ok others = sym is ∙ so in cc

module _ (db : Database) (firm : Firm db) (shape : TableTree) (is : IsTableOf db shape) where
  none_false : (tests : List BoundTest) (key row : List Value) → bind_checks shape ≡ Ok tests → Stands db shape key row → has_false shape.checks tests row ≡ false
  none_false tests key row bound stands =
      let keeps = firm.kept shape is in
      subst (λ (tests : List BoundTest). has_false shape.checks tests row ≡ false) (same_tests (bind_checks shape) keeps.0 tests keeps.1 bound) (keeps.2.no_false key row stands)

  are_defined : (foreign : ForeignTree) → HasParentTable db shape foreign → HasTable db foreign.parent
  are_defined foreign (parent, of, refers) = (parent, of, refers.0)

pub firm_sound : FirmSound
firm_sound db firm = record {
  definitions = λ key row stands. let one = firm.definitions key row stands in (one.name, one.definition, one.at, one.defines);
  known = firm.known;
  fits = λ shape key row is stands. (firm.kept shape is).2.fits key row stands;
  no_null = λ shape key row is stands. (firm.kept shape is).2.no_null key row stands;
  no_false = λ shape tests key row is bound stands. none_false db firm shape is tests key row bound stands;
  unique = λ shape is. (firm.kept shape is).2.unique;
  parents = λ shape is. (firm.kept shape is).2.parents;
  parent_tables = λ shape is. all_more (HasParentTable db shape) (λ foreign. HasTable db foreign.parent) (are_defined db firm shape is) shape.foreigns (firm.parents shape is);
  triggers = firm.triggers;
}
