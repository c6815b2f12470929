-- The database without rows is firm.
use Rattle.std.proofs.Common.{◌≡◌, refl, ℕ, List, Some, None}
use Rattle.value_types.specs.declared.value.Value.{Value}
use Rattle.tsql_tree.specs.declared.definition.Definition.{Definition}
use Rattle.step_model.specs.Database.{nothing}
use Rattle.write_laws.specs.Keeping.{FirmEmpty, UntriggeredEmpty}
use Rattle.write_laws.specs.Sound.{IsDefined}

no_row : (row : List Value) → None ≡ Some row → ⊥
no_row row is = cc

undefined : (name : List ℕ) (definition : Definition) → IsDefined nothing name definition → ⊥
undefined name definition is = no_row is.0 is.1

pub firm_empty : FirmEmpty
firm_empty = record {
  one_key = λ table key other is. refl;
  definitions = λ key row is. absurd (no_row row is);
  known = λ table key row is. absurd (no_row row is);
  few = λ shape is. absurd (undefined shape.name _ is);
  kept = λ shape is. absurd (undefined shape.name _ is);
  parents = λ shape is. absurd (undefined shape.name _ is);
  triggers = λ name trigger is. absurd (undefined name _ is);
}

pub untriggered_empty : UntriggeredEmpty
untriggered_empty name trigger is = undefined name _ is
