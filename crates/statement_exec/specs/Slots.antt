-- Own: definitions of which some triggers were taken out.
use Rattle.std.specs.Prelude.{◌≡◌, List, [], ◌∷◌, Option, Some, None}
use Rattle.tsql_tree.specs.declared.definition.Definition.{Definition}
use Rattle.tsql_tree.specs.declared.definition.Definition.TheVariants.{Table, Procedure, Trigger}
use Rattle.tsql_tree.specs.declared.definition.TableTree.{TableTree}

-- a slot for each of these definitions, from which none but a trigger was taken
abbrev pub AreSlots : List (Option Definition) → List Definition → Type 0
AreSlots [] [] = Unit {0}
AreSlots [] (of ∷ definitions) = ⊥
AreSlots (slot ∷ slots) [] = ⊥
AreSlots (Some of ∷ slots) (defined ∷ definitions) = (of ≡ defined) × AreSlots slots definitions
AreSlots (None ∷ slots) (Table table ∷ definitions) = ⊥
AreSlots (None ∷ slots) (Procedure procedure ∷ definitions) = ⊥
AreSlots (None ∷ slots) (Trigger trigger ∷ definitions) = AreSlots slots definitions

-- the table in a slot
abbrev pub table_left : Option Definition → Option TableTree
table_left (Some (Table table)) = Some table
table_left (Some (Procedure procedure)) = None
table_left (Some (Trigger trigger)) = None
table_left None = None
