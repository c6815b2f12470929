-- Own: the table `objects` has a row for each table, procedure and trigger: its name, and the text of its CREATE
-- statement. A row says what its text reads as, if that is a definition of the row's name and the row stands at the name's
-- key; what else stands there is read as no row. A row is said to be that of a given tree; the code reads the text.
use Rattle.std.specs.Prelude.{◌≡◌, ◌≤◌, ℕ, Bool, List, [], ◌∷◌, length, filter_map, codes, Option, Some, None, Ok, if◌then◌else◌}
use Rattle.value_types.specs.Units.{same_units}
use Rattle.value_types.specs.declared.value.Value.{Value}
use Rattle.value_types.specs.declared.value.Value.TheVariants.{Text}
use Rattle.tsql_tree.specs.declared.definition.TableTree.{TableTree}
use Rattle.tsql_tree.specs.declared.definition.Definition.{Definition}
use Rattle.tsql_tree.specs.declared.definition.Definition.TheVariants.{Table, Procedure, Trigger}
use Rattle.tsql_grammar.specs.Parsed.{DefinitionOf}
use Rattle.table_rows.specs.Rows.{same_key}

-- ---- rows of `objects`

-- the name of the table itself, which no other may have
abbrev pub objects_name : List ℕ
objects_name = codes "objects"

abbrev pub is_objects : List ℕ → Bool
is_objects name = same_units name objects_name

-- the key at which a definition stands
abbrev pub object_key : List ℕ → List Value
object_key name = Text name ∷ []

-- the name that a key is; a key of another shape has none
abbrev pub name_in : List Value → Option (List ℕ)
name_in (Text name ∷ []) = Some name
name_in key = None

-- the row of a definition
abbrev pub row_of : List ℕ → List ℕ → List Value
row_of name text = Text name ∷ Text text ∷ []

-- ---- what a row says

-- a table, a procedure and a trigger have a name each
abbrev pub defined_name : Definition → List ℕ
defined_name (Table table) = table.name
defined_name (Procedure procedure) = procedure.name
defined_name (Trigger trigger) = trigger.name

-- a text of more units is read as no definition (own)
abbrev pub longest_text : ℕ
longest_text = 2147483647

-- the text reads as this definition, which is one of the name
pub record Defines (name text : List ℕ) (definition : Definition) : Type 0 where
  pub short : length text ≤ longest_text
  pub reads : DefinitionOf text (Ok definition)
  pub named : defined_name definition ≡ name

-- The row is that of the name, with a text that defines it; or there is no such text.
abbrev pub IsDefinitionOf : List ℕ → List Value → Option Definition → Type 0
IsDefinitionOf name row (Some definition) = (text : List ℕ) × (row ≡ row_of name text) × Defines name text definition
IsDefinitionOf name row None = (text : List ℕ) (definition : Definition) → row ≡ row_of name text → Defines name text definition → ⊥

-- The name of a row that stands at its own key; keys that compare equal are one key. A row whose first value is no text, or that stands at another
-- key, has none.
abbrev pub own_name : List Value → List Value → Option (List ℕ)
own_name key (Text name ∷ rest) = if same_key (object_key name) key then Some name else None
own_name key row = None

abbrev pub IsOfName : Option (List ℕ) → List Value → Option Definition → Type 0
IsOfName (Some name) row outcome = IsDefinitionOf name row outcome
IsOfName None row outcome = outcome ≡ None

-- What a row defines for its own name, said of its key and the row.
abbrev pub IsDefinitionIn : List Value × List Value → Option Definition → Type 0
IsDefinitionIn entry outcome = IsOfName (own_name entry.0 entry.1) entry.1 outcome

-- Private contracts alone cite these: the text in a row of this name, and a definition where it is one of the name.
abbrev pub text_in : List ℕ → List Value → Option (List ℕ)
text_in name (Text own ∷ Text text ∷ []) = if same_units own name then Some text else None
text_in name row = None

abbrev pub only_named : List ℕ → Definition → Option Definition
only_named name definition = if same_units (defined_name definition) name then Some definition else None

-- ---- what is defined

abbrev pub table_in : Definition → Option TableTree
table_in (Table table) = Some table
table_in (Procedure procedure) = None
table_in (Trigger trigger) = None

-- the tables among definitions, in their order
abbrev pub tables_of : List Definition → List TableTree
tables_of definitions = filter_map table_in definitions
