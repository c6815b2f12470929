-- Own: the law of definitions that are read. What a row of `objects` is read as is defined; and where all of `objects` is
-- read, the definitions are exactly those of the database. A row stands at the key of the name that it defines, or at one
-- that compares equal to it.
use Rattle.std.specs.Prelude.{◌≡◌, List, [], ◌∷◌, Option, Some}
use Rattle.value_types.specs.declared.value.Value.{Value}
use Rattle.tsql_tree.specs.declared.definition.Definition.{Definition}
use Rattle.step_model.specs.declared.range.Start.TheVariants.{First}
use Rattle.step_model.specs.declared.range.Stop.TheVariants.{Last}
use Rattle.step_model.specs.Database.{Database, In}
use Rattle.table_rows.specs.Definitions.{IsDefinitionIn, defined_name, objects_name, tables_of}
use Rattle.table_rows.specs.Rows.{rows_table}
use Rattle.batch_meaning.specs.Asking.{with_found}
use Rattle.write_laws.specs.Sound.{IsDefined, Firm}
use Rattle.write_laws.specs.Keeping.{AreDefinitions, AreTables}

-- a row with its key
abbrev pub Entry : Type 0
Entry = List Value × List Value

-- these are all definitions of the rows, in their order, behind others
abbrev pub ReadAs : List Definition → List Entry → List Definition → Type 0
ReadAs so_far [] all = all ≡ so_far
ReadAs so_far (entry ∷ rest) all = (found : Option Definition) × IsDefinitionIn entry found × ReadAs (with_found so_far found) rest all

-- what a row is read as is defined
abbrev pub FoundDefined : Type 0
FoundDefined = (db : Database) (key row : List Value) (definition : Definition) → Firm db → db (rows_table objects_name) key ≡ Some row → IsDefinitionIn (key, row) (Some definition) → IsDefined db (defined_name definition) definition

-- the tables of all rows are those that are defined
abbrev pub FoundTables : Type 0
FoundTables = (db : Database) (entries : List Entry) (all : List Definition) → Firm db → In db (rows_table objects_name) First Last entries → ReadAs [] entries all → AreTables db (tables_of all)

-- and so are all that they define
abbrev pub FoundDefinitions : Type 0
FoundDefinitions = (db : Database) (entries : List Entry) (all : List Definition) → Firm db → In db (rows_table objects_name) First Last entries → ReadAs [] entries all → AreDefinitions db all
