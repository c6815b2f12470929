-- Worked names: `t`, and the same with a space at its end. They are two names, whose keys are one key.
use Rattle.std.proofs.Common.{◌≡◌, refl, ℕ, true, false, List, [], ◌∷◌, Some, None}
use Rattle.std.specs.Prelude.{codes}
use Rattle.value_types.specs.Units.{same_units}
use Rattle.tsql_tree.specs.declared.definition.Definition.{Definition}
use Rattle.step_model.specs.declared.range.Start.TheVariants.{First}
use Rattle.step_model.specs.declared.range.Stop.TheVariants.{Last}
use Rattle.step_model.specs.declared.reply.Reply.TheVariants.{Row}
use Rattle.step_model.specs.Database.{Database, nothing}
use Rattle.step_model.specs.Entries.{next_entry}
use Rattle.step_model.specs.Moves.{with_pending}
use Rattle.step_model.specs.State.{Engine}
use Rattle.step_model.specs.Step.{fetch_reply}
use Rattle.table_rows.specs.Definitions.{Defines, IsDefinitionIn, object_key, objects_name, row_of}
use Rattle.table_rows.specs.Rows.{rows_table, same_key}
use Rattle.constraint_check.specs.Laws.{behind}
use Rattle.statement_paths.specs.Paths.{definition_put}

abbrev t : List ℕ
t = codes "t"

abbrev spaced : List ℕ
spaced = codes "t "

apart : same_units t spaced ≡ false
apart = refl

alike : same_key (object_key t) (object_key spaced) ≡ true
alike = refl

module _ (text : List ℕ) where
  -- a database where one definition was put, that of `t`
  abbrev db : Database
  db = behind nothing (definition_put t text ∷ [])

  -- its row stands at the key of the other name
  stands : db (rows_table objects_name) (object_key spaced) ≡ Some (row_of t text)
  stands = refl

  -- an engine where `t` is
  abbrev engine : Engine
  engine = record { entries = record { table = rows_table objects_name; key = object_key t; committed = Some (row_of t text); pending = None } ∷ []; active = []; log = [] }

  -- the same behind the erasure of that and the insertion of the other name, by one transaction
  abbrev renamed : Engine
  renamed = with_pending 1 (rows_table objects_name) (object_key spaced) (Some (row_of spaced text)) (with_pending 1 (rows_table objects_name) (object_key t) None engine)

  -- the entry keeps its key, so its row is told at the key of `t`
  told : fetch_reply 1 Last 0 (next_entry renamed.entries (rows_table objects_name) First) ≡ Row (object_key t) (row_of spaced text) 0
  told = refl

  -- and that key is the row's own; that no text defines a name which ends in a space need not be known for it
  read : (definition : Definition) → Defines spaced text definition → IsDefinitionIn (object_key t, row_of spaced text) (Some definition)
  read definition defines = (text, refl, defines)
