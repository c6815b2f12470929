-- Own: what OPEN of a cursor has asked, and with what it has filled the cursor: with what its select answers there, in the open transaction or
-- in one of its own.
use Rattle.std.specs.Prelude.{◌≡◌, ℕ, true, List, [], ◌++◌, Ok}
use Rattle.tsql_tree.specs.declared.definition.Definition.{Definition}
use Rattle.tsql_tree.specs.declared.query.Select.{Select}
use Rattle.tsql_tree.specs.declared.statement.Statement.{Statement}
use Rattle.bound_tree.specs.declared.query.BoundQuery.{BoundQuery}
use Rattle.bound_tree.specs.declared.write.Bound.TheVariants as bound
use Rattle.binder.specs.Names.{looked_up}
use Rattle.table_rows.specs.Definitions.{tables_of}
use Rattle.step_model.specs.Exchange.{Exchange}
use Rattle.step_model.specs.Ranges.{Rows}
use Rattle.session_cursors.specs.Cursors.{fill_answer, filled, query_of}
use Rattle.batch_meaning.specs.Cursors.{kinds_of, opens_cursor, select_statement}
use Rattle.batch_meaning.specs.Doing.{Held}
use Rattle.batch_meaning.specs.Progress.{SessionProgress}
use Rattle.batch_meaning.specs.Raised.{Around}
use Rattle.batch_meaning.specs.Selecting.{Effect, bound_over, no_effect}
use Rattle.batch_meaning.specs.Working.{asks_any, known_by}
use Rattle.statement_paths.specs.Paths.{AreLookedUp, IsAnswered, IsAround}

module _ (around : Around) (p : SessionProgress) where
  -- The names of a select were looked up, over what was found it was bound, and it was answered; the cursor of this name has the answer.
  pub record IsFilled (name : List ℕ) (select : Statement) (worked : List Exchange) (new : SessionProgress) : Type 0 where
    pub definitions : List Definition
    pub query : BoundQuery
    pub rows : Rows
    pub looked : List Exchange
    pub read : List Exchange
    pub parts : worked ≡ looked ++ read
    pub looks : AreLookedUp p.settings.manner (known_by around select) [] (looked_up select) looked definitions
    pub binds : bound_over definitions p.vars select ≡ Ok (bound.Query query)
    pub answered : IsAnswered around p (tables_of definitions) query rows read
    pub fills : new.cursors ≡ filled name (kinds_of query) rows p.cursors

  -- A cursor that is not open was opened: so it was with the select that it was declared for, at the line of this statement.
  pub record IsOpened (statement : Statement) (name : List ℕ) (effect : Effect) (exchanges : List Exchange) (new : SessionProgress) : Type 0 where
    pub select : Select
    pub kept : query_of name p.cursors ≡ Ok select
    pub shut : fill_answer name p.cursors ≡ Ok tt
    pub worked : List Exchange
    pub filled : IsFilled name (select_statement statement select) worked new
    pub asks : IsAround (asks_any (known_by around (select_statement statement select)) (looked_up (select_statement statement select))) p.is_open true p.settings.manner worked exchanges
    pub tells : effect ≡ no_effect

-- an OPEN that succeeded
abbrev pub OpenDone : Type 0
OpenDone = (around : Around) (statement : Statement) (name : List ℕ) (old new : SessionProgress) (exchanges : List Exchange) (effect : Effect)
    → Held (opens_cursor around statement name) old exchanges (Ok effect) new → IsOpened around old statement name effect exchanges new
