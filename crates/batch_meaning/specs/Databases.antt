-- Transact-SQL reference, "USE": which databases there are, and what USE sends. [MS-TDS] 2.2.7.9, type 1, and 2.2.7.13. Own: there is one
-- database, which has two names; so USE changes nothing, and tells the first of them as the database that was and that is.
use Rattle.std.specs.Prelude.{◌||◌, ℕ, ℤ, pos, Bool, if◌then◌else◌, List, [], ◌∷◌, Result, Ok, codes}
use Rattle.value_types.specs.Units.{same_units}
use Rattle.tsql_tree.specs.declared.statement.Statement.{Statement, out-Statement}
use Rattle.error_table.specs.declared.action.RaisedBy.TheVariants.{Engine}
use Rattle.clause_binder.specs.Server.{database_name}
use Rattle.tds_tokens.specs.Numbers.{env_database}
use Rattle.tds_tokens.specs.declared.token.Token.{Token}
use Rattle.tds_tokens.specs.declared.token.Token.TheVariants.{EnvText}
use Rattle.batch_meaning.specs.declared.failure.Failure.{Failure}
use Rattle.batch_meaning.specs.declared.raised.Raised.{Raised}
use Rattle.batch_meaning.specs.Raised.{Around, info_token}
use Rattle.batch_meaning.specs.Doing.{Doing, over}
use Rattle.batch_meaning.specs.Selecting.{Effect, sending}
use Rattle.batch_meaning.specs.Asking.{fails_naming, if_bytes_left}
use Rattle.batch_meaning.specs.Transactions.{bound_first}

-- no database has this name
abbrev pub no_database : ℕ
no_database = 911

-- the other name of the one database
abbrev pub other_name : List ℕ
other_name = codes "master"

abbrev pub is_database : List ℕ → Bool
is_database name = same_units name database_name || same_units name other_name

-- the message that tells it, which is no error
abbrev pub context_told : List ℕ → ℤ → Raised
context_told procedure line = record {
  number = pos 5701;
  class = 0;
  state = 1;
  text = codes "Changed database context to 'main'.";
  procedure = procedure;
  line = line;
  by = Engine;
}

abbrev pub context_tokens : List ℕ → ℤ → List Token
context_tokens procedure line = EnvText env_database database_name database_name ∷ info_token (context_told procedure line) ∷ []

abbrev pub tells_context : List Token → Doing (Result Effect Failure)
tells_context tokens = if_bytes_left tokens (over (Ok (sending tokens)))

abbrev pub uses_named : Around → Statement → List ℕ → Doing (Result Effect Failure)
uses_named around statement name = if is_database name then tells_context (context_tokens around.procedure (pos (out-Statement statement).line))
    else fails_naming no_database name

unfoldable pub uses_database : Around → Statement → List ℕ → Doing (Result Effect Failure)
uses_database around statement name = bound_first statement λ p. uses_named around statement name
