-- Own, after the procedures of SQL Server that drivers call: sp_prepare keeps a statement with its declarations under a
-- handle, sp_execute runs what is kept, sp_prepexec does both, sp_unprepare drops it, and sp_reset_connection begins anew.
-- The errand of a call, and what is kept behind it, are functions of the call and of what was kept. What an errand means
-- `Rpc` says: what is run is what sp_executesql would run.
use Rattle.std.specs.Prelude.{ℕ, ◌+◌, min, ℤ, pos, ◌==◌, ◌&&◌, ◌||◌, not, Bool, true, false, nat_le, nat_lt, int_le, if◌then◌else◌, List, [], ◌∷◌, ◌++◌, length, map, drop, position, remove, slice_get, sum_by, codes, Option, None, Some}
use Rattle.std.specs.Fmt.{signed_decimal}
use Rattle.std.specs.Option.{option_and_then, option_map}
use Rattle.std.specs.Ordering.{int_eq}
use Rattle.value_types.specs.Units.{same_units}
use Rattle.value_types.specs.declared.sql_type.SqlType.{SqlType}
use Rattle.value_types.specs.declared.sql_type.SqlType.TheVariants.{Int, NText}
use Rattle.value_types.specs.declared.value.Value.{Value}
use Rattle.value_types.specs.declared.value.Value.TheVariants.{Null, Text, Whole}
use Rattle.tsql_lexer.specs.declared.lexeme.Lexeme.{Lexeme}
use Rattle.tsql_lexer.specs.declared.lexeme.Lexeme.TheVariants.{Number, Sign, Word}
use Rattle.tsql_lexer.specs.declared.lexeme.Sign.TheVariants.{Open}
use Rattle.tsql_lexer.specs.declared.lexeme.Spanned.{Spanned}
use Rattle.tsql_grammar.specs.declared.kind.Kind.{Kind}
use Rattle.tsql_grammar.specs.declared.kind.Kind.TheVariants as kinds
use Rattle.tsql_grammar.specs.declared.kind.Reserved.TheVariants as reserved
use Rattle.tsql_grammar.specs.Kinds.{same_kind}
use Rattle.tsql_grammar.specs.Parsed.{lexemes_of}
use Rattle.tsql_grammar.specs.Trees.{slice}
use Rattle.tsql_grammar.specs.Words.{capital, kind_of}
use Rattle.rpc_requests.specs.declared.call.DriverCall.{DriverCall}
use Rattle.rpc_requests.specs.declared.call.DriverProcedure.{DriverProcedure}
use Rattle.rpc_requests.specs.declared.call.DriverProcedure.TheVariants.{ExecuteSql, Prepare, Execute, PrepExec, Unprepare, Reset}
use Rattle.rpc_requests.specs.declared.call.DriverTarget.{DriverTarget}
use Rattle.rpc_requests.specs.declared.call.DriverTarget.TheVariants.{Named, System}
use Rattle.rpc_requests.specs.declared.call.RpcParameter.{RpcParameter}
use Rattle.batch_meaning.specs.declared.errand.Errand.{Errand}
use Rattle.batch_meaning.specs.declared.errand.Way.{Way}
use Rattle.batch_meaning.specs.declared.errand.Way.TheVariants as way
use Rattle.batch_meaning.specs.declared.prepared.PreparedStatement.{PreparedStatement}
use Rattle.batch_meaning.specs.Rpc.{is_too_many, naming_text, sql_text, text_in}

-- ---- declarations

-- VARCHAR, CHAR and NCHAR are texts of units, TEXT and NTEXT, which have no size, are the longest, and so is MAX:
-- declarations are read so, until there are such types
abbrev pub type_for : List ℕ → Option (List ℕ)
type_for word =
    if same_units (codes "VARCHAR") word then Some (codes "NVARCHAR")
    else if same_units (codes "CHAR") word then Some (codes "NVARCHAR")
    else if same_units (codes "NCHAR") word then Some (codes "NVARCHAR")
    else if same_units (codes "TEXT") word then Some (codes "NVARCHAR(4000)")
    else if same_units (codes "NTEXT") word then Some (codes "NVARCHAR(4000)")
    else None

abbrev pub longest_for : List ℕ → Option (List ℕ)
longest_for word = if same_units (codes "MAX") word then Some (codes "4000") else None

-- a size of bytes above 4,000 is 4,000
abbrev pub number_for : ℤ → Option (List ℕ)
number_for number = if int_le (pos 4001) number && int_le number (pos 8000) then Some (codes "4000") else None

-- behind `(` stands a size
abbrev pub is_open : Lexeme → Bool
is_open (Sign Open) = true
is_open other = false

abbrev pub size_for : Lexeme → Option (List ℕ)
size_for (Word word) = longest_for (map capital word)
size_for (Number number) = number_for number
size_for other = None

abbrev pub word_for : Lexeme → Option (List ℕ)
word_for (Word word) = type_for (map capital word)
word_for other = None

-- what a lexeme is read as, if it does not stand for itself
abbrev pub stands_for : Bool → Lexeme → Option (List ℕ)
stands_for true lexeme = size_for lexeme
stands_for false lexeme = word_for lexeme

abbrev pub or_own : List ℕ → Option (List ℕ) → List ℕ
or_own own None = own
or_own own (Some other) = other

-- the text from a place on, of which these are the lexemes, with `(` in front of them or not; what stands between them
-- stays, lines too
unfoldable pub declared_from : List ℕ → ℕ → Bool → List Spanned → List ℕ
declared_from text at opened [] = drop at text
declared_from text at opened (l ∷ rest) =
    slice text at l.start ++ or_own (slice text l.start l.end) (stands_for opened l.lexeme) ++ declared_from text l.end (is_open l.lexeme) rest

-- What declarations are read as.
abbrev pub declared_as : List ℕ → List ℕ
declared_as text = declared_from text 0 false (lexemes_of text)

-- ---- statements

-- CREATE PROCEDURE or CREATE TRIGGER stands in front
abbrev pub is_creating : Kind → Kind → Bool
is_creating first second = same_kind first (kinds.Reserved reserved.Create)
    && (same_kind second (kinds.Reserved reserved.Procedure) || same_kind second (kinds.Reserved reserved.Trigger))

abbrev pub is_defining : List Spanned → Bool
is_defining (first ∷ second ∷ rest) = is_creating (kind_of first.lexeme) (kind_of second.lexeme)
is_defining others = false

-- a definition is a batch by itself, and takes no arguments; every other statement is the body of a procedure
abbrev pub is_batch : List ℕ → List ℕ → Bool
is_batch declarations statement = length declarations == 0 && is_defining (lexemes_of statement)

-- how a statement with its declarations is run, where so many parameters in front are not its, and by which text
abbrev pub Source : Type 0
Source = Way × List ℕ

abbrev pub source_by : Bool → ℕ → List ℕ → List ℕ → Source
source_by true own declarations statement = (way.RunsBatch, statement)
source_by false own declarations statement = (way.RunsRead own, sql_text (declared_as declarations) statement)

abbrev pub source_for : ℕ → List ℕ → List ℕ → Source
source_for own declarations statement = source_by (is_batch declarations statement) own declarations statement

-- of sp_executesql: the statement, and its declarations, if there are any
abbrev pub sql_source : List RpcParameter → Option Source
sql_source [] = None
sql_source (statement ∷ []) = option_map (source_for 2 []) (text_in statement)
sql_source (statement ∷ declarations ∷ others) =
    option_and_then (λ declared. option_map (source_for 2 declared) (text_in statement)) (text_in declarations)

-- ---- what is kept

-- how many handles were given, and what is kept, that which was used last at the end
pub record KeptStatements : Type 0 where
  pub given : ℕ
  pub kept : List PreparedStatement

abbrev pub none_kept : KeptStatements
none_kept = record { given = 0; kept = [] }

-- so many statements are kept, and so many units of them with their declarations
abbrev pub most_kept : ℕ
most_kept = 1000

abbrev pub most_units : ℕ
most_units = 1048576

abbrev pub units_in : PreparedStatement → ℕ
units_in one = length one.declarations + length one.statement

abbrev pub are_within : List PreparedStatement → Bool
are_within kept = nat_le (length kept) most_kept && nat_le (sum_by units_in kept) most_units

-- more than one, and more than are kept
abbrev pub are_many : List PreparedStatement → Bool
are_many kept = nat_lt 1 (length kept) && not (are_within kept)

-- what was not used for longest goes, until they are not
unfoldable pub shed : List PreparedStatement → List PreparedStatement
shed [] = []
shed (one ∷ rest) = if are_many (one ∷ rest) then shed rest else one ∷ rest

-- handles count from 1, up to the greatest INT
abbrev pub last_handle : ℕ
last_handle = 2147483647

-- one is left to be given
abbrev pub has_handle : KeptStatements → Bool
has_handle p = nat_lt p.given last_handle

abbrev pub next_handle : KeptStatements → ℕ
next_handle p = min (p.given + 1) last_handle

abbrev pub with_statement : List ℕ → List ℕ → KeptStatements → KeptStatements
with_statement declarations statement p = record {
  given = next_handle p;
  kept = shed (p.kept ++ record { handle = next_handle p; declarations = declarations; statement = statement } ∷ []);
}

abbrev pub is_of : ℤ → PreparedStatement → Bool
is_of handle one = int_eq (pos one.handle) handle

abbrev pub place_of : ℤ → KeptStatements → Option ℕ
place_of handle p = position (is_of handle) p.kept

-- what is kept under a handle
abbrev pub kept_under : ℤ → KeptStatements → Option PreparedStatement
kept_under handle p = option_and_then (slice_get p.kept) (place_of handle p)

abbrev pub without_at : KeptStatements → Option ℕ → KeptStatements
without_at p None = p
without_at p (Some place) = record p { kept = remove p.kept place }

abbrev pub without : ℤ → KeptStatements → KeptStatements
without handle p = without_at p (place_of handle p)

-- what is under the handle that was sent goes, if one was
abbrev pub without_sent : Option ℤ → KeptStatements → KeptStatements
without_sent None p = p
without_sent (Some handle) p = without handle p

-- what is used is the last
abbrev pub with_last : KeptStatements → PreparedStatement → KeptStatements
with_last p one = record p { kept = p.kept ++ one ∷ [] }

abbrev pub used_by : ℤ → KeptStatements → Option PreparedStatement → KeptStatements
used_by handle p None = p
used_by handle p (Some one) = with_last (without handle p) one

-- ---- parameters

-- a text of more units than its type has
abbrev pub is_longer : ℕ → Value → Bool
is_longer size (Text units) = nat_lt size (length units)
is_longer size other = false

abbrev pub is_above : SqlType → Value → Bool
is_above (NText size) value = is_longer size value
is_above kind value = false

-- no variable has one: of a parameter that is the procedure's own it is not kept
abbrev pub short_value : Bool → Value → Value
short_value true value = Null
short_value false value = value

abbrev pub shortened : RpcParameter → RpcParameter
shortened parameter = record parameter { value = short_value (is_above parameter.kind parameter.value) parameter.value }

-- the first tells a handle
abbrev pub with_handle : ℕ → List RpcParameter → List RpcParameter
with_handle number [] = []
with_handle number (handle ∷ others) = record handle { kind = Int; value = Whole (pos number) } ∷ others

-- the handle that one gives
abbrev pub whole_in : Value → Option ℤ
whole_in (Whole number) = Some number
whole_in other = None

abbrev pub handle_of : RpcParameter → Option ℤ
handle_of parameter = if parameter.missing then None else whole_in parameter.value

-- the first is the handle
abbrev pub handle_in : List RpcParameter → Option ℤ
handle_in [] = None
handle_in (handle ∷ others) = handle_of handle

-- a text that may be wanting: NULL is an empty one
abbrev pub text_or_none : Value → Option (List ℕ)
text_or_none (Text units) = Some units
text_or_none Null = Some []
text_or_none other = None

abbrev pub optional_text : RpcParameter → Option (List ℕ)
optional_text parameter = if parameter.missing then Some [] else text_or_none parameter.value

-- ---- errands

-- an errand, and what is kept behind it
abbrev pub Taken : Type 0
Taken = Errand × KeptStatements

abbrev pub system_errand : Way → Option (List ℕ) → List RpcParameter → Errand
system_errand of text parameters = record { way = of; parameters = map shortened parameters; text = text }

abbrev pub unmatched : List RpcParameter → Errand
unmatched parameters = system_errand way.Unmatched None parameters

-- sp_executesql
abbrev pub executes : List RpcParameter → Option Source → Errand
executes parameters None = unmatched parameters
executes parameters (Some source) = system_errand source.0 (Some source.1) parameters

-- sp_prepare and sp_prepexec: behind a handle that is told stand declarations, which may be wanting, and the statement.
-- While a handle is left to be given they are kept, and what was kept under the one that was sent goes first
abbrev pub keeps_if : Bool → KeptStatements → Option ℤ → List ℕ → List ℕ → Option Source × KeptStatements
keeps_if true p sent declarations statement = (Some (source_for 3 declarations statement), with_statement declarations statement (without_sent sent p))
keeps_if false p sent declarations statement = (None, p)

abbrev pub keeps_both : KeptStatements → Option ℤ → List ℕ → List ℕ → Option Source × KeptStatements
keeps_both p sent declarations statement = keeps_if (has_handle p) p sent declarations statement

abbrev pub keeps_texts : KeptStatements → Option ℤ → Option (List ℕ) → Option (List ℕ) → Option Source × KeptStatements
keeps_texts p sent (Some declarations) (Some statement) = keeps_both p sent declarations statement
keeps_texts p sent declarations statement = (None, p)

abbrev pub keeps : KeptStatements → List RpcParameter → Option Source × KeptStatements
keeps p (handle ∷ declarations ∷ statement ∷ others) = keeps_texts p (handle_of handle) (optional_text declarations) (text_in statement)
keeps p parameters = (None, p)

-- the first runs nothing
abbrev pub way_if : Bool → Way → Way
way_if true of = of
way_if false of = way.Tells

abbrev pub prepared_by : Bool → ℕ → List RpcParameter → Option Source → Errand
prepared_by runs number parameters None = unmatched parameters
prepared_by runs number parameters (Some source) = system_errand (way_if runs source.0) (Some source.1) (with_handle number parameters)

abbrev pub prepares : Bool → KeptStatements → List RpcParameter → Taken
prepares runs p parameters = (prepared_by runs (next_handle p) parameters (keeps p parameters).0, (keeps p parameters).1)

-- sp_execute and sp_unprepare: of what is kept under a handle
abbrev pub finds_kept : (PreparedStatement → Taken) → KeptStatements → List RpcParameter → ℤ → Option PreparedStatement → Taken
finds_kept go p parameters handle None = (system_errand (way.Unknown (signed_decimal handle)) None parameters, p)
finds_kept go p parameters handle (Some one) = go one

abbrev pub by_handle : (ℤ → PreparedStatement → Taken) → KeptStatements → List RpcParameter → Option ℤ → Taken
by_handle go p parameters None = (unmatched parameters, p)
by_handle go p parameters (Some handle) = finds_kept (go handle) p parameters handle (kept_under handle p)

abbrev pub executed : KeptStatements → List RpcParameter → ℤ → PreparedStatement → Taken
executed p parameters handle one = (executes parameters (Some (source_for 1 one.declarations one.statement)), used_by handle p (Some one))

abbrev pub unprepared : KeptStatements → List RpcParameter → ℤ → PreparedStatement → Taken
unprepared p parameters handle one = (system_errand way.Tells None parameters, without handle p)

-- sp_reset_connection: what is open is rolled back, options are as at first, and nothing is kept
abbrev pub reset_text : List ℕ
reset_text =
    codes "IF @@TRANCOUNT > 0 ROLLBACK; SET XACT_ABORT OFF; SET NOCOUNT OFF; SET IMPLICIT_TRANSACTIONS OFF; "
    ++ codes "SET TRANSACTION ISOLATION LEVEL READ COMMITTED; SET LOCK_TIMEOUT -1; SET DEADLOCK_PRIORITY NORMAL"

abbrev pub system_taken : KeptStatements → List RpcParameter → DriverProcedure → Taken
system_taken p parameters ExecuteSql = (executes parameters (sql_source parameters), p)
system_taken p parameters Prepare = prepares false p parameters
system_taken p parameters PrepExec = prepares true p parameters
system_taken p parameters Execute = by_handle (executed p parameters) p parameters (handle_in parameters)
system_taken p parameters Unprepare = by_handle (unprepared p parameters) p parameters (handle_in parameters)
system_taken p parameters Reset = (system_errand way.RunsBatch (Some reset_text) parameters, record p { kept = [] })

-- more parameters than a call may have, which is refused for them
abbrev pub are_too_many : List RpcParameter → Bool
are_too_many parameters = is_too_many (record { way = way.Unmatched; parameters = parameters; text = None })

-- then nothing is kept or dropped
abbrev pub served_by : Bool → KeptStatements → List RpcParameter → DriverProcedure → Taken
served_by true p parameters procedure = (unmatched parameters, p)
served_by false p parameters procedure = system_taken p parameters procedure

-- a procedure that was created
abbrev pub named_errand : List ℕ → List RpcParameter → Errand
named_errand name parameters = record { way = way.LooksUp name; parameters = parameters; text = Some (naming_text name) }

abbrev pub target_taken : KeptStatements → List RpcParameter → DriverTarget → Taken
target_taken p parameters (Named name) = (named_errand name parameters, p)
target_taken p parameters (System procedure) = served_by (are_too_many parameters) p parameters procedure

-- What a call of a driver is run as, and what is kept behind it.
abbrev pub taken : KeptStatements → DriverCall → Taken
taken p call = target_taken p call.parameters call.target
