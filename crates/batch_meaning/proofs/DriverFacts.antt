-- Calls of drivers that are known: how their declarations are read, what they are run as, and what is kept behind them.
use Rattle.std.proofs.Common.{◌≡◌, ℕ, true, false, List, [], ◌∷◌, None, Some, pos, refl}
use Rattle.std.specs.Prelude.{codes}
use Rattle.std.specs.Fmt.{digits}
use Rattle.value_types.specs.declared.sql_type.SqlType.TheVariants.{Int, NText}
use Rattle.value_types.specs.declared.value.Value.TheVariants.{Null, Text, Whole}
use Rattle.tsql_lexer.specs.Quotes.{enclosed}
use Rattle.tsql_lexer.specs.Reading.{at_name_piece, double_sign, lexing_of, number_of, number_piece, opening_of, piece_by, piece_of, read_on, sign_piece, single_sign, text_piece}
use Rattle.tsql_grammar.specs.Words.{word_kind}
use Rattle.rpc_requests.specs.declared.call.DriverCall.{DriverCall}
use Rattle.rpc_requests.specs.declared.call.DriverProcedure.TheVariants.{Execute, PrepExec, Prepare, Unprepare}
use Rattle.rpc_requests.specs.declared.call.DriverTarget.TheVariants.{System}
use Rattle.rpc_requests.specs.declared.call.RpcParameter.{RpcParameter}
use Rattle.batch_meaning.specs.declared.errand.Way.TheVariants as way
use Rattle.batch_meaning.specs.declared.prepared.PreparedStatement.{PreparedStatement}
use Rattle.batch_meaning.specs.Drivers.{KeptStatements, declared_as, declared_from, is_batch, none_kept, shed, taken}

-- ---- declarations

-- sizes of bytes, and types that are read as texts of units, with a size or without
declared_types : declared_as (codes "@a VARCHAR(8000), @b nchar(MAX),\n@c INT") ≡ codes "@a NVARCHAR(4000), @b NVARCHAR(4000),\n@c INT"
unfolding declared_from lexing_of read_on piece_of piece_by number_piece number_of at_name_piece sign_piece single_sign double_sign opening_of
declared_types = refl

sizeless_types : declared_as (codes "@a text, @TEXT NTEXT, @b NVARCHAR(text)") ≡ codes "@a NVARCHAR(4000), @TEXT NVARCHAR(4000), @b NVARCHAR(text)"
unfolding declared_from lexing_of read_on piece_of piece_by at_name_piece sign_piece single_sign double_sign opening_of
sizeless_types = refl

-- a number that is no size is a default, and so is MAX none elsewhere
declared_defaults : declared_as (codes "@a INT = 5000, @b INT = -5000, @c CHAR(8000) = N'5000', @d MAX") ≡ codes "@a INT = 5000, @b INT = -5000, @c NVARCHAR(4000) = N'5000', @d MAX"
unfolding declared_from lexing_of read_on piece_of piece_by number_piece number_of at_name_piece sign_piece single_sign double_sign text_piece enclosed opening_of
declared_defaults = refl

-- a definition, and a statement
defines_batch : is_batch [] (codes "create proc p AS SELECT 1") ≡ true
unfolding lexing_of read_on piece_of piece_by number_piece number_of opening_of word_kind
defines_batch = refl

creates_table : is_batch [] (codes "CREATE TABLE t (k INT)") ≡ false
unfolding lexing_of read_on piece_of piece_by sign_piece single_sign double_sign opening_of word_kind
creates_table = refl

-- ---- a statement that is prepared and run, run again, and dropped

abbrev given : List ℕ → RpcParameter
given units = record { name = []; output = false; missing = false; kind = NText 4000; value = Text units }

abbrev number : ℕ → RpcParameter
number n = record { name = []; output = false; missing = false; kind = Int; value = Whole (pos n) }

abbrev handle : RpcParameter
handle = record { name = []; output = true; missing = false; kind = Int; value = Null }

abbrev told : ℕ → RpcParameter
told n = record handle { value = Whole (pos n) }

-- sp_prepexec @handle OUTPUT, N'@P1 INT', N'SELECT @P1', 5
abbrev first : DriverCall
first = record { target = System PrepExec; parameters = handle ∷ given (codes "@P1 INT") ∷ given (codes "SELECT @P1") ∷ number 5 ∷ [] }

abbrev selects : List ℕ
selects = codes "CREATE PROCEDURE [sp_executesql] @P1 INT AS SELECT @P1"

abbrev statement : PreparedStatement
statement = record { handle = 1; declarations = codes "@P1 INT"; statement = codes "SELECT @P1" }

abbrev one_kept : KeptStatements
one_kept = record { given = 1; kept = statement ∷ [] }

first_taken : taken none_kept first ≡ (
  record { way = way.RunsRead 3; parameters = told 1 ∷ given (codes "@P1 INT") ∷ given (codes "SELECT @P1") ∷ number 5 ∷ []; text = Some selects },
  one_kept,
)
unfolding shed declared_from lexing_of read_on piece_of piece_by at_name_piece number_piece number_of sign_piece single_sign double_sign opening_of word_kind
first_taken = refl

-- the same with the handle 1: what is kept under it goes
abbrev anew : DriverCall
anew = record first { parameters = told 1 ∷ given (codes "@P1 INT") ∷ given (codes "SELECT @P1") ∷ number 5 ∷ [] }

anew_taken : taken one_kept anew ≡ (
  record { way = way.RunsRead 3; parameters = told 2 ∷ given (codes "@P1 INT") ∷ given (codes "SELECT @P1") ∷ number 5 ∷ []; text = Some selects },
  record { given = 2; kept = record statement { handle = 2 } ∷ [] },
)
unfolding shed declared_from lexing_of read_on piece_of piece_by at_name_piece number_piece number_of sign_piece single_sign double_sign opening_of word_kind
anew_taken = refl

-- behind the last handle nothing is kept any more, and nothing is dropped
abbrev spent : KeptStatements
spent = record one_kept { given = 2147483647 }

spent_taken : taken spent anew ≡ (record { way = way.Unmatched; parameters = anew.parameters; text = None }, spent)
spent_taken = refl

-- sp_execute 1, 6
again_taken : taken one_kept (record { target = System Execute; parameters = number 1 ∷ number 6 ∷ [] }) ≡
    (record { way = way.RunsRead 1; parameters = number 1 ∷ number 6 ∷ []; text = Some selects }, one_kept)
unfolding declared_from lexing_of read_on piece_of piece_by at_name_piece number_piece number_of sign_piece single_sign double_sign opening_of word_kind
again_taken = refl

-- sp_execute 2
other_taken : taken one_kept (record { target = System Execute; parameters = number 2 ∷ [] }) ≡
    (record { way = way.Unknown (codes "2"); parameters = number 2 ∷ []; text = None }, one_kept)
unfolding digits
other_taken = refl

-- sp_unprepare 1
dropped_taken : taken one_kept (record { target = System Unprepare; parameters = number 1 ∷ [] }) ≡
    (record { way = way.Tells; parameters = number 1 ∷ []; text = None }, record { given = 1; kept = [] })
dropped_taken = refl

-- sp_prepare without a statement
short_taken : taken one_kept (record { target = System Prepare; parameters = handle ∷ given [] ∷ [] }) ≡
    (record { way = way.Unmatched; parameters = handle ∷ given [] ∷ []; text = None }, one_kept)
short_taken = refl
