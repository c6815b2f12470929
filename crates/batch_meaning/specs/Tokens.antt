-- What a client is sent for a statement ([MS-TDS] 2.2.7): its tokens, by what came of it.
use Rattle.std.specs.Prelude.{ℕ, ℤ, ◌+◌, ◌==◌, Bool, if◌then◌else◌, List, [], ◌∷◌, ◌++◌, map, length}
use Rattle.std.specs.Int.{w64, to_le_bytes}
use Rattle.value_types.specs.declared.value.Value.{Value}
use Rattle.tsql_tree.specs.declared.statement.Form.{Form-F}
use Rattle.binder.specs.Names.{Layer}
use Rattle.step_model.specs.Ranges.{Rows}
use Rattle.tds_tokens.specs.declared.columns.ColumnInfo.{ColumnInfo}
use Rattle.tds_tokens.specs.Numbers.{done_final, done_more, done_error, done_count, command_none, command_select, command_insert, command_delete, command_update, env_begin, env_commit, env_rollback}
use Rattle.tds_tokens.specs.declared.token.DoneKind.{DoneKind}
use Rattle.tds_tokens.specs.declared.token.DoneKind.TheVariants.{Done, InProc, Proc}
use Rattle.tds_tokens.specs.declared.token.Token.{Token}
use Rattle.tds_tokens.specs.declared.token.Token.TheVariants.{Columns, Row, EnvBytes, Finished, ReturnStatus}
use Rattle.batch_meaning.specs.Raised.{Around}

-- ---- DONE ([MS-TDS] 2.2.7.6)

-- the command that a DONE names: SELECT, INSERT, UPDATE, DELETE, or none
abbrev pub command_of : Layer → ℕ
command_of (Form-F.Select select) = command_select
command_of (Form-F.Insert table columns rows) = command_insert
command_of (Form-F.Update table sets filter) = command_update
command_of (Form-F.Delete table filter) = command_delete
command_of form = command_none

-- DONE, or DONEINPROC in a procedure or trigger
abbrev pub done_kind : Around → DoneKind
done_kind around = if around.depth == 0 then Done else InProc

-- the end of a statement, where more follows, with its count of rows; under NOCOUNT no count is told
abbrev pub statement_done : DoneKind → Bool → ℕ → ℕ → Token
statement_done kind no_count command rows =
    if no_count then Finished kind done_more command 0 else Finished kind (done_more + done_count) command rows

-- the end of a statement that failed, where more follows
abbrev pub statement_failed : DoneKind → ℕ → Token
statement_failed kind command = Finished kind (done_more + done_error) command 0

-- the end of a procedure: its status, and DONEPROC ([MS-TDS] 2.2.7.18, 2.2.7.8)
abbrev pub procedure_done : ℤ → List Token
procedure_done status = ReturnStatus status ∷ Finished Proc done_more command_none 0 ∷ []

-- the last token of a batch or a call by RPC, by whether an error ended it
abbrev pub last_done : DoneKind → Bool → Token
last_done kind failed = Finished kind (if failed then done_error else done_final) command_none 0

-- a batch's end
abbrev pub batch_done : Bool → Token
batch_done failed = last_done Done failed

-- that of a call by RPC
abbrev pub rpc_done : Bool → Token
rpc_done failed = last_done Proc failed

-- ---- results

-- a token for each row
abbrev pub row_tokens : Rows → List Token
row_tokens rows = map {A = List Value} {B = Token} Row rows

-- a result: its columns, its rows and their count
abbrev pub result_tokens : DoneKind → Bool → List ColumnInfo → Rows → List Token
result_tokens kind no_count columns rows = Columns columns ∷ row_tokens rows ++ statement_done kind no_count command_select (length rows) ∷ []

-- ---- transactions ([MS-TDS] 2.2.7.9, types 8 to 10)

-- the descriptor of a transaction: its number on the connection, from 1
abbrev pub descriptor : ℕ → List ℕ
descriptor serial = to_le_bytes w64 serial

abbrev pub transaction_begun : ℕ → Token
transaction_begun serial = EnvBytes env_begin (descriptor serial) []

abbrev pub transaction_committed : ℕ → Token
transaction_committed serial = EnvBytes env_commit [] (descriptor serial)

abbrev pub transaction_rolled_back : ℕ → Token
transaction_rolled_back serial = EnvBytes env_rollback [] (descriptor serial)
