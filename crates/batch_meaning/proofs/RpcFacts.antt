-- Calls by RPC that are known, with what their texts are read as: what they send.
use Rattle.std.proofs.Common.{◌≡◌, ℕ, ◌-◌, true, false, List, [], ◌∷◌, None, Some, pos, refl}
use Rattle.std.specs.Prelude.{codes}
use Rattle.value_types.specs.declared.sql_type.SqlType.TheVariants.{Int, NText}
use Rattle.value_types.specs.declared.value.Value.{Value}
use Rattle.value_types.specs.declared.value.Value.TheVariants.{Null, Whole, Text}
use Rattle.session_vars.specs.declared.Variable.{Variable}
use Rattle.error_table.specs.Table as table
use Rattle.rpc_requests.specs.declared.call.RpcCall.{RpcCall}
use Rattle.rpc_requests.specs.declared.call.RpcParameter.{RpcParameter}
use Rattle.rpc_requests.specs.declared.call.RpcTarget.TheVariants.{Named, ExecuteSql}
use Rattle.tds_tokens.specs.Spelling.{tokens_bytes}
use Rattle.tds_tokens.specs.declared.token.DoneKind.TheVariants.{Proc}
use Rattle.tds_tokens.specs.declared.token.Token.{Token}
use Rattle.tds_tokens.specs.declared.token.Token.TheVariants.{Error, Finished, ReturnStatus, ReturnValue}
use Rattle.tsql_tree.specs.declared.definition.ProcedureTree.{ProcedureTree}
use Rattle.tsql_tree.specs.declared.statement.ArgumentValue.TheVariants as argument
use Rattle.batch_meaning.specs.declared.errand.Errand.{Errand}
use Rattle.batch_meaning.specs.declared.errand.Way.TheVariants as way
use Rattle.batch_meaning.specs.declared.exit.Exit.TheVariants as exit
use Rattle.batch_meaning.specs.declared.form.ReadText.TheVariants as text
use Rattle.batch_meaning.specs.Progress.{SessionProgress, batch_limit, end_size, first_progress, size_of}
use Rattle.batch_meaning.specs.Doing.{◌then◌, Held, over}
use Rattle.batch_meaning.specs.Calls.{Call}
use Rattle.batch_meaning.specs.Meaning.{each_of, ended_by, runs_body}
use Rattle.batch_meaning.specs.Asking.{assigns_all}
use Rattle.batch_meaning.specs.Rpc.{ends_exec, ends_rpc, fails_call, gives_call_back, leaves_body, plain_errand, rpc, rpc_arguments, rpc_text, rpc_vars, runs_exec, runs_rpc}

-- ---- a statement with a parameter, as [MS-TDS] 2.2.6.6 sends it

abbrev input : List ℕ → Value → RpcParameter
input name value = record { name = name; output = false; missing = false; kind = Int; value = value }

abbrev output : List ℕ → Value → RpcParameter
output name value = record { name = name; output = true; missing = false; kind = Int; value = value }

abbrev sql : List ℕ → RpcParameter
sql units = record { name = []; output = false; missing = false; kind = NText 20; value = Text units }

-- sp_executesql N'SELECT @a', N'@a INT', @a = 5
abbrev selects : RpcCall
selects = record { target = ExecuteSql; parameters = sql (codes "SELECT @a") ∷ sql (codes "@a INT") ∷ input (codes "@a") (Whole (pos 5)) ∷ [] }

selects_text : rpc_text selects ≡ Some (codes "CREATE PROCEDURE [sp_executesql] @a INT AS SELECT @a")
selects_text = refl

-- the third variable is its argument
selects_arguments : rpc_arguments (plain_errand selects) ≡ record { name = Some (codes "@a"); value = argument.Variable (2 ∷ []); output = false } ∷ []
selects_arguments = refl

selects_vars : rpc_vars (plain_errand selects) ≡
    record { name = 0 ∷ []; kind = NText 20; value = Text (codes "SELECT @a") }
    ∷ record { name = 1 ∷ []; kind = NText 20; value = Text (codes "@a INT") }
    ∷ record { name = 2 ∷ []; kind = Int; value = Whole (pos 5) }
    ∷ []
selects_vars = refl

-- its name means the same
selects_by_name : plain_errand (record selects { target = Named (codes "sp_executesql") }) ≡ plain_errand selects
selects_by_name = refl

-- ---- a procedure

-- add_item 3, 5, @n = NULL OUTPUT
abbrev adds : RpcCall
adds = record { target = Named (codes "add_item"); parameters = input [] (Whole (pos 3)) ∷ input [] (Whole (pos 5)) ∷ output (codes "@n") Null ∷ [] }

adds_text : rpc_text adds ≡ Some (codes "CREATE PROCEDURE add_item\nAS")
adds_text = refl

adds_arguments : rpc_arguments (plain_errand adds) ≡
    record { name = None; value = argument.Variable (0 ∷ []); output = false }
    ∷ record { name = None; value = argument.Variable (1 ∷ []); output = false }
    ∷ record { name = Some (codes "@n"); value = argument.Variable (2 ∷ []); output = true }
    ∷ []
adds_arguments = refl

-- CREATE PROCEDURE add_item @o INT, @q INT, @n INT OUTPUT, whatever its body is
abbrev add_item : ProcedureTree
add_item = record {
  name = codes "add_item";
  parameters =
      record { name = codes "@o"; kind = Int; output = false }
      ∷ record { name = codes "@q"; kind = Int; output = false }
      ∷ record { name = codes "@n"; kind = Int; output = true }
      ∷ [];
  body = [];
}

abbrev added : Call
added = record { procedure = add_item; values = Whole (pos 3) ∷ Whole (pos 5) ∷ Null ∷ [] }

abbrev var : List ℕ → Value → Variable
var name value = record { name = name; kind = Int; value = value }

-- the session in it, whose variables are those of the caller
abbrev calling : SessionProgress
calling = record first_progress { bytes_left = batch_limit - end_size; vars = rpc_vars (plain_errand adds) }

abbrev told : List Token
told = ReturnStatus (pos 7) ∷ ReturnValue 2 (codes "@n") Int (Whole (pos 1)) ∷ []

-- it returns 7, and leaves 1 in @n
adds_returned : Held (leaves_body (plain_errand adds) added 0 (var (codes "@o") (Whole (pos 3)) ∷ var (codes "@q") (Whole (pos 5)) ∷ var (codes "@n") (Whole (pos 1)) ∷ []) (exit.Return (pos 7))) calling [] exit.On
    (record calling { tokens = told; bytes_left = batch_limit - end_size - size_of told; vars = var (0 ∷ []) (Whole (pos 3)) ∷ var (1 ∷ []) (Whole (pos 5)) ∷ var (2 ∷ []) (Whole (pos 1)) ∷ [] })
unfolding Held ◌then◌ gives_call_back ends_exec assigns_all tokens_bytes
adds_returned = (true, (refl, refl, refl))

-- ---- calls that end before they begin

abbrev behind : Errand → List Token → SessionProgress
behind call tokens = record first_progress { tokens = tokens; bytes_left = batch_limit - end_size - size_of tokens; statements_left = 999999; vars = rpc_vars call }

-- sp_executesql without a statement
abbrev empty : RpcCall
empty = record { target = ExecuteSql; parameters = [] }

abbrev unmatched : List Token
unmatched =
    Error (record { number = pos 49012; state = 1; class = 16; text = codes "Arguments do not match the procedure."; procedure = []; line = pos 1 })
    ∷ Finished Proc 2 0 0
    ∷ []

empty_held : Held (rpc (plain_errand empty) (text.Statements [])) first_progress [] tt (record (behind (plain_errand empty) unmatched) { error = pos 49012 })
unfolding Held ◌then◌ rpc runs_rpc fails_call ended_by ends_rpc tokens_bytes table.row_of table.error_lines
empty_held = (refl, refl, refl)

-- a statement that does not read: its error alone, with the line at which it stands behind CREATE PROCEDURE
abbrev refused : List Token
refused =
    Error (record { number = pos 102; state = 1; class = 15; text = codes "Incorrect syntax near 'FROM'."; procedure = []; line = pos 1 })
    ∷ Finished Proc 2 0 0
    ∷ []

refused_held : Held (rpc (plain_errand selects) (text.Refused (pos 1) 102 (codes "FROM"))) first_progress [] tt (behind (plain_errand selects) refused)
unfolding Held ◌then◌ rpc runs_rpc ends_rpc tokens_bytes table.row_of table.error_lines
refused_held = (refl, refl, refl)

-- a name that is no object's
abbrev unknown : List Token
unknown =
    Error (record { number = pos 2812; state = 1; class = 16; text = codes "Could not find stored procedure 'add_item'."; procedure = []; line = pos 1 })
    ∷ Finished Proc 2 0 0
    ∷ []

unknown_held : Held (rpc (plain_errand adds) (text.Refused (pos 1) 102 [])) first_progress [] tt (record (behind (plain_errand adds) unknown) { error = pos 2812 })
unfolding Held ◌then◌ rpc runs_rpc fails_call ended_by ends_rpc tokens_bytes table.row_of table.error_lines
unknown_held = (true, (refl, refl, refl))

-- ---- a statement of nothing, with an OUTPUT parameter

-- sp_executesql N'', N'@a INT OUTPUT', 5 OUTPUT, from where it is bound
abbrev nothing : RpcCall
nothing = record { target = ExecuteSql; parameters = sql [] ∷ sql (codes "@a INT OUTPUT") ∷ output [] (Whole (pos 5)) ∷ [] }

abbrev nothing_read : ProcedureTree
nothing_read = record { name = codes "sp_executesql"; parameters = record { name = codes "@a"; kind = Int; output = true } ∷ []; body = [] }

abbrev nothing_told : List Token
nothing_told = ReturnStatus (pos 0) ∷ ReturnValue 2 [] Int (Whole (pos 5)) ∷ Finished Proc 0 0 0 ∷ []

-- its procedure, which is bound, and the session that calls it
abbrev nothing_called : Call
nothing_called = record { procedure = nothing_read; values = Whole (pos 5) ∷ [] }

abbrev nothing_begun : SessionProgress
nothing_begun = record first_progress { bytes_left = batch_limit - end_size; statements_left = 999999; vars = rpc_vars (plain_errand nothing) }

nothing_held : Held (runs_exec (λ inner at. over exit.On) (plain_errand nothing) nothing_called then ends_rpc) nothing_begun [] tt (behind (plain_errand nothing) nothing_told)
unfolding Held ◌then◌ runs_exec runs_body each_of gives_call_back ends_exec ends_rpc assigns_all tokens_bytes
nothing_held = (true, (refl, refl, refl))

-- ---- errands that run no procedure

-- with a handle that is told, as sp_prepare and sp_prepexec have it
abbrev told_handle : RpcParameter
told_handle = output [] (Whole (pos 3))

abbrev handle_told : List Token
handle_told = ReturnStatus (pos 0) ∷ ReturnValue 0 [] Int (Whole (pos 3)) ∷ Finished Proc 0 0 0 ∷ []

-- the text reads, and that is told
abbrev prepares : Errand
prepares = record { way = way.Tells; parameters = told_handle ∷ sql [] ∷ sql (codes "SELECT 1") ∷ []; text = None }

prepares_held : Held (rpc prepares (text.Statements [])) first_progress [] tt (behind prepares handle_told)
unfolding Held ◌then◌ rpc runs_rpc ends_rpc tokens_bytes
prepares_held = (refl, refl, refl)

-- or it doesn't
prepares_refused : Held (rpc prepares (text.Refused (pos 1) 102 (codes "FROM"))) first_progress [] tt (behind prepares refused)
unfolding Held ◌then◌ rpc runs_rpc ends_rpc tokens_bytes table.row_of table.error_lines
prepares_refused = (refl, refl, refl)

-- a batch of nothing is run
abbrev runs_none : Errand
runs_none = record prepares { way = way.RunsBatch }

runs_none_held : Held (rpc runs_none (text.Statements [])) first_progress [] tt (behind runs_none handle_told)
unfolding Held ◌then◌ rpc runs_rpc ends_rpc each_of tokens_bytes
runs_none_held = (refl, refl, refl)

-- arguments that are none of the procedure's
abbrev unmatches : Errand
unmatches = record prepares { way = way.Unmatched }

unmatches_held : Held (rpc unmatches (text.Statements [])) first_progress [] tt (record (behind unmatches unmatched) { error = pos 49012 })
unfolding Held ◌then◌ rpc runs_rpc fails_call ended_by ends_rpc tokens_bytes table.row_of table.error_lines
unmatches_held = (refl, refl, refl)

-- a handle under which nothing is kept
abbrev unkept : Errand
unkept = record { way = way.Unknown (codes "7"); parameters = input [] (Whole (pos 7)) ∷ []; text = None }

abbrev not_kept : List Token
not_kept =
    Error (record { number = pos 8179; state = 1; class = 16; text = codes "Could not find prepared statement with handle 7."; procedure = []; line = pos 1 })
    ∷ Finished Proc 2 0 0
    ∷ []

unkept_held : Held (rpc unkept (text.Statements [])) first_progress [] tt (record (behind unkept not_kept) { error = pos 8179 })
unfolding Held ◌then◌ rpc runs_rpc fails_call ended_by ends_rpc tokens_bytes table.row_of table.error_lines
unkept_held = (true, (refl, refl, refl))
