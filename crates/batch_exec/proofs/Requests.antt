-- A call by RPC: how its text is taken, and how its procedure is left.
use Rattle.std.proofs.Common.{◌≡◌, ℕ, ℤ, pos, Bool, true, false, nat_lt, if◌then◌else◌, List, [], ◌∷◌, Option, None, Some, Result, Ok, Err, refl, sym, ap, ◌∙◌, subst}
use Rattle.std.specs.Prelude.{IfOk}
use Rattle.value_types.specs.declared.memory.Memory.{Memory}
use Rattle.tsql_tree.specs.declared.definition.Definition.{Definition}
use Rattle.tsql_tree.specs.declared.definition.Definition.TheVariants.{Table, Procedure, Trigger}
use Rattle.tsql_tree.specs.declared.definition.ProcedureTree.{ProcedureTree}
use Rattle.tsql_tree.specs.declared.statement.Argument.{Argument}
use Rattle.tsql_tree.specs.declared.statement.Form.{Form-F, out-Form, out-roll-Form, roll-Form}
use Rattle.tsql_tree.specs.declared.statement.Statement.{Statement, out-roll-Statement}
use Rattle.session_vars.specs.declared.Variable.{Variable}
use Rattle.tds_tokens.specs.declared.token.Token.{Token}
use Rattle.step_model.specs.Port.{PortPast}
use Rattle.batch_meaning.specs.declared.errand.Errand.{Errand}
use Rattle.batch_meaning.specs.declared.errand.Way.{Way}
use Rattle.batch_meaning.specs.declared.exit.Exit.{Exit}
use Rattle.batch_meaning.specs.declared.exit.Exit.TheVariants.{On, Leave, Again, Return, Raise, RaiseUp, End}
use Rattle.batch_meaning.specs.declared.form.ReadText.{ReadText}
use Rattle.batch_meaning.specs.declared.form.ReadText.TheVariants as text
use Rattle.batch_meaning.specs.declared.raised.Raised.{Raised}
use Rattle.batch_meaning.specs.Failures.{plain}
use Rattle.batch_meaning.specs.Raised.{error_token, raised_at}
use Rattle.batch_meaning.specs.Selecting.{result_full}
use Rattle.batch_meaning.specs.Progress.{SessionProgress, made, size_of, tells_rows}
use Rattle.batch_meaning.specs.Doing.{Did, makes, over, ◌then◌}
use Rattle.batch_meaning.specs.Calls.{Call}
use Rattle.batch_meaning.specs.Meaning.{Meaning}
use Rattle.batch_meaning.specs.Rpc.{behind_batch, binds_call, defined_in, error_or_full, execs, fails_call, finds_read, gives_call_back, leaves_body, rpc_arguments, rpc_statement, runs_sql, runs_way}
use Rattle.batch_meaning.specs.Values.{outside_limits}
use Rattle.batch_meaning.specs.Writes.{is_odd_procedure}
use Rattle.batch_meaning.proofs.Composed.{does_makes, does_over, does_then}
use Rattle.batch_exec.specs.Running.{arguments_in, arguments_of, procedure_in, status_of}

-- ---- how its body was left

module _ (call : Errand) (of : Call) (count : ℕ) (inner : List Variable) where
  pub leaves_returned : {before after : PortPast} (exit : Exit) (number : ℤ) {p new : SessionProgress} {result : Result Exit Memory} → Some number ≡ status_of exit
      → Did before after (gives_call_back call of count inner number) p result new → Did before after (leaves_body call of count inner exit) p result new
  leaves_returned {before = before} {after = after} exit number {p = p} {new = new} {result = result} is did = by_exit exit is
    where
      given : (other : ℤ) → number ≡ other → Did before after (gives_call_back call of count inner other) p result new
      given other same = subst (λ (n : ℤ). Did before after (gives_call_back call of count inner n) p result new) same did

      by_exit : (e : Exit) → Some number ≡ status_of e → Did before after (leaves_body call of count inner e) p result new
      by_exit On so = given (pos 0) (let same : number ≡ pos 0 = cc in same)
      by_exit Leave so = given (pos 0) (let same : number ≡ pos 0 = cc in same)
      by_exit Again so = given (pos 0) (let same : number ≡ pos 0 = cc in same)
      by_exit (Return other) so = given other (let same : number ≡ other = cc in same)
      by_exit (Raise raised) so = absurd cc
      by_exit (RaiseUp raised) so = absurd cc
      by_exit End so = absurd cc

  pub leaves_ended : {now : PortPast} (exit : Exit) {p q : SessionProgress} → None ≡ status_of exit → q ≡ made (tells_rows 0) p → Did now now (leaves_body call of count inner exit) p (Ok End) q
  leaves_ended {now = now} exit {p = p} {q = q} is same = by_exit exit is
    where
      left : Did now now (makes (tells_rows 0) (over End)) p (Ok End) q
      left = does_makes same (does_over refl)

      by_exit : (e : Exit) → None ≡ status_of e → Did now now (leaves_body call of count inner e) p (Ok End) q
      by_exit On so = absurd cc
      by_exit Leave so = absurd cc
      by_exit Again so = absurd cc
      by_exit (Return other) so = absurd cc
      by_exit (Raise raised) so = left
      by_exit (RaiseUp raised) so = left
      by_exit End so = left

-- ---- how a batch was left

-- one that has not come to its end
pub batch_left : {now : PortPast} (call : Errand) (exit : Exit) {p : SessionProgress} → (exit ≡ On → ⊥) → Did now now (behind_batch call exit) p (Ok exit) p
batch_left call On not = absurd (not refl)
batch_left call Leave not = does_over refl
batch_left call Again not = does_over refl
batch_left call (Return status) not = does_over refl
batch_left call (Raise raised) not = does_over refl
batch_left call (RaiseUp raised) not = does_over refl
batch_left call End not = does_over refl

-- ---- its errors

-- one that fits is told, and of one that doesn't fit that it doesn't
module _ (p : SessionProgress) (raised : Raised) (tokens : List Token) (are : tokens ≡ error_token raised ∷ []) where
  by_room : (full : Bool) → full ≡ nat_lt p.bytes_left (size_of tokens) → (if full then raised_at (pos 1) (plain result_full) else raised) ≡ error_or_full p raised
  by_room full is = ap (λ (b : Bool). if b then raised_at (pos 1) (plain result_full) else raised) (is ∙ ap (λ (ts : List Token). nat_lt p.bytes_left (size_of ts)) are)

  pub is_full : (told : Result Raised Memory) → true ≡ nat_lt p.bytes_left (size_of tokens) → IfOk told (λ other. other ≡ raised_at (pos 1) (plain result_full)) → IfOk told (λ other. other ≡ error_or_full p raised)
  is_full told full is = subst (λ (r : Raised). IfOk told (λ other. other ≡ r)) (by_room true full) is

  pub has_room : false ≡ nat_lt p.bytes_left (size_of tokens) → raised ≡ error_or_full p raised
  has_room room = by_room false room

-- ---- its statement

-- its arguments are those that it was made with
pub called_with : (name : List ℕ) (arguments passed : List Argument) (statement : Statement) → passed ≡ arguments_in statement → statement ≡ rpc_statement name arguments → passed ≡ arguments
called_with name arguments passed statement are is =
    are ∙ ap arguments_in is ∙ ap (λ z. arguments_of (out-Form z.form)) (out-roll-Statement (record { line = 1; form = roll-Form (Form-F.Execute None name arguments) }))
    ∙ ap arguments_of (out-roll-Form (Form-F.Execute None name arguments))

-- ---- its text

-- what a text defines is a procedure, or nothing that can be called
pub defines_in : (line : ℤ) (of : Definition) (units : List ℕ) → defined_in (text.Defines line of units) ≡ procedure_in (Some of)
defines_in line (Table table) units = refl
defines_in line (Procedure procedure) units = refl
defines_in line (Trigger trigger) units = refl

module _ (one : Statement → Meaning) (call : Errand) {before after : PortPast} {p new : SessionProgress} {result : Result Exit Memory} where
  pub does_defined_sql : (line : ℤ) (of : Definition) (units : List ℕ) → Did before after (execs one call (finds_read call (procedure_in (Some of)))) p result new → Did before after (runs_sql one call (text.Defines line of units)) p result new
  does_defined_sql line of units did = subst (λ (found : Option ProcedureTree). Did before after (execs one call (finds_read call found)) p result new) (sym (defines_in line of units)) did

  -- by how its procedure is found
  pub does_way : (read : ReadText) (of : Way) → call.way ≡ of → Did before after (runs_way one call read of) p result new → Did before after (runs_way one call read call.way) p result new
  does_way read of is did = subst (λ (w : Way). Did before after (runs_way one call read w) p result new) (sym is) did

  -- there is none
  pub does_unmatched : Did before after (fails_call (plain 49012)) p result new → Did before after (execs one call (finds_read call None)) p result new
  does_unmatched did = does_then _ _ (does_over refl) did

  -- it is outside the limits of a procedure
  pub does_outside : (procedure : ProcedureTree) → is_odd_procedure procedure ≡ true → Did before after (fails_call (plain 49007)) p result new → Did before after (execs one call (finds_read call (Some procedure))) p result new
  does_outside procedure is did = subst (λ (odd : Bool). Did before after (execs one call (if odd then over (Err (plain outside_limits)) else binds_call (rpc_statement procedure.name (rpc_arguments call)) (rpc_arguments call) procedure)) p result new) (sym is)
      (does_then _ _ (does_over refl) did)

  -- it is within
  pub does_within : (procedure : ProcedureTree) → is_odd_procedure procedure ≡ false → Did before after (execs one call (binds_call (rpc_statement procedure.name (rpc_arguments call)) (rpc_arguments call) procedure)) p result new
      → Did before after (execs one call (finds_read call (Some procedure))) p result new
  does_within procedure is did = subst (λ (odd : Bool). Did before after (execs one call (if odd then over (Err (plain outside_limits)) else binds_call (rpc_statement procedure.name (rpc_arguments call)) (rpc_arguments call) procedure)) p result new) (sym is) did
