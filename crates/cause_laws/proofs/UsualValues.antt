-- What statements make of the values of their expressions, and what they are bound to and answered, fails by usual numbers alone; and the numbers of what PRINT,
-- RAISERROR and THROW compose are usual.
use Rattle.std.proofs.Common.{◌≡◌, ◌⊎◌, inl, inr, refl, sym, subst, ℕ, ℤ, pos, List, [], ◌∷◌, ◌++◌, get_or, Option, Some, None, Bool, true, false, Result, Ok, Err, if◌then◌else◌, ◌==◌}
use Rattle.std.specs.Prelude.{codes, int_le, length, negsuc, ◌&&◌, nat_le, slice_get}
use Rattle.std.specs.Fmt.{signed_decimal}
use Rattle.std.specs.Ordering.{int_eq}
use Rattle.value_types.specs.declared.sql_type.SqlType.{SqlType}
use Rattle.value_types.specs.declared.sql_type.SqlType.TheVariants.{TinyInt, SmallInt, Int, BigInt, Bit as BitType, NText}
use Rattle.value_types.specs.declared.value.Value.{Value}
use Rattle.value_types.specs.declared.value.Value.TheVariants.{Null, Whole, Bit, Text}
use Rattle.value_types.specs.Types.{is_in_range, type_of}
use Rattle.convert_rules.specs.declared.fault.ConvertFault.{ConvertFault}
use Rattle.convert_rules.specs.declared.fault.ConvertFault.TheVariants as conversion
use Rattle.convert_rules.specs.Conversion.{bit_number, cast_of, from_whole, read_bit, read_whole, says, text_cut, whole_in}
use Rattle.convert_rules.specs.Reading as digits
use Rattle.session_vars.specs.declared.Variable.{Variable}
use Rattle.session_vars.specs.Variables.{place_of}
use Rattle.tsql_tree.specs.declared.definition.Definition.{Definition}
use Rattle.tsql_tree.specs.declared.definition.Definition.TheVariants.{Table, Procedure, Trigger}
use Rattle.tsql_tree.specs.declared.definition.Parameter.{Parameter}
use Rattle.tsql_tree.specs.declared.definition.ProcedureTree.{ProcedureTree}
use Rattle.tsql_tree.specs.declared.definition.TableTree.{TableTree}
use Rattle.tsql_tree.specs.declared.option.IsolationLevel.TheVariants as isolation
use Rattle.tsql_tree.specs.declared.option.SessionOption.{SessionOption}
use Rattle.tsql_tree.specs.declared.option.SessionOption.TheVariants as options
use Rattle.tsql_tree.specs.declared.statement.Argument.{Argument}
use Rattle.tsql_tree.specs.declared.statement.Batch.{Batch}
use Rattle.tsql_tree.specs.declared.statement.Batch.TheVariants.{Body, Definition as Whole}
use Rattle.tsql_tree.specs.declared.statement.Form.{Form-F}
use Rattle.tsql_tree.specs.declared.statement.Statement.{Statement}
use Rattle.bound_tree.specs.declared.expr.BoundTest.{BoundTest}
use Rattle.bound_tree.specs.declared.query.BoundQuery.{BoundQuery}
use Rattle.bound_tree.specs.declared.write.BoundWrite.{BoundWrite}
use Rattle.bound_tree.specs.Outcomes as value
use Rattle.typed_nodes.specs.Refusals as refused
use Rattle.binder.specs.Names.{Layer}
use Rattle.binder.specs.Statements.{bind, bind_checks}
use Rattle.scalar_eval.specs.declared.fault.EvalFault.TheVariants.{Number, Named, Memory}
use Rattle.query_eval.specs.Ans.{Ans}
use Rattle.step_model.specs.declared.change.Planned.{Planned}
use Rattle.step_model.specs.declared.manner.Patience.TheVariants.{Forever, Refuse}
use Rattle.step_model.specs.Ranges.{Rows}
use Rattle.table_rows.specs.Rows.{shape_of}
use Rattle.dml_exec.specs.Planning.{Chg, Plan, table_written}
use Rattle.txn_rules.specs.declared.state.BackKind.{BackKind}
use Rattle.txn_rules.specs.declared.state.BackKind.TheVariants as back
use Rattle.txn_rules.specs.declared.state.TxnState.{TxnState}
use Rattle.txn_rules.specs.Savepoints.{mark_of}
use Rattle.txn_rules.specs.State.{back_to, commit_answer, is_called, is_closed, rollback_answer, save_refusal}
use Rattle.call_rules.specs.Arguments.{argument_values, matched, taken_by, taken_where, value_of, values_taken}
use Rattle.tsql_grammar.specs.declared.noted.TextFault.{TextFault}
use Rattle.tsql_grammar.specs.declared.noted.TextFault.TheVariants.{TooDeep, NotDeclared, DeclaredTwice}
use Rattle.tsql_grammar.specs.declared.rule.Rule.TheVariants as r
use Rattle.tsql_grammar.specs.declared.fault.ParseFault.{ParseFault}
use Rattle.tsql_grammar.specs.declared.fault.ParseFault.TheVariants as faults
use Rattle.tsql_grammar.specs.Parsed.{BatchOf, IsUnread, IsWrong, number_of}
use Rattle.batch_meaning.specs.declared.failure.Failure.{Failure}
use Rattle.batch_meaning.specs.declared.form.ReadText.{ReadText}
use Rattle.batch_meaning.specs.declared.form.ReadText.TheVariants as text
use Rattle.batch_meaning.specs.declared.raised.Raised.{Raised}
use Rattle.batch_meaning.specs.declared.settings.Settings.{Settings}
use Rattle.batch_meaning.specs.Calls.{are_standing, call_of, call_over, call_with, depth_limit, too_deep}
use Rattle.batch_meaning.specs.Changing.{dropped, dropped_as, planned_as, planned_in, planned_over, planned_with, unless_referred, is_referred, is_parent, whole}
use Rattle.batch_meaning.specs.Failures.{naming, plain}
use Rattle.batch_meaning.specs.Progress.{SessionProgress, system_in, values_of}
use Rattle.batch_meaning.specs.Raised.{Around}
use Rattle.batch_meaning.specs.Settings.{all_rows, first_of_week, if_known, is_priority, is_setting, not_known, outside_profile, priority_of, set_option, with_manner}
use Rattle.batch_meaning.specs.Statements.{IsRead, ReadsAs, text_of}
use Rattle.batch_meaning.specs.Selecting.{answer_as, answer_in, bound_as, bound_over, raised_by}
use Rattle.batch_meaning.specs.Values.{Assigned, any_text, assigned_at, assigned_next, assigned_onto, assigned_to, cast_as, cast_to, first_of, greatest_class, greatest_number, greatest_state, kind_or, least_number, number_between, number_in, outside_limits, places_onto, rows_assigned, standing, status_of, text_in, whole_of, ◌>>=◌}
use Rattle.cause_laws.proofs.Usual.{IsUsual, Usual, UsualIf, usual_after, usual_answer, usual_by, usual_conversion, usual_error}
use Rattle.cause_laws.proofs.UsualBinding.{Bounds}
use Rattle.cause_laws.proofs.UsualBound.{bounds_checks, bounds_statement}
use Rattle.cause_laws.proofs.UsualChanges.{UsualPlan, usual_plan}

-- ---- results

-- something of which this holds, or a usual number
abbrev pub UsualOr : {A : Type 0} → (A → Type 0) → Result A Failure → Type 0
UsualOr P (Ok a) = P a
UsualOr P (Err failure) = IsUsual failure.number

-- nothing is said of it
abbrev pub Anything : {A : Type 0} → A → Type 0
Anything a = Unit {0}

results_then : {A B : Type 0} (P : A → Type 0) (Q : B → Type 0) (came : Result A Failure) (next : A → Result B Failure) → UsualOr P came → ((a : A) → P a → UsualOr Q (next a)) → UsualOr Q (came >>= next)
results_then P Q (Ok a) next usual more = more a usual
results_then P Q (Err failure) next usual more = usual

-- ---- conversions and assignments

-- a conversion gives a value, or a fault other than want of memory
abbrev NeverWants : Result Value ConvertFault → Type 0
NeverWants (Ok made) = Unit {0}
NeverWants (Err conversion.Memory) = ⊥
NeverWants (Err fault) = Unit {0}

wants_if : (test : Bool) (first other : Result Value ConvertFault) → NeverWants first → NeverWants other → NeverWants (if test then first else other)
wants_if true first other one two = one
wants_if false first other one two = two

whole_wants : (kind : SqlType) (number : ℤ) → NeverWants (whole_in kind number)
whole_wants kind number = wants_if (is_in_range kind number) (Ok (Whole number)) (Err conversion.Overflow) tt tt

number_wants : (to : SqlType) (number : ℤ) → NeverWants (from_whole to number)
number_wants BitType number = tt
number_wants (NText size) number = wants_if (nat_le (length (signed_decimal number)) size) (Ok (Text (signed_decimal number))) (Err conversion.Overflow) tt tt
number_wants TinyInt number = whole_wants TinyInt number
number_wants SmallInt number = whole_wants SmallInt number
number_wants Int number = whole_wants Int number
number_wants BigInt number = whole_wants BigInt number

read_wants : (kind : SqlType) (number : Option ℤ) → NeverWants (read_whole kind number)
read_wants kind None = tt
read_wants kind (Some number) = whole_wants kind number

bit_wants : (number : Option ℤ) → NeverWants (read_bit number)
bit_wants None = tt
bit_wants (Some number) = tt

text_wants : (to : SqlType) (units : List ℕ) → NeverWants (text_cut to units)
text_wants BitType units = wants_if (says (codes "true") units) (Ok (Bit true)) (if says (codes "false") units then Ok (Bit false) else read_bit (digits.number_in units)) tt (wants_if (says (codes "false") units) (Ok (Bit false)) (read_bit (digits.number_in units)) tt (bit_wants (digits.number_in units)))
text_wants (NText size) units = tt
text_wants TinyInt units = read_wants TinyInt (digits.number_in units)
text_wants SmallInt units = read_wants SmallInt (digits.number_in units)
text_wants Int units = read_wants Int (digits.number_in units)
text_wants BigInt units = read_wants BigInt (digits.number_in units)

cast_wants : (of : Value) (to : SqlType) → NeverWants (cast_of of to)
cast_wants Null to = tt
cast_wants (Whole number) to = number_wants to number
cast_wants (Bit bit) to = number_wants to (bit_number bit)
cast_wants (Text units) to = text_wants to units

cast_usual : (to : SqlType) (of : Value) → UsualOr Anything (cast_to to of)
cast_usual to of = by_cast (cast_of of to) (cast_wants of to)
  where
    by_cast : (came : Result Value ConvertFault) → NeverWants came → UsualOr {A = Value} Anything (cast_as of to came)
    by_cast (Ok made) fine = tt
    by_cast (Err conversion.Overflow) fine = usual_error conversion.Overflow (type_of of) to
    by_cast (Err conversion.NotANumber) fine = usual_error conversion.NotANumber (type_of of) to
    by_cast (Err conversion.TooLong) fine = usual_error conversion.TooLong (type_of of) to
    by_cast (Err conversion.Memory) fine = absurd fine

module _ (vars : List Variable) where
  onto_usual : (so_far : List Assigned) (places : List ℕ) (values : List Value) → UsualOr Anything (assigned_onto vars so_far places values)
  onto_usual so_far [] values = tt
  onto_usual so_far (place ∷ places) [] = tt
  onto_usual so_far (place ∷ places) (of ∷ values) = results_then Anything Anything (assigned_at vars place of) (λ one. assigned_onto vars (so_far ++ one ∷ []) places values)
      (results_then Anything Anything (cast_to (kind_or (slice_get vars place)) of) (λ cast. Ok (place, cast)) (cast_usual (kind_or (slice_get vars place)) of) (λ cast any. tt))
      (λ one any. onto_usual (so_far ++ one ∷ []) places values)

  -- why a row could not be assigned, if one could not
  abbrev pub UsualRest : List Assigned × Option Failure → Type 0
  UsualRest (sets, None) = Unit {0}
  UsualRest (sets, Some failure) = IsUsual failure.number

  pub rows_usual : (places : List ℕ) (so_far : List Assigned) (rows : Rows) → UsualRest (rows_assigned vars places so_far rows)
  rows_usual places so_far [] = tt
  rows_usual places so_far (row ∷ rest) = by_row (λ last. rows_usual places last rest) (assigned_onto vars [] places row) (onto_usual [] places row)
    where
      by_row : ((last : List Assigned) → UsualRest (rows_assigned vars places last rest)) → (came : Result (List Assigned) Failure) → UsualOr Anything came → UsualRest (assigned_next (λ last. rows_assigned vars places last rest) so_far came)
      by_row more (Ok last) usual = more last
      by_row more (Err failure) usual = usual

  places_usual : (so_far : List ℕ) (names : List (List ℕ)) → UsualOr Anything (places_onto vars so_far names)
  places_usual so_far [] = tt
  places_usual so_far (name ∷ names) = results_then Anything Anything (standing (place_of name vars)) (λ place. places_onto vars (so_far ++ place ∷ []) names) (by_place (place_of name vars)) (λ place any. places_usual (so_far ++ place ∷ []) names)
    where
      by_place : (place : Option ℕ) → UsualOr Anything (standing place)
      by_place None = refl
      by_place (Some place) = tt

  pub assigned_usual : (names : List (List ℕ)) (values : List Value) → UsualOr Anything (assigned_to vars names values)
  assigned_usual names values = results_then Anything Anything (places_onto vars [] names) (λ places. assigned_onto vars [] places values) (places_usual [] names) (λ places any. onto_usual [] places values)

pub status_usual : (values : List Value) → UsualOr Anything (status_of values)
status_usual values = results_then Anything Anything (cast_to Int (first_of values)) _ (cast_usual Int (first_of values)) (λ of any. tt)

-- ---- messages

text_usual : (of : Value) → UsualOr Anything (text_in of)
text_usual of = results_then Anything Anything (cast_to any_text of) _ (cast_usual any_text of) (λ text any. tt)

both_first : (a b : Bool) → (a && b) ≡ true → a ≡ true
both_first true b is = refl
both_first false b is = is

between_usual : (least most : ℤ) (of : Value) → UsualOr (λ number. int_le least number ≡ true) (number_between least most of)
between_usual least most of = results_then Anything (λ number. int_le least number ≡ true) (whole_of of) (number_in least most) (by_value of) (λ made any. by_made made)
  where
    by_value : (of : Value) → UsualOr Anything (whole_of of)
    by_value (Whole number) = tt
    by_value Null = cast_usual Int Null
    by_value (Bit bit) = cast_usual Int (Bit bit)
    by_value (Text units) = cast_usual Int (Text units)

    by_test : (number : ℤ) (b : Bool) → (int_le least number && int_le number most) ≡ b → UsualOr (λ n. int_le least n ≡ true) (if b then Ok number else Err (plain outside_profile))
    by_test number true is = both_first (int_le least number) (int_le number most) is
    by_test number false is = refl

    by_made : (made : Value) → UsualOr (λ number. int_le least number ≡ true) (number_in least most made)
    by_made (Whole number) = by_test number (int_le least number && int_le number most) refl
    by_made Null = refl
    by_made (Bit bit) = refl
    by_made (Text units) = refl

abbrev pub RaisesUsual : Raised → Type 0
RaisesUsual raised = IsUsual raised.number

module _ (procedure : List ℕ) (line : ℤ) where
  pub raised_usual : (form : Layer) (values : List Value) → UsualOr RaisesUsual (raised_by form procedure line values)
  raised_usual (Form-F.Print of) values = results_then Anything RaisesUsual (text_in (first_of values)) _ (text_usual (first_of values)) (λ text any. refl)
  raised_usual (Form-F.RaiseError text class state) values =
      results_then Anything RaisesUsual (text_in (get_or values 0 Null)) _ (text_usual (get_or values 0 Null)) (λ units any.
      results_then (λ number. int_le (pos 0) number ≡ true) RaisesUsual (number_between (pos 0) greatest_class (get_or values 1 Null)) _ (between_usual (pos 0) greatest_class (get_or values 1 Null)) (λ one is.
      results_then (λ number. int_le (pos 0) number ≡ true) RaisesUsual (number_between (pos 0) greatest_state (get_or values 2 Null)) _ (between_usual (pos 0) greatest_state (get_or values 2 Null)) (λ two is. refl)))
  raised_usual (Form-F.Throw number text state) values =
      results_then (λ n. int_le least_number n ≡ true) RaisesUsual (number_between least_number greatest_number (get_or values 0 Null)) _ (between_usual least_number greatest_number (get_or values 0 Null)) (λ n is.
      results_then Anything RaisesUsual (text_in (get_or values 1 Null)) _ (text_usual (get_or values 1 Null)) (λ units any.
      results_then (λ m. int_le (pos 0) m ≡ true) RaisesUsual (number_between (pos 0) greatest_state (get_or values 2 Null)) _ (between_usual (pos 0) greatest_state (get_or values 2 Null)) (λ two so. usual_by (int_le least_number) n refl refl refl refl refl is)))
  raised_usual form values = refl

-- ---- what is bound, answered and planned

fine_bound : {A : Type 0} (outcome : refused.Outcome A) → Bounds outcome → UsualOr Anything (bound_as outcome)
fine_bound (Ok of) bounds = tt
fine_bound (Err refusal) bounds = bounds

pub bound_usual : (definitions : List Definition) (vars : List Variable) (statement : Statement) → UsualOr Anything (bound_over definitions vars statement)
bound_usual definitions vars statement = fine_bound (bind definitions vars statement) (bounds_statement definitions vars statement)

pub answer_usual : (around : Around) (p : SessionProgress) (query : BoundQuery) (images : List Rows) → UsualOr Anything (answer_in around p query images)
answer_usual around p query images = by_answer (Ans (values_of p.vars) (system_in around p) query images) (usual_answer (values_of p.vars) (system_in around p) query images)
  where
    by_answer : (came : value.Outcome Rows) → Usual came → UsualOr Anything (answer_as came)
    by_answer (Ok rows) usual = tt
    by_answer (Err number) usual = usual

fine_plan : (plan : Plan) → UsualPlan plan → UsualOr Anything (planned_as plan)
fine_plan (Ok changes) usual = tt
fine_plan (Err (Number number)) usual = usual
fine_plan (Err (Named number name)) usual = usual
fine_plan (Err Memory) usual = absurd usual

pub planned_usual : (around : Around) (p : SessionProgress) (shapes : List TableTree) (of : BoundWrite) (images : List Rows) → UsualOr Anything (planned_over around p shapes of images)
planned_usual around p shapes of images = by_shape (shape_of (table_written of) shapes)
  where
    by_checks : (shape : TableTree) (checks : Result (List BoundTest) Failure) → UsualOr Anything checks → UsualOr Anything (planned_with around p shape of images checks)
    by_checks shape (Ok checks) usual = fine_plan (Chg (values_of p.vars) (system_in around p) shape checks of images) (usual_plan (values_of p.vars) (system_in around p) shape checks of images)
    by_checks shape (Err failure) usual = usual

    by_shape : (shape : Option TableTree) → UsualOr Anything (planned_in around p shape of images)
    by_shape None = refl
    by_shape (Some shape) = by_checks shape (bound_as (bind_checks shape)) (fine_bound (bind_checks shape) (bounds_checks shape))

pub dropped_usual : (around : Around) (p : SessionProgress) (definitions : List Definition) (shape : TableTree) (name : List ℕ) (images : List Rows) → UsualOr Anything (dropped around p definitions shape name images)
dropped_usual around p definitions shape name images = by_plan (planned_as (Chg (values_of p.vars) (system_in around p) shape [] (whole name) images))
    (fine_plan (Chg (values_of p.vars) (system_in around p) shape [] (whole name) images) (usual_plan (values_of p.vars) (system_in around p) shape [] (whole name) images))
  where
    by_plan : (came : Result (List Planned) Failure) → UsualOr Anything came → UsualOr Anything (dropped_as definitions name came)
    by_plan (Ok changes) usual = tt
    by_plan (Err failure) usual = usual

pub referred_usual : (name : List ℕ) (tables : List TableTree) → UsualOr Anything (unless_referred name tables)
referred_usual name tables = by_test (is_referred name tables)
  where
    by_test : (b : Bool) → UsualOr {A = Unit {0}} Anything (if b then Err (naming is_parent name) else Ok tt)
    by_test true = refl
    by_test false = tt

-- ---- calls

taken_usual : (vars : List Variable) (parameters : List Parameter) (arguments : List Argument) → Usual (values_taken vars parameters arguments)
taken_usual vars [] arguments = tt
taken_usual vars (parameter ∷ parameters) [] = tt
taken_usual vars (parameter ∷ parameters) (argument ∷ arguments) = usual_after (taken_by parameter.kind (value_of vars argument.value)) _ (usual_conversion (type_of (value_of vars argument.value)) parameter.kind (value_of vars argument.value))
    (λ first. usual_after (values_taken vars parameters arguments) (λ rest. Ok (first ∷ rest)) (taken_usual vars parameters arguments) (λ rest. tt))

arguments_usual : (vars : List Variable) (parameters : List Parameter) (arguments : List Argument) → Usual (argument_values vars parameters arguments)
arguments_usual vars parameters arguments = by_match (matched parameters arguments)
  where
    by_match : (found : Option (List Argument)) → Usual (taken_where vars parameters found)
    by_match None = refl
    by_match (Some found) = taken_usual vars parameters found

pub call_usual : (around : Around) (status : Option (List ℕ)) (name : List ℕ) (arguments : List Argument) (vars : List Variable) (found : Option Definition) → UsualOr Anything (call_over around status name arguments vars found)
call_usual around status name arguments vars found = by_standing (are_standing status arguments vars)
  where
    by_values : (procedure : ProcedureTree) (came : value.Outcome (List Value)) → Usual came → UsualOr Anything (call_with procedure came)
    by_values procedure (Ok values) usual = tt
    by_values procedure (Err number) usual = usual

    by_depth : (procedure : ProcedureTree) (b : Bool) → UsualOr Anything (if b then Err (plain too_deep) else call_with procedure (argument_values vars procedure.parameters arguments))
    by_depth procedure true = refl
    by_depth procedure false = by_values procedure (argument_values vars procedure.parameters arguments) (arguments_usual vars procedure.parameters arguments)

    by_found : (found : Option Definition) → UsualOr Anything (call_of around name arguments vars found)
    by_found (Some (Procedure procedure)) = by_depth procedure (nat_le depth_limit around.depth)
    by_found (Some (Table table)) = refl
    by_found (Some (Trigger trigger)) = refl
    by_found None = refl

    by_standing : (b : Bool) → UsualOr Anything (if b then call_of around name arguments vars found else Err (plain outside_limits))
    by_standing true = by_found found
    by_standing false = refl

-- ---- transactions

-- an answer, or the usual number that refuses
abbrev pub AnswersUsual : {A : Type 0} → Result A ℤ → Type 0
AnswersUsual (Ok a) = Unit {0}
AnswersUsual (Err number) = IsUsual number

pub commit_usual : (txn : TxnState) → AnswersUsual (commit_answer txn)
commit_usual txn = by_tests (is_closed txn) txn.doomed
  where
    by_tests : (closed doomed : Bool) → AnswersUsual {A = Bool} (if closed then Err (pos 3902) else if doomed then Err (pos 3930) else Ok (txn.count == 1))
    by_tests true doomed = refl
    by_tests false true = refl
    by_tests false false = tt

pub rollback_usual : (name : List ℕ) (txn : TxnState) → AnswersUsual (rollback_answer name txn)
rollback_usual name txn = by_closed (is_closed txn)
  where
    by_name : (b : Bool) → AnswersUsual {A = BackKind} (if b then Ok back.Whole else Err (pos 6401))
    by_name true = tt
    by_name false = refl

    by_doom : (mark : ℕ) (b : Bool) → AnswersUsual {A = BackKind} (if b then Err (pos 3931) else Ok (back.Mark mark))
    by_doom mark true = refl
    by_doom mark false = tt

    by_mark : (mark : Option ℕ) → AnswersUsual (back_to name txn mark)
    by_mark None = by_name (is_called name txn.name)
    by_mark (Some mark) = by_doom mark txn.doomed

    by_closed : (b : Bool) → AnswersUsual (if b then Err (pos 3903) else back_to name txn (mark_of name txn.saves))
    by_closed true = refl
    by_closed false = by_mark (mark_of name txn.saves)

pub save_usual : (txn : TxnState) → UsualIf (save_refusal txn)
save_usual txn = by_tests (is_closed txn) txn.doomed
  where
    by_tests : (closed doomed : Bool) → UsualIf (if closed then Some (pos 49005) else if doomed then Some (pos 3930) else None)
    by_tests true doomed = refl
    by_tests false true = refl
    by_tests false false = tt

-- ---- options

known_usual : (known : Bool) (settings : Settings) → UsualOr Anything (if_known known settings)
known_usual true settings = tt
known_usual false settings = refl

pub option_usual : (option : SessionOption) (settings : Settings) → UsualOr Anything (set_option option settings)
option_usual (options.XactAbort is_on) settings = tt
option_usual (options.NoCount is_on) settings = tt
option_usual (options.ImplicitTransactions is_on) settings = tt
option_usual (options.Fixed which is_on) settings = known_usual (is_setting which is_on) settings
option_usual (options.Isolation isolation.ReadCommitted) settings = tt
option_usual (options.Isolation isolation.Serializable) settings = tt
option_usual (options.Isolation other) settings = refl
option_usual (options.LockTimeout number) settings = by_tests (int_eq number (pos 0)) (int_eq number (negsuc 0))
  where
    by_tests : (a b : Bool) → UsualOr Anything (if a then Ok (with_manner (record settings.manner { patience = Refuse }) settings) else if b then Ok (with_manner (record settings.manner { patience = Forever }) settings) else not_known)
    by_tests true b = tt
    by_tests false true = tt
    by_tests false false = refl
option_usual (options.TextSize number) settings = tt
option_usual (options.DateFirst number) settings = known_usual (int_eq number first_of_week) settings
option_usual (options.RowCount number) settings = known_usual (int_eq number all_rows) settings
option_usual (options.DateFormat known) settings = known_usual known settings
option_usual (options.Language known) settings = known_usual known settings
option_usual (options.DeadlockPriority word) settings = by_test (is_priority (priority_of word))
  where
    by_test : (b : Bool) → UsualOr Anything (if b then Ok (with_manner (record settings.manner { priority = priority_of word }) settings) else not_known)
    by_test true = tt
    by_test false = refl

-- ---- texts

-- a text that is refused is refused by a usual number
abbrev pub RefusedUsual : ReadText → Type 0
RefusedUsual (text.Statements statements) = Unit {0}
RefusedUsual (text.Defines line of units) = Unit {0}
RefusedUsual (text.Refused line code near) = IsUsual (pos code)

pub read_usual : (units : List ℕ) (read : ReadText) → ReadsAs units read → RefusedUsual read
read_usual units read (outcome, of, is) = by_outcome outcome of is
  where
    by_batch : (batch : Batch) → RefusedUsual (text_of batch)
    by_batch (Body statements) = tt
    by_batch (Whole line definition written) = tt

    by_fault : (fault : TextFault) → IsUsual (number_of fault)
    by_fault TooDeep = refl
    by_fault NotDeclared = refl
    by_fault DeclaredTwice = refl

    by_ways : (number : ℤ) (line : ℕ) (near : List ℕ) → IsUnread r.Batch units number line near ⊎ IsWrong r.Batch units number line near → IsUsual number
    by_ways number line near (inl unread) = subst IsUsual (sym unread.number_is) refl
    by_ways number line near (inr wrong) = subst IsUsual (sym wrong.number_is) (by_fault wrong.fault)

    by_outcome : (outcome : Result Batch ParseFault) → BatchOf units outcome → IsRead outcome read → RefusedUsual read
    by_outcome (Ok batch) of is = subst RefusedUsual (sym is) (by_batch batch)
    by_outcome (Err (faults.Refused number line near)) of is = subst RefusedUsual (sym is.2) (subst IsUsual is.1 (by_ways number line near of))
    by_outcome (Err faults.Memory) of is = absurd is
