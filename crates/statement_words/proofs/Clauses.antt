-- What reading by descent is at each rule of parts that hold no expression.
use Rattle.std.specs.Prelude.{◌≡◌, ℕ, true, false, List, [], ◌∷◌, ◌++◌, Some, None, neg_ℤ, if◌then◌else◌, refl}
use Rattle.std.proofs.Common.{ap, ◌∙◌, append-nil, append_assoc}
use Rattle.tsql_lexer.specs.declared.lexeme.Sign.{Sign}
use Rattle.tsql_lexer.specs.declared.lexeme.Sign.TheVariants as s
use Rattle.value_types.specs.declared.value.Value.TheVariants as value
use Rattle.tsql_tree.specs.declared.definition.Event.{Event}
use Rattle.tsql_tree.specs.declared.definition.Event.TheVariants as event
use Rattle.tsql_tree.specs.declared.definition.Parameter.{Parameter}
use Rattle.tsql_tree.specs.declared.option.IsolationLevel.TheVariants as level
use Rattle.tsql_tree.specs.declared.option.PriorityWord.TheVariants as priority
use Rattle.tsql_tree.specs.declared.statement.Argument.{Argument}
use Rattle.tsql_tree.specs.declared.statement.ArgumentValue.TheVariants as argument
use Rattle.tsql_tree.specs.declared.statement.DropKind.TheVariants as drops
use Rattle.tsql_tree.specs.declared.statement.Form.TheVariants as form
use Rattle.tsql_grammar.specs.declared.kind.Kind.TheVariants as k
use Rattle.tsql_grammar.specs.declared.kind.Reserved.{Reserved}
use Rattle.tsql_grammar.specs.declared.kind.Reserved.TheVariants as word
use Rattle.tsql_grammar.specs.declared.kind.Word.{Word}
use Rattle.tsql_grammar.specs.declared.kind.Word.TheVariants as v
use Rattle.tsql_grammar.specs.declared.rule.Class.{Class}
use Rattle.tsql_grammar.specs.declared.rule.Class.TheVariants as c
use Rattle.tsql_grammar.specs.declared.rule.Rule.TheVariants as r
use Rattle.tsql_grammar.specs.Lookahead.{first_classes}
use Rattle.tsql_grammar.specs.Terminals.{Terminal, units, number}
use Rattle.lexeme_reader.proofs.Front.{front_bind, front_when, when_bind, bind_assoc}
use Rattle.lexeme_reader.specs.Reading.{read, expect, sees_any, ◌>>=◌, when, applied, front}
use Rattle.lexeme_reader.proofs.Ways.{by_order}

abbrev sign : Sign → Class
sign a = c.One (k.Sign a)

abbrev reserved : Reserved → Class
reserved a = c.One (k.Reserved a)

abbrev plain : Word → Class
plain a = c.One (k.Word a)

abbrev variable : Class
variable = c.One k.Variable

-- ---- names

pub names_is : (w : List Terminal) → read r.Names w ≡ (do x ← expect c.Name w; y ← read r.MoreNames x.1; Some (units x.0 ∷ y.0, y.1))
names_is w = by_order [] r.Names w refl

pub more_names_on : (done : List (List ℕ)) (w : List Terminal) → front done (read r.MoreNames w)
    ≡ when (expect (sign s.Comma) w) (λ x. do y ← expect c.Name x.1; front (done ++ units y.0 ∷ []) (read r.MoreNames y.1)) (Some (done, w))
more_names_on done w = ap (front done) (by_order [] r.MoreNames w refl) ∙ simp (front_when, front_bind, append_assoc, append-nil)

pub optional_name_is : (w : List Terminal) → read r.OptionalName w ≡ when (expect c.Name w) (λ x. Some (Some (units x.0), x.1)) (Some (None, w))
optional_name_is w = by_order [] r.OptionalName w refl

pub variables_is : (w : List Terminal) → read r.Variables w ≡ (do x ← expect variable w; y ← read r.MoreVariables x.1; Some (units x.0 ∷ y.0, y.1))
variables_is w = by_order [] r.Variables w refl

pub more_variables_on : (done : List (List ℕ)) (w : List Terminal) → front done (read r.MoreVariables w)
    ≡ when (expect (sign s.Comma) w) (λ x. do y ← expect variable x.1; front (done ++ units y.0 ∷ []) (read r.MoreVariables y.1)) (Some (done, w))
more_variables_on done w = ap (front done) (by_order [] r.MoreVariables w refl) ∙ simp (front_when, front_bind, append_assoc, append-nil)

-- ---- DROP

pub drop_kind_is : (w : List Terminal) → read r.DropKind w
    ≡ when (expect (reserved word.Table) w) (λ x. Some (drops.Table, x.1)) (when (expect (reserved word.Procedure) w) (λ x. Some (drops.Procedure, x.1))
    (do x ← expect (reserved word.Trigger) w; Some (drops.Trigger, x.1)))
drop_kind_is w = by_order [] r.DropKind w refl

-- ---- transactions and cursors

pub transaction_word_is : (w : List Terminal) → read r.TransactionWord w
    ≡ when (expect (reserved word.Tran) w) (λ x. Some (tt, x.1)) (do x ← expect (reserved word.Transaction) w; Some (tt, x.1))
transaction_word_is w = by_order [] r.TransactionWord w refl

pub transaction_end_is : (w : List Terminal) → read r.TransactionEnd w
    ≡ (if sees_any (reserved word.Tran ∷ reserved word.Transaction ∷ []) w then (do x ← read r.TransactionWord w; y ← read r.OptionalName x.1; Some (y.0, y.1)) else Some (None, w))
transaction_end_is w = by_order [] r.TransactionEnd w refl

pub next_is : (w : List Terminal) → read r.Next w ≡ when (expect (plain v.Next) w) (λ x. Some (tt, x.1)) (Some (tt, w))
next_is w = by_order [] r.Next w refl

-- ---- options

pub on_off_is : (w : List Terminal) → read r.OnOff w ≡ when (expect (reserved word.On) w) (λ x. Some (true, x.1)) (do x ← expect (plain v.Off) w; Some (false, x.1))
on_off_is w = by_order [] r.OnOff w refl

pub level_is : (w : List Terminal) → read r.Level w
    ≡ when (expect (plain v.Read) w) (λ x. do y ← read r.AfterRead x.1; Some (y.0, y.1))
    (when (expect (plain v.Repeatable) w) (λ x. do y ← expect (plain v.Read) x.1; Some (level.RepeatableRead, y.1))
    (when (expect (plain v.Snapshot) w) (λ x. Some (level.Snapshot, x.1)) (do x ← expect (plain v.Serializable) w; Some (level.Serializable, x.1))))
level_is w = by_order [] r.Level w refl

pub after_read_is : (w : List Terminal) → read r.AfterRead w
    ≡ when (expect (plain v.Committed) w) (λ x. Some (level.ReadCommitted, x.1)) (do x ← expect (plain v.Uncommitted) w; Some (level.ReadUncommitted, x.1))
after_read_is w = by_order [] r.AfterRead w refl

pub signed_number_is : (w : List Terminal) → read r.SignedNumber w
    ≡ when (expect (c.One k.Number) w) (λ x. Some (number x.0, x.1)) (do x ← expect (sign s.Minus) w; y ← expect (c.One k.Number) x.1; Some (neg_ℤ (number y.0), y.1))
signed_number_is w = by_order [] r.SignedNumber w refl

pub priority_is : (w : List Terminal) → read r.Priority w
    ≡ when (expect (plain v.Low) w) (λ x. Some (priority.Low, x.1)) (when (expect (plain v.Normal) w) (λ x. Some (priority.Normal, x.1))
    (when (expect (plain v.High) w) (λ x. Some (priority.High, x.1)) (do x ← read r.SignedNumber w; Some (priority.Number x.0, x.1))))
priority_is w = by_order [] r.Priority w refl

pub option_name_is : (w : List Terminal) → read r.OptionName w
    ≡ when (expect c.Name w) (λ x. Some (units x.0, x.1)) (do x ← expect (c.One k.Text) w; Some (units x.0, x.1))
option_name_is w = by_order [] r.OptionName w refl

-- ---- EXEC

pub after_execute_is : (w : List Terminal) → read r.AfterExecute w
    ≡ when (expect variable w) (λ x. do y ← expect (sign s.Equal) x.1; name ← read r.Object y.1; z ← read r.Arguments name.1; Some (form.Execute (Some (units x.0)) name.0 z.0, z.1))
    (do name ← read r.Object w; z ← read r.Arguments name.1; Some (form.Execute None name.0 z.0, z.1))
after_execute_is w = by_order [] r.AfterExecute w refl

pub arguments_is : (w : List Terminal) → read r.Arguments w
    ≡ (if sees_any (first_classes r.Arguments) w then (do x ← read r.Argument w; y ← read r.MoreArguments x.1; Some (x.0 ∷ y.0, y.1)) else Some ([], w))
arguments_is w = by_order [] r.Arguments w refl

pub more_arguments_on : (done : List Argument) (w : List Terminal) → front done (read r.MoreArguments w)
    ≡ when (expect (sign s.Comma) w) (λ x. do y ← read r.Argument x.1; front (done ++ y.0 ∷ []) (read r.MoreArguments y.1)) (Some (done, w))
more_arguments_on done w = ap (front done) (by_order [] r.MoreArguments w refl) ∙ simp (front_when, front_bind, append_assoc, append-nil)

pub argument_is : (w : List Terminal) → read r.Argument w
    ≡ when (expect variable w) (λ x. applied (units x.0) (read r.AfterArgumentVariable x.1))
    (do x ← read r.Constant w; y ← read r.Output x.1; Some (record { name = None; value = x.0; output = y.0 }, y.1))
argument_is w = by_order [] r.Argument w refl

pub after_argument_variable_on : (name : List ℕ) (w : List Terminal) → applied name (read r.AfterArgumentVariable w)
    ≡ when (expect (sign s.Equal) w) (λ x. do y ← read r.ArgumentValue x.1; z ← read r.Output y.1; Some (record { name = Some name; value = y.0; output = z.0 }, z.1))
    (do z ← read r.Output w; Some (record { name = None; value = argument.Variable name; output = z.0 }, z.1))
after_argument_variable_on name w = ap (applied name) (by_order [] r.AfterArgumentVariable w refl) ∙ simp (when_bind, bind_assoc)

pub argument_value_is : (w : List Terminal) → read r.ArgumentValue w
    ≡ when (expect variable w) (λ x. Some (argument.Variable (units x.0), x.1)) (do x ← read r.Constant w; Some (x.0, x.1))
argument_value_is w = by_order [] r.ArgumentValue w refl

pub constant_is : (w : List Terminal) → read r.Constant w
    ≡ (if sees_any (first_classes r.SignedNumber) w then (do x ← read r.SignedNumber w; Some (argument.Constant (value.Whole x.0), x.1)) else
    when (expect (c.One k.Text) w) (λ x. Some (argument.Constant (value.Text (units x.0)), x.1)) (do x ← expect (reserved word.Null) w; Some (argument.Constant value.Null, x.1)))
constant_is w = by_order [] r.Constant w refl

-- ---- what stands before bodies

pub params_is : (w : List Terminal) → read r.Params w ≡ (if sees_any (variable ∷ []) w then (do x ← read r.Param w; y ← read r.MoreParams x.1; Some (x.0 ∷ y.0, y.1)) else Some ([], w))
params_is w = by_order [] r.Params w refl

pub param_is : (w : List Terminal) → read r.Param w
    ≡ (do x ← expect variable w; kind ← read r.Type x.1; y ← read r.Output kind.1; Some (record { name = units x.0; kind = kind.0; output = y.0 }, y.1))
param_is w = by_order [] r.Param w refl

pub more_params_on : (done : List Parameter) (w : List Terminal) → front done (read r.MoreParams w)
    ≡ when (expect (sign s.Comma) w) (λ x. do y ← read r.Param x.1; front (done ++ y.0 ∷ []) (read r.MoreParams y.1)) (Some (done, w))
more_params_on done w = ap (front done) (by_order [] r.MoreParams w refl) ∙ simp (front_when, front_bind, append_assoc, append-nil)

pub output_is : (w : List Terminal) → read r.Output w ≡ when (expect (plain v.Output) w) (λ x. Some (true, x.1)) (Some (false, w))
output_is w = by_order [] r.Output w refl

pub trigger_time_is : (w : List Terminal) → read r.TriggerTime w ≡ when (expect (plain v.After) w) (λ x. Some (tt, x.1)) (do x ← expect (reserved word.For) w; Some (tt, x.1))
trigger_time_is w = by_order [] r.TriggerTime w refl

pub event_is : (w : List Terminal) → read r.Event w
    ≡ when (expect (reserved word.Insert) w) (λ x. Some (event.Insert, x.1)) (when (expect (reserved word.Update) w) (λ x. Some (event.Update, x.1))
    (do x ← expect (reserved word.Delete) w; Some (event.Delete, x.1)))
event_is w = by_order [] r.Event w refl

pub more_events_on : (done : List Event) (w : List Terminal) → front done (read r.MoreEvents w)
    ≡ when (expect (sign s.Comma) w) (λ x. do y ← read r.Event x.1; front (done ++ y.0 ∷ []) (read r.MoreEvents y.1)) (Some (done, w))
more_events_on done w = ap (front done) (by_order [] r.MoreEvents w refl) ∙ simp (front_when, front_bind, append_assoc, append-nil)
